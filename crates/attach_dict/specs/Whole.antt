-- A dictionary as the code has it: what it means, and what it keeps.
use Rattle.std.specs.Prelude.{ℕ}
use Rattle.pmem_lines.specs.Pmem.{words_of}
use Rattle.arena_core.specs.Arena.{ArenaState}
use Rattle.attach_dict.specs.declared.index.DictIndex.{DictIndex}
use Rattle.attach_dict.specs.declared.progress.Progress.{Progress}
use Rattle.attach_dict.specs.Stages.{DictState, IsKept}
use Rattle.attach_dict.specs.View.{pairs_in, phase_in, AreIndexes}

-- its arena, its map and its phase, by the roots of its keys and how far a put has come
abbrev pub state_of : ArenaState → DictIndex → ℕ → Progress → DictState
state_of arena index key progress =
    record { arena = arena; pairs = pairs_in (words_of arena.device) index.keys.rows; phase = phase_in (words_of arena.device) key progress }

-- the arena is kept as a dictionary has to keep it, and the indexes are those of its image
pub record IsWhole (arena : ArenaState) (index : DictIndex) (key : ℕ) (progress : Progress) : Type 0 where
  pub kept : IsKept (state_of arena index key progress)
  pub indexes : AreIndexes (words_of arena.device) (phase_in (words_of arena.device) key progress) index
