-- What `repair` means.
use Rattle.std.specs.Prelude.{◌≡◌, ℕ, ◌*◌, ◌<◌, List, length}
use Rattle.pool_layout.specs.declared.header.PoolHeader.{PoolHeader}
use Rattle.pool_layout.specs.Bytes.{words_of_bytes}
use Rattle.pool_layout.specs.Image.{part_of}
use Rattle.program_io.specs.declared.input.Kind.TheVariants as kinds
use Rattle.nvpool.specs.Meaning.{Meaning}
use Rattle.nvpool.specs.Rules.{PoolRules, log_pools, gc_pools}
use Rattle.nvpool.specs.Variants.{either}
use Rattle.nvpool.specs.Telling.{HasSoundArenas, RefusesImage}

-- all arenas of a pool with this header are sound, and the bytes are the image of the pool with each of them repaired
pub record IsPoolRepaired (r : PoolRules) (words : List ℕ) (header : PoolHeader) (bytes : List ℕ) : Type 0 where
  pub new : List ℕ
  pub image : r.IsImage bytes new header
  pub each : (arena : ℕ) → arena < header.arenas → r.IsRepaired (part_of words header.granules arena) (part_of new header.granules arena)

-- The input is the image of a pool of sound arenas, and the output that of one with the same header lines, whose arenas are those
-- of the input, each recovered: exact, with the same heap, in which each block has its words. Arenas that were exact are the same.
pub record AnswersRepair (r : PoolRules) (input output : List ℕ) : Type 0 where
  pub words : List ℕ
  pub header : PoolHeader
  pub image : r.IsImage input words header
  pub repaired : IsPoolRepaired r words header output

-- by variant, each refused as by `map`, and for both

abbrev pub repairing_by : PoolRules → Meaning
repairing_by r = record { reads = kinds.Image; answers = AnswersRepair r; refuses = RefusesImage r; accepts = HasSoundArenas r }

abbrev pub repairing : Meaning
repairing = either (repairing_by log_pools) (repairing_by gc_pools)

-- for the functions below

-- the bytes are those of as many words, in which each arena of a pool is repaired
pub record ArePartsRepaired (r : PoolRules) (words : List ℕ) (header : PoolHeader) (bytes : List ℕ) : Type 0 where
  pub new : List ℕ
  pub is : new ≡ words_of_bytes bytes
  pub whole : length bytes ≡ 8 * length new
  pub size : length new ≡ length words
  pub each : (arena : ℕ) → arena < header.arenas → r.IsRepaired (part_of words header.granules arena) (part_of new header.granules arena)

-- so they are the image of a pool with the header of that
abbrev pub KeepsImages : PoolRules → Type 0
KeepsImages r = (input words bytes : List ℕ) (header : PoolHeader) → r.IsImage input words header → (parts : ArePartsRepaired r words header bytes) → r.IsImage bytes parts.new header
