-- What saw the calls of an arena, one after another.
use Rattle.std.specs.Prelude.{◌≡◌, List, [], ◌∷◌}
use Rattle.trace_runs.specs.Runs.{Stage}
use Rattle.trace_crashes.specs.Seek.{last_stage}
use Rattle.attach_dict.specs.Stages.{DictState}

module _ {L : Type 0} (sees : L → Stage → L → Type 0) where
  -- it saw the call that the arena of a dictionary made last
  abbrev pub HasSeen : L → DictState → L → Type 0
  HasSeen look dict then = sees look (last_stage dict.arena.device) then

  -- it saw these calls
  abbrev pub HasSeenAll : L → List Stage → L → Type 0
  HasSeenAll look [] then = then ≡ look
  HasSeenAll look (stage ∷ stages) then = (next : L) × sees look stage next × HasSeenAll next stages then
