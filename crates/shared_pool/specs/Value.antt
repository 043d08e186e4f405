-- The value behind an arena's lock, and what a job's answer says of its journal.
use Rattle.std.specs.Prelude.{◌≡◌, ℕ, List, [], ◌∷◌, ◌++◌, length, Result, Ok, Err}
use Rattle.heap_model.specs.declared.call.Call.{Call}
use Rattle.heap_model.specs.declared.call.Entry.{Entry}
use Rattle.arena_core.specs.Arena.{ArenaState}
use Rattle.arena_lock.specs.declared.opening.Opening.{Opening}
use Rattle.shared_pool.specs.declared.job.Receipt.{Receipt}

-- the arena when it was handed over, the calls since, and the arena now
pub record Held : Type 0 where
  pub opening : Opening
  pub journal : List Entry
  pub now : ArenaState

-- the journal grew by the receipt's entry, of this seat and call, which stands at the receipt's place; or it stayed
abbrev pub Receives : {E : Type 0} → ℕ → Call → List Entry → List Entry → Result Receipt E → Type 0
Receives seat call before after (Ok r) = (after ≡ before ++ r.entry ∷ []) × (r.place ≡ length before) × (r.entry.seat ≡ seat) × (r.entry.call ≡ call)
Receives seat call before after (Err e) = after ≡ before
