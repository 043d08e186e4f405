-- What workers need and do.
use Rattle.std.specs.Prelude.{◌≡◌, ℕ, ◌+◌, ◌^◌, ◌<◌, ◌≤◌, List, [], ◌∷◌, length}
use Rattle.shared_pool.specs.Passes.{PassState, PoolState, IsPassOf, part_at, mine_at}
use Rattle.trace_text.specs.declared.call.TraceCall.{TraceCall}
use Rattle.trace_runs.specs.Answers.{asked, calls_in}

-- with the calls that the pass has made, it had 2^57 turns at each arena
abbrev pub HasTurns : ℕ → PassState → Type 0
HasTurns made p = (a : ℕ) → a < length p.parts → 2 ^ 57 ≤ (part_at p a).turns + made

-- the pass has made no call, and has all its turns
pub record IsFresh (p : PassState) : Type 0 where
  pub none : (a : ℕ) → mine_at p a ≡ []
  pub turns : HasTurns 0 p

-- the pass's own calls of each arena are those that its thread asks of it
abbrev pub HasMadeOwn : List TraceCall → PassState → Type 0
HasMadeOwn calls p = (a : ℕ) → calls_in (mine_at p a) ≡ asked p.number a calls

-- each of these passes is of the pool and has made no call
abbrev pub AllReady : PoolState → List PassState → Type 0
AllReady pool [] = Unit {0}
AllReady pool (p ∷ ps) = (IsPassOf pool p × IsFresh p) × AllReady pool ps

abbrev pub AllOf : PoolState → List PassState → Type 0
AllOf pool [] = Unit {0}
AllOf pool (p ∷ ps) = IsPassOf pool p × AllOf pool ps

abbrev pub AllDone : List TraceCall → List PassState → Type 0
AllDone calls [] = Unit {0}
AllDone calls (p ∷ ps) = HasMadeOwn calls p × AllDone calls ps
