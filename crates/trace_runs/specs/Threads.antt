-- The threads of a trace's calls.
use Rattle.std.specs.Prelude.{◌≡◌, ℕ, ◌+◌, ◌^◌, ◌<◌, max, List, [], ◌∷◌, length}
use Rattle.std.specs.List.{All}
use Rattle.trace_text.specs.declared.call.PoolSize.{PoolSize}
use Rattle.trace_text.specs.declared.call.TraceCall.{TraceCall}
use Rattle.trace_text.specs.Grammar.{IsPool, IsTraceCall}

-- how many threads these calls have at most: one more than the greatest thread number, and one where there is no call
abbrev pub seats_for : List TraceCall → ℕ
seats_for [] = 1
seats_for (c ∷ cs) = max (c.thread + 1) (seats_for cs)

-- each call is of one of so many arenas
abbrev pub AllIn : ℕ → List TraceCall → Type 0
AllIn arenas calls = All (λ c. c.arena < arenas) calls

-- each call's thread is below this number
abbrev pub AllBy : ℕ → List TraceCall → Type 0
AllBy seats calls = All (λ c. c.thread < seats) calls

-- calls of a trace of this pool, and as many arenas as it has
pub record IsWorkOf (pool : PoolSize) (calls : List TraceCall) (arenas : ℕ) : Type 0 where
  pub sized : IsPool pool
  pub each : All (IsTraceCall pool.arenas) calls
  pub few : length calls < 2 ^ 32
  pub all : arenas ≡ pool.arenas
