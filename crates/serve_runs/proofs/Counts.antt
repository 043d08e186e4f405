-- How many calls an arena has, call by call.
use Rattle.std.proofs.Common.{◌≡◌, ◌≢◌, ℕ, ◌+◌, ◌<◌, List, [], ◌∷◌, length, take, get_or, ap, ◌∙◌, length-append}
use Rattle.serve_runs.proofs.Common.{TraceCall, calls_of}
use Rattle.trace_runs.proofs.Answers.{calls_of-here, calls_of-other}

-- one call further, which is of the arena
pub count_more : (arena k : ℕ) (calls : List TraceCall) (d : TraceCall) → k < length calls → (get_or calls k d).arena ≡ arena → length (calls_of arena (take (k + 1) calls)) ≡ length (calls_of arena (take k calls)) + 1
count_more arena k calls d here is = ap length (calls_of-here arena calls k d here is) ∙ length-append (calls_of arena (take k calls)) (get_or calls k d ∷ [])

-- which is of another
pub count_other : (arena k : ℕ) (calls : List TraceCall) (d : TraceCall) → k < length calls → (get_or calls k d).arena ≢ arena → length (calls_of arena (take (k + 1) calls)) ≡ length (calls_of arena (take k calls))
count_other arena k calls d here other = ap length (calls_of-other arena calls k d here other)
