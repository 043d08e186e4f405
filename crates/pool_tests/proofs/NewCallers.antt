-- New passes have all their turns.
use Rattle.std.proofs.Common.{◌≡◌, ℕ, zero, suc, ◌<◌, ◌≤◌, List, [], ◌∷◌, length, arith, subst, sym}
use Rattle.arena_lock.specs.Known.{Lock}
use Rattle.shared_pool.specs.Passes.{PassState, PoolState, part_at, fresh_pass}
use Rattle.shared_pool.proofs.AllPasses.{fresh_fits}
use Rattle.pool_tests.specs.CallsLeft.{CanCall}

fresh_turns : (n left : ℕ) (locks : List Lock) → left ≤ 1000 → (a : ℕ) → a < length locks → left ≤ (part_at (fresh_pass locks n) a).turns
fresh_turns n left [] few a l = absurd (omega arith)
fresh_turns n left (x ∷ xs) few zero l = omega (arith, few)
fresh_turns n left (x ∷ xs) few (suc a) l = fresh_turns n left xs few a (omega arith)

-- so that a few calls may be made by each
pub fresh_can : (n left : ℕ) (pool : PoolState) (pass : PassState) → left ≤ 1000 → pass ≡ fresh_pass pool.locks n → CanCall pool (record { pass = pass; left = left })
fresh_can n left pool pass few is = subst (λ (p : PassState). CanCall pool (record { pass = p; left = left })) (sym is) (record { of = fresh_fits n pool.locks; turns = fresh_turns n left pool.locks few })
