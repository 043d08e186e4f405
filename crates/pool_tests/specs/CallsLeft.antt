-- Passes that may still make some calls.
use Rattle.std.specs.Prelude.{ℕ, ◌<◌, ◌≤◌, length}
use Rattle.shared_pool.specs.Passes.{PassState, PoolState, IsPassOf, part_at}

-- a pass, and how many calls it may make at most
pub record CallerState : Type 0 where
  pub pass : PassState
  pub left : ℕ

-- the pass is of the pool, and has a turn at each arena for each call that it may make
pub record CanCall (pool : PoolState) (c : CallerState) : Type 0 where
  pub of : IsPassOf pool c.pass
  pub turns : (a : ℕ) → a < length pool.locks → c.left ≤ (part_at c.pass a).turns
