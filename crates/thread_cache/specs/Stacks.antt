-- The stacks of reserved blocks that caches mean: those of the placement, a list of addresses for each seat and class, the
-- top one first.
use Rattle.std.specs.Prelude.{◌≡◌, ℕ, ◌+◌, ◌*◌, ◌&&◌, nat_lt, List, [], slice_index_or, if◌then◌else◌}
use Rattle.heap_model.specs.Placement.{Stacks, Has, HasTop, HasStacked, IsPop}

-- the stacks, one after another: 64 of seats for each class
pub record StackTable : Type 0 where
  pub lists : List (List ℕ)

-- the stack of each seat and class; those of seats from 64 and classes from 36 on stay empty
unfoldable pub stacks_of : StackTable → Stacks
stacks_of table seat class = if nat_lt seat 64 && nat_lt class 36 then slice_index_or table.lists (64 * class + seat) [] else []

-- the address is in a stack
pub record IsHeld (stacks : Stacks) (at : ℕ) : Type 0 where
  pub seat : ℕ
  pub class : ℕ
  pub has : Has (stacks seat class) at

-- the stack had no block, and nothing changed
pub record WasEmpty (old : StackTable) (seat class : ℕ) (new : StackTable) : Type 0 where
  pub empty : stacks_of old seat class ≡ []
  pub same : new ≡ old

-- the stack gave its top, and only that stack changed
pub record GaveTop (old : Stacks) (seat class at : ℕ) (new : Stacks) : Type 0 where
  pub top : HasTop old seat class
  pub pop : IsPop top at new

-- all stacks of the class had no block, and nothing changed
pub record WereEmpty (old : StackTable) (class : ℕ) (new : StackTable) : Type 0 where
  pub empty : (seat : ℕ) → stacks_of old seat class ≡ []
  pub same : new ≡ old

-- the lowest-numbered seat whose stack of the class had a top gave it, and only that stack changed
pub record GaveFirst (old : Stacks) (class at : ℕ) (new : Stacks) : Type 0 where
  pub stacked : HasStacked old class
  pub pop : IsPop stacked.first.top at new
