-- What the state of the machine says of its slabs, and the view that the choice of a malloc has of it.
use Rattle.std.specs.Prelude.{◌≡◌, ◌≢◌, ◌&&◌, ℕ, zero, suc, ◌+◌, ◌*◌, nat_lt, nat_le, Bool, false, Option, Some, None, if◌then◌else◌}
use Rattle.size_classes.specs.Classes.{class_size}
use Rattle.heap_model.specs.Machine.{Bounds, Range, Machine, slab_block, LiesIn, IsUnused, IsFreeGranule}
use Rattle.heap_model.specs.Choice.{View}

-- the address lies in the slab at granule s
abbrev pub is_within : ℕ → ℕ → Bool
is_within s at = nat_le (16384 * s) at && nat_lt at (16384 * s + 65536)

-- the range begins in the slab at granule s
abbrev pub begins_in : ℕ → Option Range → Bool
begins_in s None = false
begins_in s (Some range) = is_within s range.at

-- how many of the first n roots name a block in the slab at s
abbrev pub live_below : (ℕ → Option Range) → ℕ → ℕ → ℕ
live_below block s zero = 0
live_below block s (suc n) = (if begins_in s (block n) then 1 else 0) + live_below block s n

-- a live block in the slab has another size than that of its class
pub record IsInTransition (m : Machine) (s : ℕ) : Type 0 where
  pub class : ℕ
  pub slab : m.slab s ≡ Some class
  pub root : ℕ
  pub range : Range
  pub named : m.block root ≡ Some range
  pub lies : LiesIn s range
  pub other : range.size ≢ class_size class

-- the view of a state
abbrev pub view_of : Bounds → Machine → View
view_of b m = record {
  free = IsFreeGranule b m;
  slab = m.slab;
  unused = λ s c number. IsUnused m (slab_block s c number);
  live = λ s. live_below m.block s b.roots;
  in_transition = IsInTransition m;
}
