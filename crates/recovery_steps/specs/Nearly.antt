-- Slabs that are nearly done. In a steady image there is one at most; a sound one may have a second, and then one of the two
-- is done already.
use Rattle.std.specs.Prelude.{◌≢◌, ℕ}
use Rattle.image_tables.specs.Tables.{Tables}
use Rattle.heap_check.specs.Sound.{IsDoneSlab, IsNearlyDone}

-- a slab other than this one is nearly done
pub record HasOtherNear (t : Tables) (start : ℕ) : Type 0 where
  pub other : ℕ
  pub differ : other ≢ start
  pub near : IsNearlyDone t other

-- the slab is done, and another nearly so
pub record IsDoneBesides (t : Tables) (start : ℕ) : Type 0 where
  pub done : IsDoneSlab t start
  pub another : HasOtherNear t start
