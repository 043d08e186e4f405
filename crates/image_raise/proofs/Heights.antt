-- Tables whose heap lies so many granules higher than that of others.
use Rattle.std.specs.Prelude.{◌≡◌, ℕ, ◌+◌, ◌<◌, ◌≤◌, false, None, option_map}
use Rattle.image_raise.proofs.Common.{Tables, Bounds, heap, slabs}
use Rattle.image_raise.specs.Rise.{raised_at, raised}

-- The second tables say of each granule what the first say of the one so many granules lower, and each root holds what it
-- holds there, as much higher. No entry is open in either.
pub record IsRaised (d : ℕ) (t u : Tables) : Type 0 where
  pub closed : t.open_entry ≡ None
  pub shut : u.open_entry ≡ None
  pub root : (r : ℕ) → u.root r ≡ raised_at d (t.root r)
  pub none_large : (s : ℕ) → s < d → u.large s ≡ 0
  pub none_slab : (s : ℕ) → s < d → u.slab s ≡ false
  pub large : (s : ℕ) → u.large (s + d) ≡ t.large s
  pub slab : (s : ℕ) → u.slab (s + d) ≡ t.slab s
  pub header : (s : ℕ) → u.header (s + d) ≡ t.header s

-- the second have the blocks of the first, as much higher, and the slabs, with the same classes
pub record IsRaisedHeap (d : ℕ) (t u : Tables) : Type 0 where
  pub blocks : (root : ℕ) → heap u root ≡ option_map (raised d) (heap t root)
  pub no_slab : (s : ℕ) → s < d → slabs u s ≡ None
  pub slab : (s : ℕ) → slabs u (s + d) ≡ slabs t s

-- the second arena has so many granules more, all of them before its heap
pub record IsWider (d : ℕ) (b c : Bounds) : Type 0 where
  pub first : c.first ≡ b.first + d
  pub granules : c.granules ≡ b.granules + d
  pub low : 4 ≤ b.first
