-- Blocks of a class, in slabs of the class and in others.
use Rattle.std.proofs.Common.{◌≡◌, ◌≢◌, ◌↔◌, ℕ, List, ap, arith}
use Rattle.image_tables.specs.Tables.{Tables}
use Rattle.gc_check.specs.Heap.{gc_tables}
use Rattle.gc_check.specs.Image.{IsGcSoundImage}
use Rattle.gc_map.specs.Slabs.{IsLiveOf, IsOldOf}
use Rattle.gc_map.specs.declared.places.Place.{Place}
use Rattle.gc_map.specs.Places.{HasNoPlace, IsPlaceOf}
use Rattle.gc_map.proofs.Slabs.{one_slab}

pub live_none : (t : Tables) (class root : ℕ) → HasNoPlace t root → ¬ (IsLiveOf t class root)
live_none t class root none is = none.none is.start is.live.lies

pub old_none : (t : Tables) (class root : ℕ) → HasNoPlace t root → ¬ (IsOldOf t class root)
old_none t class root none is = none.none is.start is.old.lies

module _ (words : List ℕ) (sound : IsGcSoundImage words) (class root : ℕ) (place : Place) (there : IsPlaceOf (gc_tables words) root place) where
  abbrev t : Tables
  t = gc_tables words

  pub live_there : IsLiveOf t class root ↔ ((place.class ≡ class) × (place.slab_class ≡ class))
  live_there = (
    λ is.
        let same : is.start ≡ place.start = one_slab words sound is.start place.start root is.live.lies there.lies in
        let slab : (t.header is.start).class ≡ (t.header place.start).class = ap (λ s. (t.header s).class) same in
        (omega (arith, there.class, is.is), omega (arith, is.live.same, slab, there.slab_class, is.is)),
    λ both. record {
      start = place.start;
      live = record { lies = there.lies; same = omega (arith, there.class, both.0, there.slab_class, both.1) };
      is = omega (arith, there.class, both.0);
    },
  )

  pub old_there : IsOldOf t class root ↔ ((place.class ≡ class) × (place.slab_class ≢ class))
  old_there = (
    λ is.
        let same : is.start ≡ place.start = one_slab words sound is.start place.start root is.old.lies there.lies in
        let slab : (t.header is.start).class ≡ (t.header place.start).class = ap (λ s. (t.header s).class) same in
        (omega (arith, there.class, is.is), λ own. is.old.other (omega (arith, slab, there.slab_class, own, is.is))),
    λ both. record {
      start = place.start;
      old = record { lies = there.lies; other = λ own. both.1 (omega (arith, there.class, both.0, there.slab_class, own)) };
      is = omega (arith, there.class, both.0);
    },
  )
