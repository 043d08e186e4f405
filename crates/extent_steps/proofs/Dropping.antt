-- A slab or a large extent is dropped: the image afterwards, and what a crash leaves.
use Rattle.std.proofs.Common.{◌≡◌, ◌≢◌, ℕ, ◌<◌, ◌≤◌, true, List, sym, ◌∙◌, arith, inl, ⊎_elim, Option, Some, None, false, refl, ap}
use Rattle.extent_steps.proofs.Common.{layout_of, version_in, granules_in, extent_at, Tables, AreSlabsInHeap, is_slab_of, is_slab, tables_of, IsSameOffLog, slab_table, Tomb, IsLogged, IsLoggedOrNot, off_log, IsSound, IsSteady, bounds_of, IsEitherHeap, AreSlabsInHeap-sound, bounds_of-off_log, IsFormed-logged, sizes_of, cond-false, false_from_ne_true, large_of, HasNoMove-closed, heap, IsFormed, IsFormed-off_log, heap-slab, IsSlabMore-logged, IsSlabPlace}
use Rattle.image_tables.specs.declared.extent.Extent.{Extent}
use Rattle.image_tables.specs.declared.extent.Extent.TheVariants as extent
use Rattle.image_tables.proofs.Stores.{IsSameOffLog-back, version_in-off_log, roots_plain, tables_off_log}
use Rattle.heap_check.specs.Slabs.{IsSlabMore}
use Rattle.heap_check.proofs.SlabPlaces.{IsSlabPlace-empty}
use Rattle.heap_check.proofs.SlabSound.{IsSteady-less, loosens_nothing, IsExact-less}
use Rattle.extent_steps.specs.Slabs.{IsDroppable, IsDropped}
use Rattle.extent_steps.proofs.Images.{IsNear, keeps_off_log, still_either, either}
use Rattle.std.proofs.lemmas.Bool.{le-ltb}
use Rattle.image_tables.specs.Tables.{tables_of}
use Rattle.image_tables.specs.Updates.{put_at}
use Rattle.heap_check.proofs.LooseExtents.{IsSteady-loose_gone, heap-loose_gone, loosens_no_other}
use Rattle.log_steps.proofs.LargeEntries.{slab_entry, large_entry}
use Rattle.extent_steps.specs.Large.{IsLooseExtent, IsExtentGone}

slab_extent : (x : Option Extent) → is_slab_of x ≡ true → x ≡ Some extent.Slab
slab_extent x is = grind arith

-- a slab in which no root's block lies
module _ {words : List ℕ} {start : ℕ} (may : IsDroppable words start) where
  abbrev t : Tables
  t = tables_of words

  sound : IsSound (bounds_of words) t
  sound = may.image.steady.sound

  slabs : AreSlabsInHeap words
  slabs = AreSlabsInHeap-sound words sound

  is_here : is_slab words start ≡ true
  is_here = sym (slab_table words start) ∙ may.empty.slab

  pub drop_lies : ((layout_of (version_in words)).first_granule ≤ start) × (start < granules_in words)
  drop_lies = grind arith

  -- the slab is gone

  module _ {image : List ℕ} (logged : IsLogged words (Tomb start) image) where
    off_words : IsSameOffLog words image
    off_words = off_log words image logged.rest

    none_here : extent_at image start ≡ None
    none_here = grind arith

    others_here : (other : ℕ) → other ≢ start → extent_at image other ≡ extent_at words other
    others_here other differ = grind arith

    was_slab : (other : ℕ) → is_slab image other ≡ true → is_slab words other ≡ true
    was_slab other is = grind arith

    without_it : IsSlabMore (tables_of image) t start
    without_it = IsSlabMore-logged image words start (grind (arith, off_log, IsSameOffLog-back, off_words, slabs, version_in-off_log, was_slab, none_here, slab_extent, is_here, others_here))

    drop_place : IsSlabPlace (bounds_of words) (tables_of image) t start
    drop_place = IsSlabPlace-empty sound may.closed (omega (arith, (sizes_of words may.image.formed).first)) without_it may.empty

    drop_near : IsNear words start image
    drop_near = record {
      formed = IsFormed-logged words image may.image.formed off_words slabs logged.rest.log (λ other is. inl (was_slab other is));
      bounds = bounds_of-off_log words image off_words;
      rest = grind arith;
    }

    drop_steady : IsSteady (bounds_of words) (tables_of image)
    drop_steady = IsSteady-less drop_place may.image.steady

    pub dropped : IsDropped words start image
    dropped = record {
      image = record { formed = drop_near.formed; steady = rw drop_near.bounds drop_steady };
      bounds = drop_near.bounds;
      slab = without_it;
      heap = record { each = λ root. sym (heap-slab drop_place root) };
      loose = loosens_nothing drop_place;
      exact = λ but. record { formed = drop_near.formed; exact = rw drop_near.bounds (IsExact-less drop_place but) };
      rest = drop_near.rest;
    }

    drop_either : (new : List ℕ) → IsEitherHeap words new image
    drop_either new = either words start new image drop_near drop_steady (λ root. sym (heap-slab drop_place root))
        (keeps_off_log words image may.image may.closed logged.rest) drop_place.closed

  pub dropped_or_not : (new image : List ℕ) → IsLoggedOrNot words (Tomb start) image → IsEitherHeap words new image
  dropped_or_not new image left =
      ⊎_elim (λ same. still_either words start new image may.image may.closed left.rest same) (λ less. drop_either {image = image} (record { rest = left.rest; extents = less }) new) left.extents

-- the number behind the last root names none
root_behind : (words : List ℕ) → (tables_of words).word (layout_of (version_in words)).roots ≡ 0
unfolding tables_of
root_behind words = cond-false _ _ 0 (le-ltb (layout_of (version_in words)).roots (layout_of (version_in words)).roots (omega arith))

-- a large extent that is loose
module _ {words : List ℕ} {start : ℕ} (may : IsLooseExtent words start) where
  pub loose_lies : ((layout_of (version_in words)).first_granule ≤ start) × (start < granules_in words)
  loose_lies = grind arith

  no_slab : is_slab words start ≡ false
  no_slab = sym (slab_table words start) ∙ false_from_ne_true ((tables_of words).slab start) (λ slab. omega (arith, may.image.steady.sound.extents.one_kind start slab, may.loose.live))

  abbrev spare : ℕ
  spare = (layout_of (version_in words)).roots

  no_root : (tables_of words).root spare ≡ 0
  no_root = ap (λ (row : ℕ → ℕ). row spare) (roots_plain words (HasNoMove-closed may.closed)) ∙ root_behind words

  module _ {image : List ℕ} (logged : IsLogged words (Tomb start) image) where
    same_slab : (other : ℕ) → is_slab image other ≡ is_slab words other
    same_slab other = ap is_slab_of (logged.extents other) ∙ slab_entry words (Tomb start) other refl no_slab

    gone_tables : tables_of image ≡ record (tables_of words) { large = put_at (tables_of words).large start 0 }
    gone_tables = tables_off_log words image (put_at (tables_of words).large start 0) (off_log words image logged.rest) (AreSlabsInHeap-sound words may.image.steady.sound) same_slab (λ other. ap large_of (logged.extents other) ∙ large_entry words (Tomb start) other)

    gone_bounds : bounds_of image ≡ bounds_of words
    gone_bounds = bounds_of-off_log words image (off_log words image logged.rest)

    first : 0 < (bounds_of words).first
    first = omega (arith, (sizes_of words may.image.formed).first)

    gone_formed : IsFormed image
    gone_formed = IsFormed-off_log words image may.image.formed (off_log words image logged.rest) (AreSlabsInHeap-sound words may.image.steady.sound) logged.rest.log same_slab

    gone_steady : IsSteady (bounds_of words) (tables_of image)
    gone_steady = rw gone_tables (IsSteady-loose_gone may.image.steady may.closed first may.loose spare (root_behind words) no_root)

    gone_heap : (root : ℕ) → heap (tables_of image) root ≡ heap (tables_of words) root
    gone_heap root = ap (λ (x : Tables). heap x root) gone_tables ∙ heap-loose_gone may.image.steady may.closed first may.loose spare (root_behind words) no_root root

    pub extent_gone : IsExtentGone words start image
    extent_gone = record {
      image = record { formed = gone_formed; steady = rw gone_bounds gone_steady };
      bounds = gone_bounds;
      tables = gone_tables;
      heap = record { each = gone_heap };
      loose = rw gone_tables (loosens_no_other may.image.steady may.closed first may.loose spare (root_behind words) no_root);
      rest = logged.rest;
    }

    gone_either : (new : List ℕ) → IsEitherHeap words new image
    gone_either new = grind (arith, either, gone_formed, gone_bounds, gone_steady, gone_heap, keeps_off_log, gone_tables)

  pub gone_or_not : (new image : List ℕ) → IsLoggedOrNot words (Tomb start) image → IsEitherHeap words new image
  gone_or_not new image left =
      ⊎_elim (λ same. still_either words start new image may.image may.closed left.rest same) (λ less. gone_either {image = image} (record { rest = left.rest; extents = less }) new) left.extents
