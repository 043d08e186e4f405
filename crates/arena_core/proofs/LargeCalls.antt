-- A large block is given to a root, or taken from it: the image at each of the stores, and what a crash leaves.
use Rattle.std.proofs.Common.{ap, ◌∙◌, ◌≡◌, ◌≢◌, ◌⊎◌, ℕ, ◌*◌, List, ◌++◌, refl, sym, subst, arith, inl, inr, ⊎_elim, ◌+◌, ◌<◌, ◌≤◌, Some, None}
use Rattle.arena_core.proofs.Common.{bounds_of-same, cases_eq, put_word, reading, PmemState, words_of, IsQuietStep, step_by, step_then, step_wider, root_word, Tables, tables_of, put_at, put_at-same, put_at-other, IsLooseExtent, Large, Tomb, bounds_of, IsExactImage, AreSlabsInHeap-sound, granules_at-large, IsLargePlace, HaveSameHeap, KeepsBlocks, IsEitherHeap, root_events, PutsRootOrNot, place_events, take_events, IsLogged, IsLoggedOrNot, IsGivable, IsTakable, sizes_of, root_inside, HasNoMove-closed, Covers, GivesRoot, KeepsSlabs, slabs, live_in, heap-none, Bounds, log_events, same_heap, steps_then, IsStageOf, keeps_stage, FreeSet, IsIndexOf}
use Rattle.extent_index.specs.FreeSet.{IsHeldRow}
use Rattle.heap_check.proofs.LargePlaces.{IsLargePlace-vacant, IsLargePlace-named}
use Rattle.arena_core.proofs.LargeStages.{stage_same, stage_entry}
use Rattle.heap_check.proofs.LargeImages.{stage_none, stage_root, steady_stage, same_none, same_some, either_stage}
use Rattle.heap_check.proofs.LiveCounts.{live_in-large}
use Rattle.arena_core.proofs.LargeStages.{heap-takable}

module _ (words : List ℕ) (root start count : ℕ) (exact : IsExactImage words) (givable : IsGivable (bounds_of words) (tables_of words) root start count) where
  pub give_place : IsLargePlace (bounds_of words) (tables_of words) root start count
  give_place = IsLargePlace-vacant exact.exact (omega (arith, (sizes_of words exact.formed).first)) (omega (arith, givable.many)) givable.none givable.row.vacant

  -- before
  pub nothing : (tables_of words).large start ≡ 0
  nothing = grind arith

  begun : IsStageOf words root start 0 0 words
  begun = subst (λ n. IsStageOf words root start n 0 words) nothing
      (subst (λ w. IsStageOf words root start ((tables_of words).large start) w words) givable.none
      (stage_none words root start exact.formed (AreSlabsInHeap-sound words exact.exact.sound) (HasNoMove-closed exact.exact.closed)))

  -- the extent is in the log
  pub given_extent : (image : List ℕ) → IsLogged words (Large start count) image → IsStageOf words root start count 0 image
  given_extent image logged = stage_entry words root start 0 0 words image (Large start count) count begun logged.rest logged.extents refl refl refl give_place.no_slab

  -- the root has its address
  pub given_root : (made : List ℕ) → IsStageOf words root start count 0 made → IsStageOf words root start count (16384 * start) (put_word made (root_word root) (16384 * start))
  given_root made stage = stage_root words root start count 0 made (16384 * start) stage givable.below (root_inside words root exact.formed givable.below)

  -- both
  pub given : (made new : List ℕ) → IsLogged words (Large start count) made → new ≡ put_word made (root_word root) (16384 * start) → IsStageOf words root start count (16384 * start) new
  given made new logged is = subst (λ (ws : List ℕ). IsStageOf words root start count (16384 * start) ws) (sym is) (given_root made (given_extent made logged))

  -- crashes
  module _ (new : List ℕ) (done : IsStageOf words root start count (16384 * start) new) where
    before : (here : ℕ) (image : List ℕ) → (here ≡ 0) ⊎ (here ≡ count) → IsStageOf words root start here 0 image → IsEitherHeap words new image
    before here image either stage = either_stage exact give_place new here 0 image (record { is = ⊎_elim (λ none. inl (none, refl)) (λ all. inr (all, inl refl)) either }) (inl (same_none exact give_place 0 here words image begun stage)) stage

    after : (image : List ℕ) → IsStageOf words root start count (16384 * start) image → IsEitherHeap words new image
    after image stage = either_stage exact give_place new count (16384 * start) image (record { is = inr (refl, inr refl) }) (inr (same_some exact give_place new image done stage)) stage

    crash_extent : (image : List ℕ) → IsLoggedOrNot words (Large start count) image → IsEitherHeap words new image
    crash_extent image either = ⊎_elim
        (λ same. before 0 image (inl refl) (stage_same words root start 0 0 words image begun either.rest same))
        (λ more. before count image (inr refl) (given_extent image (record { rest = either.rest; extents = more })))
        either.extents

    crash_root : (made : List ℕ) → IsStageOf words root start count 0 made → (image : List ℕ) → PutsRootOrNot made root (16384 * start) image → IsEitherHeap words new image
    crash_root made stage image either = ⊎_elim
        (λ (old : image ≡ made). before count image (inr refl) (subst (λ (ws : List ℕ). IsStageOf words root start count 0 ws) (sym old) stage))
        (λ (put : image ≡ put_word made (root_word root) (16384 * start)).
        after image (subst (λ (ws : List ℕ). IsStageOf words root start count (16384 * start) ws) (sym put) (given_root made stage)))
        either

    pub give_step : {s t u : PmemState} (made : List ℕ) → IsStageOf words root start count 0 made → IsQuietStep s t (log_events words (Large start count)) (IsLoggedOrNot words (Large start count)) →
        IsQuietStep t u (root_events root (16384 * start)) (PutsRootOrNot made root (16384 * start)) → IsQuietStep s u (place_events words root start count) (IsEitherHeap words new)
    give_step made stage first second = step_then (IsEitherHeap words new) (λ ws. root_events root (16384 * start)) first second crash_extent (crash_root made stage)

module _ (words : List ℕ) (root start count : ℕ) (exact : IsExactImage words) (takable : IsTakable (bounds_of words) (tables_of words) root start count) where
  pub take_place : IsLargePlace (bounds_of words) (tables_of words) root start count
  take_place = IsLargePlace-named exact.exact (omega (arith, (sizes_of words exact.formed).first)) (omega (arith, takable.many)) takable.named takable.live

  -- before
  held : IsStageOf words root start count (16384 * start) words
  held = subst (λ n. IsStageOf words root start n (16384 * start) words) takable.live
      (subst (λ w. IsStageOf words root start ((tables_of words).large start) w words) takable.named
      (stage_none words root start exact.formed (AreSlabsInHeap-sound words exact.exact.sound) (HasNoMove-closed exact.exact.closed)))

  -- the root's word is 0
  pub taken_root : IsStageOf words root start count 0 (put_word words (root_word root) 0)
  taken_root = stage_root words root start count (16384 * start) words 0 held takable.below (root_inside words root exact.formed takable.below)

  -- and its extent is loose
  pub taken_loose : IsLooseExtent (put_word words (root_word root) 0) start
  taken_loose =
      let made = put_word words (root_word root) 0 in
      let stage = taken_root in
      let root_of : (r : ℕ) → (tables_of made).root r ≡ put_at (tables_of words).root root 0 r = λ r. ap (λ (t : Tables). t.root r) stage.tables in
      record {
        image = steady_stage exact take_place count 0 made (record { is = inr (refl, inl refl) }) stage;
        closed = ap (λ (t : Tables). t.open_entry) stage.tables ∙ exact.exact.closed;
        loose = record {
          live = omega (arith, ap (λ (t : Tables). t.large start) stage.tables, put_at-same (tables_of words).large start count, takable.many);
          unnamed = λ r is. ⊎_elim
              (λ (same : r ≡ root). omega (arith, is, root_of r, ap (put_at (tables_of words).root root 0) same, put_at-same (tables_of words).root root 0, take_place.low, take_place.first))
              (λ (differ : r ≢ root). take_place.lone r differ (sym (root_of r ∙ put_at-other (tables_of words).root root r 0 differ) ∙ is))
              (cases_eq r root);
        };
      }

  -- a granule of the block is covered by its extent
  pub taken_covers : (k : ℕ) → start ≤ k → k < start + count → Covers (tables_of words) start k
  taken_covers k low high = record { low = low; high = omega (arith, high, granules_at-large (tables_of words) start take_place.no_slab, takable.live) }

  -- so its granules are none of those that are free
  pub taken_held : (set : FreeSet) → IsIndexOf set words → IsHeldRow set start count
  taken_held set index = record {
    each = λ k low high. (
      omega (arith, low, takable.low, (sizes_of words exact.formed).first),
      omega (arith, high, takable.high, index.granules),
      λ free. ((index.each k).0 free).none start (taken_covers k low high),
    );
  }

  -- crashes
  crash_cleared : (image : List ℕ) → PutsRootOrNot words root 0 image → IsEitherHeap words (put_word words (root_word root) 0) image
  crash_cleared image either = ⊎_elim
      (λ (old : image ≡ words). subst (IsEitherHeap words (put_word words (root_word root) 0)) (sym old) (same_heap words (put_word words (root_word root) 0) exact))
      (λ (put : image ≡ put_word words (root_word root) 0).
      let stage = subst (λ (ws : List ℕ). IsStageOf words root start count 0 ws) (sym put) taken_root in
      either_stage exact take_place (put_word words (root_word root) 0) count 0 image (record { is = inr (refl, inl refl) }) (inr (same_none exact take_place count count (put_word words (root_word root) 0) image taken_root stage)) stage)
      either

  pub take_step : {s t u : PmemState} (new : List ℕ) → words_of t ≡ put_word words (root_word root) 0 → HaveSameHeap (words_of t) new → IsQuietStep s t (root_events root 0) (PutsRootOrNot words root 0) →
      IsQuietStep t u (log_events (words_of t) (Tomb start)) (IsEitherHeap (words_of t) new) → IsQuietStep s u (take_events words root start) (IsEitherHeap words new)
  take_step {s} {t} {u} new is same first second =
      let made = put_word words (root_word root) 0 in
      let keeps : KeepsBlocks words (words_of t) = subst (KeepsBlocks words) (sym is) (keeps_stage exact take_place count 0 made taken_root) in
      step_by (root_events root 0 ++ log_events (reading (words_of s) (root_events root 0)) (Tomb start)) (take_events words root start)
      (ap (λ (ws : List ℕ). root_events root 0 ++ log_events ws (Tomb start)) (sym first.appends.words ∙ is))
      (steps_then words new (inr same) (λ ws. log_events ws (Tomb start)) keeps
      (step_wider (λ image either. subst (λ (ws : List ℕ). IsEitherHeap words ws image) (sym is) (crash_cleared image either)) first) second)

-- the slabs have as many live blocks as before, where a root got a large block
pub live_given_large : (words new : List ℕ) (root start count : ℕ) → IsExactImage words → IsGivable (bounds_of words) (tables_of words) root start count → IsExactImage new →
    GivesRoot words root (Some (record { at = 16384 * start; size = 16384 * count })) (slabs (tables_of words)) new → KeepsSlabs words new → (tables_of new).large start ≡ count → (s : ℕ) → live_in new s ≡ live_in words s
live_given_large words new root start count image may after gives keeps large =
    live_in-large words new root start count after.exact.sound large (omega (arith, may.many)) may.below (bounds_of-same words new gives.header) (λ s. (keeps.each s).slab) (heap-none (tables_of words) root may.none) gives.here gives.others

-- and where it lost it
pub live_taken_large : (words new : List ℕ) (root start count : ℕ) → IsExactImage words → IsTakable (bounds_of words) (tables_of words) root start count →
    GivesRoot words root None (slabs (tables_of words)) new → KeepsSlabs words new → (s : ℕ) → live_in new s ≡ live_in words s
live_taken_large words new root start count image taken gives keeps s =
    sym (live_in-large new words root start count image.exact.sound taken.live (omega (arith, taken.many)) (subst (λ (b : Bounds). root < b.roots) (sym (bounds_of-same words new gives.header)) taken.below) (sym (bounds_of-same words new gives.header)) (λ s. sym (keeps.each s).slab) gives.here
    (heap-takable (bounds_of words) (tables_of words) root start count (omega (arith, (sizes_of words image.formed).first)) taken) (λ other differ. sym (gives.others other differ)) s)
