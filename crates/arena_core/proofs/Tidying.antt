-- Whether a slab keeps a block once one of its blocks goes: it is dropped where it holds none, and its transition ends where
-- no old one is left.
use Rattle.std.proofs.Common.{◌<◌, true≢false, ◌⊎◌, ◌≤◌, ◌+◌, ◌≡◌, ◌≢◌, ◌||◌, ℕ, true, false, refl, sym, ap, subst, ◌∙◌, inl, inr, ⊎_elim, Bool, arith, ◌*◌, ◌/◌, ◌↔◌, ◌==◌, not, IsTrue, List, [], slice_index, Some, None, if◌then◌else◌}
use Rattle.arena_core.proofs.Common.{word_at, fields_word, is_unfit, Book, FreeSet, IsFree, Supply, HasSlabLess, IsEitherHeap, IsBookOf, sizes_of, IsUnusedIn-same, live_below, cases_Bool, class_capacity, Tables, Bounds, Range, slab_block, any_below, entry_at, Holds, HoldsBit, HoldsOld, IsInSlab, IsEmptySlab, IsExactBut, plain_size, IsNamed-claim, IsClaim-word, Holds-claim, none_morphing_but, IsInSlab-held, IsLastOf, holds_none, cond-true, cond-false, eqb-true, and_from, and_parts, false_from_ne_true, PmemState, words_of, IsQuietStep, step_by, step_none, step_wider, morphed_kind, is_slab, tables_of, with_key, slabs, heap, IsDoneSlab, bounds_of, IsExactImage, IsSteadyImage, IsSteady-but, Volatile, Lives, normal_at, AreCountsOf, normal_of, IsTidied, slabs_but, tidy_events, HasNoMove-closed, granule_word, block_word-header, slabs-other, IsSlabPlace, keeps_blocks, same_heap, live_none, live_same, counts_kept, with_key-is, normal_of-none, normal_of-same}
use Rattle.std.proofs.lemmas.Bool.{cases_eq, or_parts, or_cases, true_from_ne_false}
use Rattle.image_tables.specs.Forms.{morphing_kind}
use Rattle.heap_model.proofs.Below.{any_below-each, any_below-some}
use Rattle.arena_core.proofs.Tests.{not_true, not_false}
use Rattle.arena_core.proofs.Readiness.{ready_after, fields_kept}
use Rattle.heap_check.proofs.SameSlabs.{IsSameSlab-back}
use Rattle.heap_check.proofs.SlabHeaps.{slabs-none, IsVacant-no_slab}
use Rattle.heap_check.proofs.SlabPlaces.{IsSlabPlace-empty}
use Rattle.extent_steps.specs.Slabs.{IsDropped, IsDroppable, drop_events}
use Rattle.transition_steps.specs.Transitions.{end_events, IsEndable, LeavesEntry, IsEnded}
use Rattle.arena_core.specs.Carried.{IsUntidy}
use Rattle.arena_core.specs.Events.{is_done}
use Rattle.arena_core.proofs.AdoptedSlabs.{class_read}
use Rattle.arena_core.proofs.Arenas.{index_by, index_more}
use Rattle.arena_core.proofs.ChangedHeaders.{IsHeaderChange, row, header_now, header_other, log_header, book_header, index_header, unused_header}
use Rattle.arena_core.proofs.LiveSlabs.{lives_put}
use Rattle.arena_core.proofs.SlabChanges.{exact_held}
use Rattle.arena_core.proofs.SmallCalls.{of_each, blocks_kept}
use Rattle.slab_morph.specs.Stages.{settled}
use Rattle.heap_check.proofs.LiveCounts.{live_some}
use Rattle.image_tables.specs.Tables.{SlabHeader}

module _ (t : Tables) (start : ℕ) where
  abbrev bits : Bool
  bits = any_below (t.header start).bit (class_capacity (t.header start).class)

  abbrev olds : Bool
  olds = any_below (t.header start).live (t.header start).index_count

  -- a slab that holds no block by its tests holds none
  pub none_by_tests : holds_none t start ≡ true → (range : Range) → ¬ (Holds t start range)
  none_by_tests none range holds =
      let parts = or_parts bits olds (not_true (bits || olds) none) in
      ⊎_elim
      (λ (bit : HoldsBit (t.header start) start range). true≢false (sym bit.set ∙ any_below-each (t.header start).bit (class_capacity (t.header start).class) parts.0 bit.number bit.below))
      (λ (old : HoldsOld (t.header start) start range). true≢false (sym old.live ∙ any_below-each (t.header start).live (t.header start).index_count parts.1 old.place old.below))
      holds.block

  -- and one that holds some by them holds it
  pub some_by_tests : t.slab start ≡ true → (t.header start).kind ≢ morphing_kind → holds_none t start ≡ false → (range : Range) × Holds t start range
  some_by_tests slab none_morphing some = ⊎_elim
      (λ (set : bits ≡ true).
      let found = any_below-some (t.header start).bit (class_capacity (t.header start).class) set in
      (slab_block start (t.header start).class found.0, record { slab = slab; block = inl (record { number = found.0; below = found.1; read = none_morphing; set = found.2; is = refl }) }))
      (λ (live : olds ≡ true).
      let found = any_below-some (t.header start).live (t.header start).index_count live in
      (slab_block start (t.header start).old ((t.header start).number found.0), record { slab = slab; block = inr (record { place = found.0; below = found.1; live = found.2; is = refl }) }))
      (or_cases bits olds (not_false (bits || olds) some))

-- an image that is exact but for a slab
module _ {b : Bounds} {t : Tables} (start : ℕ) (but : IsExactBut b t start) (slab : t.slab start ≡ true) where
  unnamed : (root : ℕ) → entry_at t.open_entry root ≡ 0
  unnamed root = ap (λ e. entry_at e root) but.closed

  -- where it holds no block, no root's word lies in it
  pub empty_by_tests : holds_none t start ≡ true → IsEmptySlab t start
  empty_by_tests none = record {
    slab = slab;
    none = λ root some inside.
        let range : Range = record { at = t.root root; size = plain_size t (t.root root) } in
        none_by_tests t start none range (Holds-claim but.sound root start range (unnamed root) (IsClaim-word t root (unnamed root) some) inside);
  }

  -- where it holds one, some root's does
  pub rooted_by_tests : holds_none t start ≡ false → (root : ℕ) × (t.root root ≢ 0) × IsInSlab t start (t.root root)
  rooted_by_tests some =
      let held = some_by_tests t start slab (none_morphing_but but start slab) some in
      let owner = but.sound.owned.claimed start held.0 held.1 in
      let its = IsNamed-claim t owner.0 held.0 (unnamed owner.0) owner.1 in
      (owner.0, λ none. its.some (sym its.word ∙ none), subst (IsInSlab t start) (sym its.word) (IsInSlab-held but.sound start held.0 held.1))

-- A root lost its block in the slab: whether it was the last.
pub last_of : {b : Bounds} (t : Tables) {left : Tables} (root start : ℕ) → IsExactBut b left start → left.slab start ≡ true → t.slab start ≡ true → left.root root ≡ 0 → ((other : ℕ) → other ≢ root → left.root other ≡ t.root other) →
    IsLastOf t root start (holds_none left start)
last_of {b} t {left} root start but slab was gone others = record {
  is = ⊎_elim
      (λ (none : holds_none left start ≡ true).
      inl (
        none,
        λ other differ some inside.
            let same = others other differ in
            (empty_by_tests start but slab none).none other (λ zero. some (sym same ∙ zero)) (record { slab = slab; low = omega (arith, inside.low, same); high = omega (arith, inside.high, same) }),
      ))
      (λ (some : holds_none left start ≡ false).
      let rooted = rooted_by_tests start but slab some in
      grind arith)
      (cases_Bool (holds_none left start));
}

-- the test of a slab that is done
pub done_by_test : (t : Tables) (start : ℕ) → IsDoneSlab t start → is_done t start ≡ true
done_by_test t start done = grind (arith, and_from, false_from_ne_true, any_below-some)

pub not_done_by_test : (t : Tables) (start : ℕ) → t.slab start ≡ true → ¬ (IsDoneSlab t start) → is_done t start ≡ false
not_done_by_test t start slab lively = false_from_ne_true (is_done t start) (λ is.
    let parts = and_parts ((t.header start).kind == morphed_kind) (not (any_below (t.header start).live (t.header start).index_count)) is in
    lively (record { slab = slab; kind = eqb-true (t.header start).kind morphed_kind parts.0; none = λ place below. any_below-each (t.header start).live (t.header start).index_count (not_true (any_below (t.header start).live (t.header start).index_count) parts.1) place below }))

-- the slab that was read is this one
pub done_here : (t : Tables) {slab start : ℕ} {is : Bool} → slab ≡ 8 * granule_word start → IsTrue is ↔ IsDoneSlab t (slab / 16384) → (is ≡ true → IsDoneSlab t start) × (is ≡ false → ¬ (IsDoneSlab t start))
done_here t at says = grind arith

module _ (s : PmemState) (volatile : Volatile) (start : ℕ) (untidy : IsUntidy s volatile start) where
  abbrev words : List ℕ
  words = words_of s

  abbrev t : Tables
  t = tables_of words

  count_is : slice_index volatile.lives.counts start ≡ live_below (heap t) start (bounds_of words).roots
  count_is = untidy.lives.counts.each start ∙ cond-true (t.slab start) (live_below (heap t) start (bounds_of words).roots) 0 untidy.slab

  -- by its count
  pub none_by_count : slice_index volatile.lives.counts start ≡ 0 → holds_none (tables_of (words_of s)) start ≡ true
  none_by_count zero = true_from_ne_false (holds_none t start) (λ some.
      let but = untidy.image.but in
      let held = some_by_tests t start untidy.slab (none_morphing_but but start untidy.slab) some in
      omega (arith, live_some words but.sound but.closed start held.0 held.1, zero, count_is))

  pub some_by_count : slice_index volatile.lives.counts start ≢ 0 → holds_none (tables_of (words_of s)) start ≡ false
  some_by_count some = false_from_ne_true (holds_none t start) (λ none.
      let but = untidy.image.but in
      some (count_is ∙ live_none but.sound but.closed start untidy.slab (none_by_tests t start none) (bounds_of words).roots))

  -- it holds a block, and is not done: nothing is to be tidied
  pub tidied_none : slice_index volatile.lives.counts start ≢ 0 → ¬ (IsDoneSlab (tables_of (words_of s)) start) → IsTidied s s volatile start
  tidied_none some lively =
      let none = some_by_count some in
      let exact = exact_held words start untidy.image (rooted_by_tests start untidy.image.but untidy.slab none) lively in
      let events : tidy_events words start ≡ [] = cond-false (holds_none t start) _ _ none ∙ cond-false (is_done t start) _ [] (not_done_by_test t start untidy.slab lively) in
      record {
        step = step_by [] (tidy_events words start) (sym events) (step_none untidy.ready.quiet (same_heap words words exact));
        current = record { ready = untidy.ready; exact = exact; log = untidy.log; index = untidy.index };
        slabs = untidy.slabs;
        lives = untidy.lives;
        header = refl;
        heap = record { each = λ root. refl };
        slab = λ o. sym (ap (λ gone. slabs_but (slabs t) start gone o) none);
        keeps = record { each = λ root other range k first second word. refl };
      }

  -- it holds no block: it may be dropped
  pub droppable : slice_index volatile.lives.counts start ≡ 0 → IsDroppable (words_of s) start
  droppable zero = let but = untidy.image.but in record { image = record { formed = untidy.image.formed; steady = IsSteady-but but }; closed = but.closed; empty = empty_by_tests start but untidy.slab (none_by_count zero) }

  -- and it was
  module _ (zero : slice_index volatile.lives.counts start ≡ 0) (u : PmemState) (dropped : IsDropped (words_of s) start (words_of u)) where
    abbrev fewer : List ℕ
    fewer = words_of u

    abbrev less : Tables
    less = tables_of fewer

    drop_place : IsSlabPlace (bounds_of words) less t start
    drop_place = IsSlabPlace-empty untidy.image.but.sound untidy.image.but.closed (omega (arith, (sizes_of words untidy.image.formed).first)) dropped.slab (droppable zero).empty

    header_dropped : word_at (words_of u) fields_word ≡ word_at (words_of s) fields_word
    header_dropped = fields_kept dropped.rest (omega (arith, drop_place.first, drop_place.low))

    classes_dropped : (o : ℕ) → slabs less o ≡ with_key (slabs t) start None o
    classes_dropped = with_key-is (slabs t) (slabs less) start None (slabs-none drop_place) (λ o differ. sym (slabs-other drop_place o differ))

    -- no block lived in it, and it is normal no more
    pub tidied_dropped : {log : Book} {more : FreeSet} {set : Supply} {next : Lives} → IsQuietStep s u (drop_events (words_of s) start) (IsEitherHeap (words_of s) (words_of u)) → IsBookOf log (words_of u) → more.granules ≡ volatile.free.granules →
        ((k : ℕ) → IsFree more k ↔ (IsFree volatile.free k ⊎ ((start ≤ k) × (k < start + 4)))) → HasSlabLess volatile.supply set start → next.counts ≡ volatile.lives.counts → ((o : ℕ) → normal_at next o ≡ with_key (normal_at volatile.lives) start None o) →
        ((k o : ℕ) → is_unfit next.unfit k o ≡ (if o == start then false else is_unfit volatile.lives.unfit k o)) →
        IsTidied s u (record volatile { log = log; free = more; supply = set; lives = next }) start
    tidied_dropped {log} {more} {set} {next} step book granules given removed same put unfit =
        let none = none_by_count zero in
        let exact = dropped.exact untidy.image.but in
        let counts : AreCountsOf volatile.lives.counts fewer = counts_kept words fewer volatile.lives.counts (ap (λ (b : Bounds). b.granules) dropped.bounds) (of_each start
        (cond-false (less.slab start) _ 0 dropped.slab.none ∙ sym zero ∙ untidy.lives.counts.each start)
        (λ o differ. λ i. if sym (dropped.slab.others o differ).slab i then live_below (λ root. dropped.heap.each root i) o (dropped.bounds i).roots else 0)) untidy.lives.counts in
        let events : tidy_events words start ≡ drop_events words start = cond-true (holds_none t start) (drop_events words start) _ none in
        record {
          step = step_by (drop_events words start) (tidy_events words start) (sym events) step;
          current = record {
            ready = ready_after untidy.ready step.appends.room step.quiet header_dropped;
            exact = exact;
            log = book;
            index = index_by words fewer more (granules ∙ untidy.index.granules) dropped.bounds (index_more volatile.free more (bounds_of words) t less start 4 untidy.index.each given (IsVacant-no_slab drop_place));
          };
          slabs = record {
            granules = removed.granules ∙ untidy.slabs.granules ∙ ap (λ (b : Bounds). b.granules) (sym dropped.bounds);
            classes = λ o. removed.classes o ∙ ap (λ x. if o == start then None else x) (untidy.slabs.classes o) ∙ sym (classes_dropped o);
            blocks = λ o i slab.
                let differ : o ≢ start = λ here. true≢false (sym slab ∙ ap less.slab here ∙ dropped.slab.none) in
                let kept = IsSameSlab-back (dropped.slab.others o differ) in
                blocks_kept kept.slab (ap (λ (h : SlabHeader). h.class) kept.header) (IsUnusedIn-same kept (t.header o).class i) (removed.others o i differ) (untidy.slabs.blocks o i) slab;
          };
          lives = lives_put words fewer volatile.lives next (subst (λ (n : List ℕ). AreCountsOf n fewer) (sym same) counts) untidy.lives start None put
              (with_key-is (normal_of t) (normal_of less) start None (normal_of-none less start dropped.slab.none) (λ o differ. sym (normal_of-same less t o (dropped.slab.others o differ))))
              unfit (λ o c number differ. (IsUnusedIn-same (IsSameSlab-back (dropped.slab.others o differ)) c number).1);
          header = header_dropped;
          heap = dropped.heap;
          slab = λ o. classes_dropped o ∙ sym (ap (λ gone. slabs_but (slabs t) start gone o) none);
          keeps = keeps_blocks words start fewer untidy.image.formed untidy.image.but.sound untidy.image.but.closed (λ root range k named word. block_word-header untidy.image.but.sound untidy.image.but.closed root range named k word start dropped.slab.slab) dropped.rest;
        }

  -- its transition may end
  pub endable : IsDoneSlab (tables_of (words_of s)) start → IsEndable (words_of s) start
  endable done = grind arith

  -- and it ended
  module _ (some : slice_index volatile.lives.counts start ≢ 0) (done : IsDoneSlab (tables_of (words_of s)) start) (u : PmemState) (step : IsQuietStep s u (end_events (words_of s) start) (LeavesEntry (words_of s))) (ended : IsEnded (words_of s) start (words_of u)) where
    abbrev new : List ℕ
    new = words_of u

    abbrev after : Tables
    after = tables_of new

    change : IsHeaderChange words start (settled (t.header start)) new
    change = record { sound = untidy.image.but.sound; slab = untidy.slab; off = ended.off; bounds = ended.bounds; tables = ended.tables; held = ended.held }

    exact : IsExactImage new
    exact =
        let but = untidy.image.but in
        let rooted = rooted_by_tests start but untidy.slab (some_by_count some) in
        let large : after.large ≡ t.large = row change (λ x. x.large) in
        let roots : after.root ≡ t.root = row change (λ x. x.root) in
        let slabs_as : after.slab ≡ t.slab = row change (λ x. x.slab) in
        let kind : (after.header start).kind ≡ 1 = ap (λ (h : SlabHeader). h.kind) (header_now change) in
        let left : IsExactBut (bounds_of new) after start = record {
          sound = ended.image.sound;
          closed = row change (λ x. x.open_entry) ∙ but.closed;
          all_named = grind (arith, but.all_named);
          others_live = grind (arith, but.others_live);
          none_morphing = λ other morphing. but.none_morphing other (ended.loose.morphing other morphing);
          none_done = λ other differ is. but.none_done other differ (ended.loose.done other is);
        } in
        exact_held new start (record { formed = ended.image.formed; but = left }) (rooted.0, grind arith, grind arith) (λ is. omega (arith, is.kind, kind))

    slab_same : (o : ℕ) → (tables_of (words_of u)).slab o ≡ (tables_of (words_of s)).slab o
    slab_same o = row change (λ x. x.slab o)

    class_same : (o : ℕ) → ((tables_of (words_of u)).header o).class ≡ ((tables_of (words_of s)).header o).class
    class_same o = ⊎_elim
        (λ (same : o ≡ start). ap (λ o. (after.header o).class) same ∙ ap (λ (h : SlabHeader). h.class) (header_now change) ∙ ap (λ o. (t.header o).class) (sym same))
        (λ (differ : o ≢ start). ap (λ (h : SlabHeader). h.class) (header_other change o differ))
        (cases_eq o start)

    classes_ended : (o : ℕ) → slabs after o ≡ slabs t o
    classes_ended o = λ i. if row change (λ x. x.slab o) i then Some (class_same o i) else None

    -- it is normal now
    normal_ended : (o : ℕ) → normal_of after o ≡ with_key (normal_of t) start (Some (t.header start).class) o
    normal_ended = grind arith

    -- its class, as it is read from now on
    pub class_left : {slab class : ℕ} → slab ≡ 8 * granule_word start → (is_slab (words_of u) (slab / 16384) ≡ true → class ≡ ((tables_of (words_of u)).header (slab / 16384)).class) → class ≡ ((tables_of (words_of s)).header start).class
    class_left {slab} {class} at read = class_read new slab start class (omega arith) (slab_same start ∙ untidy.slab) read ∙ class_same start

    pub tidied_ended : (next : Lives) {class : ℕ} → next.counts ≡ volatile.lives.counts → ((o : ℕ) → normal_at next o ≡ with_key (normal_at volatile.lives) start (Some class) o) → ((k o : ℕ) → is_unfit next.unfit k o ≡ (if o == start then false else is_unfit volatile.lives.unfit k o)) → class ≡ ((tables_of (words_of s)).header start).class → IsTidied s u (record volatile { lives = next }) start
    tidied_ended next same put unfit class_is =
        let none = some_by_count some in
        let counts : AreCountsOf volatile.lives.counts new = counts_kept words new volatile.lives.counts (ap (λ (b : Bounds). b.granules) ended.bounds) (live_same words new ended.bounds slab_same ended.heap.each) untidy.lives.counts in
        let steady : IsSteadyImage words = record { formed = untidy.image.formed; steady = IsSteady-but untidy.image.but } in
        let events : tidy_events words start ≡ end_events words start = cond-false (holds_none t start) _ _ none ∙ cond-true (is_done t start) _ [] (done_by_test t start done) in
        let leaves : (image : List ℕ) → LeavesEntry words image → IsEitherHeap words new image = λ image left.
        let kept = left.keeps steady in
        record { steady = kept.steady; bounds = kept.bounds; heap = inl kept.heap; words = kept.blocks; still = HasNoMove-closed (left.entry ∙ untidy.image.but.closed) } in
        record {
          step = step_by (end_events words start) (tidy_events words start) (sym events) (step_wider leaves step);
          current = record { ready = ready_after untidy.ready step.appends.room step.quiet (log_header change).fields; exact = exact; log = book_header change volatile.log untidy.log; index = index_header change volatile.free untidy.index };
          slabs = record {
            granules = untidy.slabs.granules ∙ ap (λ (b : Bounds). b.granules) (sym ended.bounds);
            classes = λ o. untidy.slabs.classes o ∙ sym (classes_ended o);
            blocks = λ o i. blocks_kept (slab_same o) (class_same o) (unused_header change o (t.header o).class i) (λ is. is, λ is. is) (untidy.slabs.blocks o i);
          };
          lives = lives_put words new volatile.lives next (subst (λ (n : List ℕ). AreCountsOf n new) (sym same) counts) untidy.lives start (Some (t.header start).class) (λ o. put o ∙ ap (λ c. with_key (normal_at volatile.lives) start (Some c) o) class_is) normal_ended unfit (λ o c number differ. (unused_header change o c number).1);
          header = (log_header change).fields;
          heap = ended.heap;
          slab = λ o. classes_ended o ∙ sym (ap (λ gone. slabs_but (slabs t) start gone o) none);
          keeps = ended.blocks;
        }
