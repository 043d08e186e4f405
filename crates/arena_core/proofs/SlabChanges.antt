-- A slab comes or goes: what an arena keeps holds again.
use Rattle.std.proofs.Common.{false, refl, length, [], ◌≡◌, ◌≢◌, ◌⊎◌, ◌↔◌, ◌==◌, ℕ, ◌+◌, ◌<◌, ◌≤◌, true, List, sym, ap, subst, ◌∙◌, arith, inl, inr, ⊎_elim, Some, if◌then◌else◌}
use Rattle.arena_core.proofs.Common.{word_at, fields_word, is_unfit, cond-true, cond-false, PmemState, words_of, Volatile, Book, IsQuietStep, IsEitherHeap, IsBookOf, HasClassNow, layout_of, version_in, class_capacity, Tables, tables_of, FreeSet, IsFree, Supply, MayBeGiven, IsClearOf, HasSlabMore, Bounds, with_key, slabs, IsUnusedIn, IsInSlab, IsDoneSlab, bounds_of, IsExactImage, IsExactButImage, granules_at-slab, Covers, Covers-slab, sizes_of, Lives, normal_at, IsIndexOf, AreCountsOf, normal_of, IsVacantRow, IsUnusedIn-same, live_below, IsFreeRow, slabs-other, IsSlabPlace, open_events, MayOpen, keeps_blocks, counts_kept, live_none, normal_of-same, with_key-is, slab_parts}
use Rattle.extent_index.specs.FreeSet.{IsHeldRow}
use Rattle.heap_check.proofs.BlockWords.{block_word-vacant}
use Rattle.heap_check.proofs.SlabHeaps.{slabs-slab, IsVacant-slab}
use Rattle.heap_check.proofs.SlabPlaces.{IsSlabPlace-vacant}
use Rattle.heap_check.proofs.Slabs.{holds_none-fresh}
use Rattle.extent_steps.specs.Slabs.{IsSlabCreated}
use Rattle.arena_core.proofs.Readiness.{ready_after, fields_kept, slab_room}
use Rattle.arena_core.proofs.SmallCalls.{of_each, blocks_kept}
use Rattle.arena_core.proofs.LiveSlabs.{lives_put}
use Rattle.arena_core.proofs.Arenas.{index_by, index_less}
use Rattle.heap_check.proofs.NormalSlabs.{normal_of-normal}
use Rattle.image_tables.specs.Tables.{SlabHeader}

-- a slab that covers none of four granules lies before or behind them
pub apart_from : (t : Tables) (start other : ℕ) → t.slab other ≡ true → ((k : ℕ) → start ≤ k → k < start + 4 → ¬ (Covers t other k)) → (start + 4 ≤ other) ⊎ (other + 4 ≤ start)
apart_from t start other slab off = grind (arith, Covers-slab)

-- a slab is opened
module _ (device : PmemState) (volatile : Volatile) (start class : ℕ) (may : MayOpen device volatile start class) where
  abbrev words : List ℕ
  words = words_of device

  abbrev t : Tables
  t = tables_of words

  -- no slab has one of the granules
  pub clear_opened : IsClearOf volatile.supply start
  clear_opened = record { apart = λ other c slab. apart_from t start other (slab_parts t other c (sym (may.arena.slabs.classes other) ∙ slab)).0 (λ k low high. (may.row.vacant k low high).none other) }

  module _ (u : PmemState) (opened : IsSlabCreated (words_of device) start class (words_of u)) where
    abbrev new : List ℕ
    new = words_of u

    abbrev after : Tables
    after = tables_of new

    abbrev image : IsExactImage words
    image = may.arena.current.exact

    open_place : IsSlabPlace (bounds_of words) t after start
    open_place = IsSlabPlace-vacant image.exact.sound image.exact.closed (omega (arith, (sizes_of words image.formed).first)) opened.slab may.row.vacant

    header_opened : word_at (words_of u) fields_word ≡ word_at (words_of device) fields_word
    header_opened = fields_kept opened.rest (omega (arith, open_place.first, open_place.low))

    classes_opened : (s : ℕ) → slabs after s ≡ with_key (slabs t) start (Some class) s
    classes_opened = with_key-is (slabs t) (slabs after) start (Some class) (slabs-slab open_place class opened.slab.fresh) (slabs-other open_place)

    -- each of its blocks is open, and unused
    fresh_block : {more : Supply} → HasSlabMore volatile.supply more start class (λ i. i < class_capacity class) → (i : ℕ) → after.slab start ≡ true → i < class_capacity (after.header start).class → MayBeGiven more start i ↔ IsUnusedIn after start (after.header start).class i
    fresh_block added i slab below = grind (arith, holds_none-fresh)

    -- no block lives in it, and it is normal
    pub class_opened : {log : Book} {less : FreeSet} {more : Supply} {next : Lives} → device.events ≡ [] → IsQuietStep device u (open_events (words_of device) start class) (IsEitherHeap (words_of device) (words_of u)) →
        length u.events ≤ length device.events + (layout_of (version_in (words_of device))).slab_events → IsBookOf log (words_of u) → less.granules ≡ volatile.free.granules → ((k : ℕ) → IsFree less k ↔ (IsFree volatile.free k × ((k < start) ⊎ (start + 4 ≤ k)))) →
        HasSlabMore volatile.supply more start class (λ i. i < class_capacity class) → next.counts ≡ volatile.lives.counts → ((s : ℕ) → normal_at next s ≡ with_key (normal_at volatile.lives) start (Some class) s) →
        ((k o : ℕ) → is_unfit next.unfit k o ≡ (if o == start then false else is_unfit volatile.lives.unfit k o)) →
        HasClassNow device u volatile (record volatile { log = log; free = less; supply = more; lives = next }) start class (open_events (words_of device) start class)
    class_opened {log} {less} {more} {next} fresh step few book granules taken added same put unfit =
        let arena = may.arena in
        let ready = arena.current.ready in
        let none = live_none opened.image.but.sound opened.image.but.closed start opened.slab.more.slab (holds_none-fresh (tables_of new) opened.slab.fresh) (bounds_of new).roots in
        let counts : AreCountsOf volatile.lives.counts new = counts_kept words new volatile.lives.counts (ap (λ (b : Bounds). b.granules) opened.bounds) (of_each start
        (cond-true (after.slab start) _ 0 opened.slab.more.slab ∙ none ∙ sym (cond-false (t.slab start) _ 0 opened.slab.more.none))
        (λ s differ. λ i. if (opened.slab.more.others s differ).slab i then live_below (λ root. opened.heap.each root i) s (opened.bounds i).roots else 0)) arena.lives.counts in
        record {
          step = step;
          arena = record {
            ready = ready_after ready step.appends.room step.quiet header_opened;
            image = opened.image;
            slab = opened.slab.more.slab;
            log = book;
            index = index_by words new less (granules ∙ arena.current.index.granules) opened.bounds (index_less volatile.free less (bounds_of words) t after start 4 arena.current.index.each taken (IsVacant-slab open_place));
            slabs = record {
              granules = added.granules ∙ arena.slabs.granules ∙ ap (λ (b : Bounds). b.granules) (sym opened.bounds);
              classes = λ s. added.classes s ∙ ap (λ x. if s == start then Some class else x) (arena.slabs.classes s) ∙ sym (classes_opened s);
              blocks = of_each start (λ i slab below. fresh_block added i slab below)
                  (λ s differ i. let it = opened.slab.more.others s differ in blocks_kept it.slab (ap (λ (h : SlabHeader). h.class) it.header) (IsUnusedIn-same it (t.header s).class i) (added.others s i differ) (arena.slabs.blocks s i));
            };
            lives = lives_put words new volatile.lives next (subst (λ (n : List ℕ). AreCountsOf n new) (sym same) counts) arena.lives start (Some class) put
                (with_key-is (normal_of t) (normal_of after) start (Some class) (normal_of-normal after start opened.slab.more.slab opened.slab.fresh.kind ∙ ap (λ c. Some c) opened.slab.fresh.class_is) (λ s differ. normal_of-same t after s (opened.slab.more.others s differ)))
                unfit (λ s c number differ. (IsUnusedIn-same (opened.slab.more.others s differ) c number).1);
          };
          lively = λ done. omega (arith, done.kind, opened.slab.fresh.kind);
          class_is = opened.slab.fresh.class_is;
          slabs = classes_opened;
          heap = opened.heap;
          roots = λ root. ap (λ (row : ℕ → ℕ). row root) opened.slab.more.root;
          keeps = keeps_blocks words start new image.formed image.exact.sound image.exact.closed
              (λ root range k named word. ⊎_elim (λ x. inl x) (λ x. inr (omega (arith, x))) (block_word-vacant image.exact.sound image.exact.closed root range named k word start (may.row.vacant start (omega arith) (omega arith))))
              opened.rest;
          header = header_opened;
          line = refl;
          room = omega (arith, ap length fresh, few, step.appends.room, slab_room ready);
        }

-- an image that is exact but for a slab is exact, where a root has a block in it and it is not done
pub exact_held : (words : List ℕ) (start : ℕ) → IsExactButImage words start → (root : ℕ) × ((tables_of words).root root ≢ 0) × IsInSlab (tables_of words) start ((tables_of words).root root) → ¬ (IsDoneSlab (tables_of words) start) → IsExactImage words
exact_held words start image rooted lively = grind arith

-- the granules of a slab are held
pub held_row : (words : List ℕ) (set : FreeSet) (start : ℕ) → IsExactButImage words start → (tables_of words).slab start ≡ true → IsIndexOf set words → IsHeldRow set start 4
held_row words set start image slab index = grind (arith, granules_at-slab, sizes_of, Covers-slab)

-- a vacant row is one of free granules
pub free_row : {set : FreeSet} {words : List ℕ} {start count : ℕ} → IsIndexOf set words → IsVacantRow (bounds_of words) (tables_of words) start count → IsFreeRow (IsFree set) start count
free_row index row = record { each = λ k low high. (index.each k).1 (row.vacant k low high) }
