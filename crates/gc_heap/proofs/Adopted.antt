-- What is read of an exact image while an arena is made over it: its roots one by one, and its extents.
use Rattle.std.proofs.Common.{◌≡◌, ◌≢◌, ◌==◌, not, ℕ, suc, ◌+◌, ◌-◌, ◌*◌, ◌/◌, ◌%◌, ◌^◌, ◌<◌, ◌≤◌, Bool, true, false, true≢false, List, length, Option, Some, None, refl, sym, ap, subst, ◌∙◌, arith, ⊎_elim}
use Rattle.std.proofs.lemmas.Bool.{cases_eq, cases_lt, cond-true}
use Rattle.pmem_lines.specs.Words.{word_at}
use Rattle.pmem_lines.specs.Pmem.{PmemState, words_of, IsPlace}
use Rattle.size_classes.specs.Classes.{class_size, class_capacity}
use Rattle.size_classes.proofs.Spacing.{class_size-most}
use Rattle.pool_layout.specs.Places.{granule_word}
use Rattle.pool_layout.specs.Header.{version_in, granules_in}
use Rattle.pool_layout.proofs.Layouts.{layout_rules}
use Rattle.image_tables.specs.declared.extent.Extent.{Extent}
use Rattle.image_tables.specs.declared.extent.Extent.TheVariants as extent
use Rattle.book_log.specs.Book.{chunks_of}
use Rattle.image_tables.specs.Extents.{extent_at}
use Rattle.image_tables.specs.Tables.{Tables, is_slab, is_slab_of, large_of, state_word, state_field, tables_of}
use Rattle.book_log.specs.Book.{Book, AreWithin}
use Rattle.book_log.proofs.Places.{within_heap}
use Rattle.book_log.specs.Entry.{start_of, extent_of}
use Rattle.book_log.proofs.LiveExtents.{live_extents}
use Rattle.book_log.specs.Table.{IsNextLive, IsNoneLive}
use Rattle.book_log.specs.declared.entry.LogEntry.{LogEntry}
use Rattle.book_log.specs.declared.entry.LogEntry.TheVariants.{Large, Slab}
use Rattle.log_steps.specs.Log.{IsBookOf}
use Rattle.heap_model.specs.Machine.{Bounds, Range, Machine, IsLarge, LiesIn, slab_block, IsBlockOf, IsOverlapFree}
use Rattle.heap_model.proofs.Sites.{class_known}
use Rattle.heap_model.proofs.Slabbing.{LiesIn-block}
use Rattle.unit_map.specs.Blocks.{IsOnUnits}
use Rattle.unit_map.proofs.StateUnits.{block_on_units}
use Rattle.heap_indexes.specs.Indexes.{Indexes, AreIndexesOf, IsInSomeSlab}
use Rattle.heap_indexes.specs.Adopting.{IsAdoptable, AreAdopted, HasNoneBetween, IsNextBlock, IsNextLarge, IsNextSlab}
use Rattle.heap_indexes.proofs.CountedRoots.{law_of_passed_roots}
use Rattle.heap_indexes.proofs.TakenExtents.{law_of_passed_granules, law_of_adopted_indexes}
use Rattle.heap_check.specs.Heap.{is_large}
use Rattle.heap_check.specs.Image.{bounds_of}
use Rattle.heap_check.proofs.Geometry.{is_large-parts}
use Rattle.gc_check.specs.Heap.{address_field, class_field, gc_size, gc_block, gc_tables}
use Rattle.gc_check.specs.Sound.{IsClassBlock, IsGcSound}
use Rattle.gc_check.specs.Image.{IsNormalWord, IsGcExactImage}
use Rattle.gc_check.specs.State.{gc_blocks, gc_slabs}
use Rattle.gc_check.proofs.Heaps.{size_large, size_small, gc_heap-none, gc_heap-some, IsNamed-heap}
use Rattle.gc_check.proofs.Forms.{is_slab-in, class_in}
use Rattle.gc_check.proofs.Steps.{state_inside}
use Rattle.gc_heap.specs.Arena.{state_in}
use Rattle.gc_heap.specs.Adopting.{AreReadTo, IsNextExtent, IsSmallOf, HasSlabAround, IsSlabAround}
use Rattle.gc_heap.proofs.RootBlocks.{large_in}
use Rattle.gc_heap.proofs.Places.{apart, slab_there, slab_of_words, many, large_named}

-- the next root
pub next_root : (words : List ℕ) (root : ℕ) (x : Indexes) → AreReadTo words (suc root) 0 x → AreReadTo words (root + 1) 0 x
next_root words root x = subst (λ n. AreReadTo words n 0 x) (omega arith)

some_same : {X : Type 0} (x y : X) → Some x ≡ Some y → x ≡ y
some_same x y same = cc

module _ (words : List ℕ) (image : IsGcExactImage words) where
  abbrev b : Bounds
  b = bounds_of words

  abbrev t : Tables
  t = gc_tables words

  abbrev m : Machine
  m = state_in words

  abbrev sound : IsGcSound b t
  sound = image.exact.sound

  -- small blocks

  -- a root's small block is one of a slab
  small_home : (root : ℕ) (range : Range) → gc_blocks words root ≡ Some range → ¬ (IsLarge range) → IsInSomeSlab m range
  small_home root range named small =
      let is = IsNamed-heap t root range named in
      let word = t.word root in
      let standing = sound.owned.rooted root is.some in
      ⊎_elim
      (λ large.
      let parts = is_large-parts t.large (address_field word) large.1 in
      let size = ap (λ (r : Range). r.size) is.is ∙ size_large t.large word large.0 in
      absurd (small (omega (arith, size, many image (address_field word / 16384) parts.1))))
      (λ little.
      let block = little.1 in
      let class = class_field word - 1 in
      let size : gc_size t.large word ≡ class_size class = size_small t.large word little.0 in
      record {
        start = block.start;
        class = (t.header block.start).class;
        slab = cond-true (t.slab block.start) (Some (t.header block.start).class) None block.slab;
        own = class;
        block = record { number = block.number; within = block.below; is = is.is ∙ (λ i. record { at = block.is i; size = size i }) };
      })
      standing.stands

  pub adoptable : IsAdoptable b m
  adoptable = record {
    apart = apart image;
    placed = record { each = small_home };
    known = λ s class slab. let has = slab_there t s class slab in subst (λ c. c < 36) (some_same _ class (sym (cond-true (t.slab s) (Some (t.header s).class) None has) ∙ slab)) (sound.classes s has);
  }

  -- where a home is

  home_around : (range : Range) → 0 < range.size → (home : IsInSomeSlab m range) → IsSlabAround words (range.at / 16384) home.start
  home_around range some home =
      let lies = LiesIn-block home.start home.own range home.block in
      record { slab = slab_of_words words home.start home.class home.slab; low = omega (arith, lies.low); high = omega (arith, lies.high, some) }

  module _ (root at size : ℕ) (block : IsSmallOf words root at size) where
    its_home : IsInSomeSlab m (record { at = at; size = size })
    its_home = small_home root (record { at = at; size = size }) block.named block.small

    some : 0 < size
    some = (apart image).sized root (record { at = at; size = size }) block.named

    pub slab_has : HasSlabAround words (at / 16384)
    slab_has = record { start = its_home.start; around = home_around (record { at = at; size = size }) some its_home }

    -- the one slab that has its first granule is its home
    same_home : (start class : ℕ) → gc_slabs words start ≡ Some class → start ≤ at / 16384 → at / 16384 < start + 4 → its_home.start ≡ start
    same_home start class slab low high =
        let around = home_around (record { at = at; size = size }) some its_home in
        ⊎_elim
        (λ same. same)
        (λ differ. absurd (⊎_elim (λ before. omega (arith, before, around.high, low)) (λ behind. omega (arith, behind, high, around.low)) ((apart image).slabs_apart its_home.start start its_home.class class differ its_home.slab slab)))
        (cases_eq its_home.start start)

    pub small_next : (x : Indexes) (start class : ℕ) (stranger : Bool) → AreReadTo words root 0 x → IsSlabAround words (at / 16384) start → gc_slabs words start ≡ Some class → stranger ≡ not (size == class_size class) →
        IsNextBlock b m root 0 x start (record { at = at; size = size }) stranger
    small_next x start class stranger read around slab differs =
        let same = same_home start class slab around.low around.high in
        record {
          adopted = read;
          named = block.named;
          small = block.small;
          class = class;
          slab = slab;
          lies = subst (λ s. LiesIn s (record { at = at; size = size })) same (LiesIn-block its_home.start its_home.own (record { at = at; size = size }) its_home.block);
          units = subst IsOnUnits (sym its_home.block.is) (block_on_units its_home.start its_home.own its_home.block.number (class_known its_home.own its_home.block.number its_home.block.within));
          differs = differs;
        }

  -- a root's word that has a class names a small block, and else none or a large one

  pub small_of : (root word : ℕ) → word ≡ t.word root → 0 < class_field word → IsSmallOf words root (address_field word) (class_size (class_field word - 1))
  small_of root word is classed = subst (λ w. IsSmallOf words root (address_field w) (class_size (class_field w - 1))) (sym is) (here (subst (λ w. 0 < class_field w) is classed))
    where
      here : 0 < class_field (t.word root) → IsSmallOf words root (address_field (t.word root)) (class_size (class_field (t.word root) - 1))
      here class_some =
          let some_word : t.word root ≢ 0 = λ none. omega (arith, ap class_field none, class_some) in
          let few = (sound.owned.rooted root some_word).form.class in
          record {
            named = gc_heap-some t root some_word ∙ (λ i. Some (record { at = address_field (t.word root); size = size_small t.large (t.word root) class_some i }));
            small = λ large. omega (arith, large, class_size-most (class_field (t.word root) - 1) (omega (arith, few, class_some)));
          }

  pub root_passed : (root word : ℕ) (x : Indexes) → word ≡ t.word root → class_field word ≡ 0 → AreReadTo words root 0 x → AreReadTo words (suc root) 0 x
  root_passed root word x is none read = law_of_passed_roots b m root 0 x read (λ range named.
      let its = IsNamed-heap t root range named in
      let standing = sound.owned.rooted root its.some in
      ⊎_elim
      (λ large.
      let parts = is_large-parts t.large (address_field (t.word root)) large.1 in
      let size = ap (λ (r : Range). r.size) its.is ∙ size_large t.large (t.word root) large.0 in
      omega (arith, size, many image (address_field (t.word root) / 16384) parts.1))
      (λ little. absurd (omega (arith, little.0, ap class_field is, none)))
      standing.stands)

  -- extents

  -- none begins where the log has none
  none_between : (book : Book) (from end : ℕ) → IsBookOf book words → ((start : ℕ) → from ≤ start → start < end → extent_at words start ≡ None) → HasNoneBetween m from end
  none_between book from end log none = record {
    no_block = λ root range named large low high.
        let its = IsNamed-heap t root range named in
        let word = t.word root in
        let whole = (apart image).large root range named large in
        let standing = sound.owned.rooted root its.some in
        let at = ap (λ (r : Range). r.at) its.is in
        ⊎_elim
        (λ is.
        let parts = is_large-parts t.large (address_field word) is.1 in
        let start = address_field word / 16384 in
        let live : extent_at words start ≡ None = none start (omega (arith, low, at)) (omega (arith, high, at, whole.at)) in
        omega (arith, parts.1, large_in book words start log ∙ ap large_of live))
        (λ little.
        let few = standing.form.class in
        let size = ap (λ (r : Range). r.size) its.is ∙ size_small t.large word little.0 in
        omega (arith, size, large, class_size-most (class_field word - 1) (omega (arith, few, little.0))))
        standing.stands;
    no_slab = λ s class slab low high. true≢false (sym (slab_of_words words s class slab) ∙ ap is_slab_of (none s low high));
  }

  pub next_large : (book : Book) (x : Indexes) (next : LogEntry) (start count : ℕ) → IsBookOf book words → next ≡ Large start count → IsNextExtent words x next → (from : ℕ) × IsNextLarge b m b.roots from x start count
  next_large book x next start count log same is =
      let here : extent_at words start ≡ Some (extent.Large count) = ap (λ (e : LogEntry). extent_at words (start_of e)) (sym same) ∙ is.live.live ∙ sym is.live.says ∙ ap extent_of same in
      let size : t.large start ≡ count = large_in book words start log ∙ ap large_of here in
      let at : start_of next ≡ start = ap start_of same in
      let two : 2 ≤ count = ((live_extents (granules_in words) words (chunks_of words) (omega (arith, image.formed.header.valid.valid.greatest)) image.formed.log).each start (extent.Large count) here).some in
      let named = large_named image start (omega (arith, size, two)) in (
        is.from,
        record {
          adopted = is.read;
          from = omega (arith, is.live.at_least, at);
          between = none_between book is.from start log (λ s low high. is.live.least s low (omega (arith, high, at)));
          root = named.0;
          named = named.1 ∙ ap (λ n. Some (record { at = 16384 * start; size = 16384 * n })) size;
          many = two;
        },
      )

  pub next_slab : (book : Book) (x : Indexes) (next : LogEntry) (start class : ℕ) → IsBookOf book words → next ≡ Slab start → IsNextExtent words x next → gc_slabs words start ≡ Some class → (from : ℕ) × IsNextSlab b m from x start class
  next_slab book x next start class log same is slab =
      let at : start_of next ≡ start = ap start_of same in (
        is.from,
        record {
          adopted = is.read;
          from = omega (arith, is.live.at_least, at);
          between = none_between book is.from start log (λ s low high. is.live.least s low (omega (arith, high, at)));
          slab = slab;
        },
      )

  pub slab_says : (x : Indexes) (next : LogEntry) (start : ℕ) → next ≡ Slab start → IsNextExtent words x next → is_slab words start ≡ true
  slab_says x next start same is =
      let here : extent_at words start ≡ Some extent.Slab = ap (λ (e : LogEntry). extent_at words (start_of e)) (sym same) ∙ is.live.live ∙ sym is.live.says ∙ ap extent_of same in
      ap is_slab_of here

  -- all is read
  pub all_read : (book : Book) (x : Indexes) (from : ℕ) → IsBookOf book words → IsNoneLive (extent_at words) from → from ≤ book.granules → AreReadTo words b.roots from x → AreIndexesOf b m x
  all_read book x from log none below read =
      law_of_adopted_indexes b m x (law_of_passed_granules b m b.roots from b.granules x read (omega (arith, below, log.granules)) (none_between book from b.granules log (λ s low high. none.none s low)))

  -- the class of a slab is read off its state word

  pub class_place : (s : PmemState) (start at : ℕ) → words_of s ≡ words → at ≡ 8 * granule_word start → is_slab words start ≡ true → IsPlace s at
  class_place s start at same is slab = let inside = state_inside words start image slab in record { aligned = omega (arith, is); inside = omega (arith, is, inside, ap (λ (l : List ℕ). length l) same) }

  pub class_read : (start word : ℕ) → is_slab words start ≡ true → word ≡ word_at words (state_word start) → gc_slabs words start ≡ Some (word / 256)
  class_read start word slab is =
      let has = is_slab-in words start slab in
      let normal = image.formed.slabs start slab in
      let field : (t.header start).class ≡ word / 256 = class_in words start ∙ cond-true (is_slab words start) (word_at words (state_word start) / 2 ^ 8 % 2 ^ 8) 0 slab ∙ omega (arith, is, normal.is, normal.below) in
      cond-true (t.slab start) (Some (t.header start).class) None has ∙ ap (λ c. Some c) field

  pub slab_low : (start : ℕ) → is_slab words start ≡ true → start < 65536
  slab_low start slab = let inside = state_inside words start image slab in omega (arith, inside, image.formed.size, image.formed.header.valid.valid.greatest)

  -- a live extent begins in the arena
  pub extent_low : (from : ℕ) (next : LogEntry) → IsNextLive (extent_at words) from next → start_of next < granules_in words
  extent_low from next live = let lies = (live_extents (granules_in words) words (chunks_of words) (omega (arith, image.formed.header.valid.valid.greatest)) image.formed.log).each (start_of next) live.extent live.live in omega (arith, lies.high, lies.some)

  -- active chunks lie in the arena
  pub chunks_inside : AreWithin words
  chunks_inside = within_heap words (omega (arith, (layout_rules (version_in words)).heap, (layout_rules (version_in words)).some_granule, image.formed.size, image.formed.header.valid.valid.least))
