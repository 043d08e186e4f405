-- A small block and its root come or go: the words of the log stay and those of the other blocks, and what an arena keeps
-- holds again.
use Rattle.std.proofs.Common.{true, ◌≤◌, ◌+◌, ◌*◌, ◌≡◌, ℕ, ◌<◌, List, arith, Bool, None, Option, ap, refl, true≢false, ◌≢◌, ◌⊎◌, ◌↔◌, sym, subst, ◌∙◌, inl, inr, ⊎_elim}
use Rattle.arena_core.proofs.Common.{word_at, entry_slot, version_in, tables_of, index_word, SameLog, root_word-low, Book, bounds_of, IsExactButImage, KeepsBlocks, sizes_of, IsBookOf, SmallBlock, KeepsAllButBlock, IsBlockIn, IsOldDetachable, granules_at-slab, OldBlock, GivesRoot, Range, Tables, slabs, cases_eq, class_capacity, put_at-other, FreeSet, Supply, MayBeGiven, IsWith, Bounds, slab_block, IsUnusedIn, Holds, IsDetachable, IsDetached, IsIndexOf, IsSlabsOf, IsSameSlab, class_size-least, none_morphing_but, IsUnusedIn-same, log_start-low, entry_slot-low, block_word-header, stage_of, GivesOne, same_log, iff_then, unused_apart, put_at}
use Rattle.image_tables.proofs.Places.{entry_slot-high}
use Rattle.heap_check.proofs.BlockWords.{block_word-heap}
use Rattle.heap_check.proofs.OneBlock.{IsVacant-one}
use Rattle.attach_steps.specs.Steps.{bit_word}
use Rattle.arena_core.proofs.Arenas.{book_same, index_by}
use Rattle.image_tables.specs.Updates.{with_small}
use Rattle.image_tables.proofs.Updates.{put_in-same}
use Rattle.block_supply.specs.Supply.{IsWithout}
use Rattle.heap_check.proofs.Small.{Holds-back, Holds-forth}
use Rattle.heap_model.proofs.Slabbing.{blocks_apart}
use Rattle.arena_core.specs.Arena.{AreSlabsLess}
use Rattle.heap_check.proofs.SmallPlaces.{IsSmallPlace-named, clear_unused}
use Rattle.heap_check.proofs.UnusedBlocks.{unused_freed}
use Rattle.image_tables.specs.Tables.{bit_rows}

-- One word of a slab's header changes with a root's word and a write-ahead line: where it lies.
pub record IsBlockChange (words : List ℕ) (line root start k : ℕ) : Type 0 where
  pub image : IsExactButImage words start
  pub slab : (tables_of words).slab start ≡ true
  pub rooted : root < (bounds_of words).roots
  pub low : 2048 * start ≤ k
  pub high : k < 2048 * start + 256
  pub few : line < 8

-- where it is the bit of a block
pub change_bit : {words : List ℕ} {line root : ℕ} {block : SmallBlock} → IsBlockIn words root block → line < 8 → IsBlockChange words line root block.start (bit_word block)
change_bit {words} {line} {root} {block} block_in few = grind arith

-- the words of the log and of blocks are the same
module _ {words : List ℕ} {line root start place : ℕ} (change : IsBlockChange words line root start place) (new : List ℕ) (rest : KeepsAllButBlock words line root place new) where
  start_low : 4 ≤ start
  start_low = grind (arith, sizes_of, granules_at-slab)

  in_heap : (bounds_of words).first ≤ start
  in_heap = (change.image.but.sound.extents.starts start (omega (arith, granules_at-slab (tables_of words) start change.slab))).0

  root_before : 2048 + root < 2048 * (bounds_of words).first
  root_before = omega (arith, (sizes_of words change.image.formed).roots, change.rooted)

  keeps_low : (k : ℕ) → k < 64 → word_at new k ≡ word_at words k
  keeps_low k low = rest.others k (λ e. omega (arith, e, low)) (λ e. omega (arith, e, low, change.low, start_low)) (λ e. omega (arith, e, low))

  pub log_small : SameLog words new
  log_small =
      let version = version_in words in
      let sizes = sizes_of words change.image.formed in
      same_log words new keeps_low (λ c e few below.
      let low = entry_slot-low version c e in
      let high = entry_slot-high version c e few below in
      rest.others (entry_slot version c e)
      (λ is. omega (arith, is, low, log_start-low version, change.few))
      (λ is. omega (arith, is, high, change.low, in_heap))
      (λ is. omega (arith, is, low, root_word-low version root change.rooted)))

  pub book_small : bounds_of new ≡ bounds_of words → (book : Book) → IsBookOf book words → IsBookOf book new
  book_small bounds book = book_same book log_small rest.same_length bounds

  pub keeps_small : KeepsBlocks words new
  keeps_small = record {
    each = λ r other at k was is within.
        let but = change.image.but in
        let sizes = sizes_of words change.image.formed in
        let high = block_word-heap but.sound but.closed r at was k within in
        let off = block_word-header but.sound but.closed r at was k within start change.slab in
        grind (arith, root_before);
  }

  -- the root has this block now, or none
  pub gives_small : {block : Option Range} (bits lives : Bool → ℕ → ℕ → Bool) (on : Bool) (word : ℕ) → tables_of new ≡ stage_of (tables_of words) bits lives root on word None → GivesOne words root block new → GivesRoot words root block (slabs (tables_of words)) new
  gives_small bits lives on word tables gives = record { here = gives.here; others = gives.others; slabs = λ s. ap (λ (x : Tables). slabs x s) tables; keeps = keeps_small; header = log_small.fields }

-- where it is the entry of an old block in the index table
pub change_index : {words : List ℕ} {line root : ℕ} {block : OldBlock} → IsOldDetachable words root block → line < 8 → IsBlockChange words line root block.start (index_word block.start block.place)
change_index {words} {line} {root} {block} may few = grind arith

-- what holds of one number and of all others, holds of each
pub of_each : {P : ℕ → Type 0} (start : ℕ) → P start → ((s : ℕ) → s ≢ start → P s) → (s : ℕ) → P s
of_each {P} start here others s = ⊎_elim (λ (same : s ≡ start). subst P (sym same) here) (λ (differ : s ≢ start). others s differ) (cases_eq s start)

-- what holds of one block and of all others
pub of_each_block : {P : ℕ → ℕ → Type 0} (start number : ℕ) → P start number → ((s i : ℕ) → (s ≢ start) ⊎ (i ≢ number) → P s i) → (s i : ℕ) → P s i
of_each_block {P} start number here others = of_each {P = λ s. (i : ℕ) → P s i} start (of_each {P = P start} number here (λ i differ. others start i (inr differ))) (λ s differ i. others s i (inl differ))

-- of a slab that has its class still, and of which the same blocks are unused, the same are open
pub blocks_kept : {t new : Tables} {was set : Supply} {s i : ℕ} → new.slab s ≡ t.slab s → (new.header s).class ≡ (t.header s).class → IsUnusedIn t s (t.header s).class i ↔ IsUnusedIn new s (t.header s).class i → MayBeGiven set s i ↔ MayBeGiven was s i →
    (t.slab s ≡ true → i < class_capacity (t.header s).class → MayBeGiven was s i ↔ IsUnusedIn t s (t.header s).class i) → new.slab s ≡ true → i < class_capacity (new.header s).class → MayBeGiven set s i ↔ IsUnusedIn new s (new.header s).class i
blocks_kept {t} {new} {was} {set} {s} {i} slab_is class_is unused opens were slab below =
    iff_then opens (iff_then (were (sym slab_is ∙ slab) (subst (λ c. i < class_capacity c) class_is below)) (subst (λ c. IsUnusedIn t s (t.header s).class i ↔ IsUnusedIn new s c i) (sym class_is) unused))

-- the tables are others in which a block is held or not, with its root's word
module _ (words : List ℕ) (bits lives : Bool → ℕ → ℕ → Bool) (root : ℕ) (on : Bool) (word : ℕ) (new : List ℕ) (bounds : bounds_of new ≡ bounds_of words) (tables : tables_of new ≡ stage_of (tables_of words) bits lives root on word None) where
  pub index_small : (set : FreeSet) → IsIndexOf set words → IsIndexOf set new
  index_small set index = grind (arith, index_by, IsVacant-one)

-- a block of its slab's class
module _ (words : List ℕ) (root start number : ℕ) (on : Bool) (word : ℕ) (new : List ℕ) (bounds : bounds_of new ≡ bounds_of words)
    (tables : tables_of new ≡ with_small (tables_of words) start number on root word None) where
  abbrev t : Tables
  t = tables_of words

  abbrev after : Tables
  after = with_small (tables_of words) start number on root word None

  same_slab : (s : ℕ) → s ≢ start → IsSameSlab t after s
  same_slab s differ = record { slab = refl; header = λ i. record (t.header s) { bit = put_at-other (bit_rows t) start s (put_at (bit_rows t start) number on) differ i } }

  -- of another slab no block is unused that was not
  pub unused_beside : (s class i : ℕ) → s ≢ start → IsUnusedIn (tables_of new) s class i → IsUnusedIn (tables_of words) s class i
  unused_beside s class i differ unused = (IsUnusedIn-same (same_slab s differ) class i).1 (subst (λ (x : Tables). IsUnusedIn x s class i) tables unused)

  -- so a supply that has not this block open, and of the others those that are unused, has them still
  pub slabs_less : (set : Supply) → AreSlabsLess set words start number → AreSlabsLess set new start number
  slabs_less set was = record {
    granules = was.granules ∙ ap (λ (b : Bounds). b.granules) (sym bounds);
    classes = λ s. was.classes s ∙ sym (ap (λ (x : Tables). slabs x s) tables);
    blocks = subst (λ (x : Tables). (s i : ℕ) → x.slab s ≡ true → i < class_capacity (x.header s).class → (s ≢ start) ⊎ (i ≢ number) → MayBeGiven set s i ↔ IsUnusedIn x s (x.header s).class i) (sym tables)
        (of_each start
        (λ i slab below either. iff_then (was.blocks start i slab below either)
        (unused_apart (Holds-back t start number on root word None start) (Holds-forth t start number on root word None start) (t.header start).class i (blocks_apart start (t.header start).class number i (λ is. ⊎_elim (λ differ. differ refl) (λ differ. differ (sym is)) either))))
        (λ s differ i slab below either. iff_then (was.blocks s i slab below either) (IsUnusedIn-same (same_slab s differ) (t.header s).class i)));
    none = was.none;
  }

-- a block that is not open may be missing
pub slabs_missing : {set : Supply} {words : List ℕ} (start number : ℕ) → IsSlabsOf set words → ¬ (MayBeGiven set start number) → AreSlabsLess set words start number
slabs_missing start number was none = record { granules = was.granules; classes = was.classes; blocks = λ s i slab below either. was.blocks s i slab below; none = none }

-- one that was taken is missing
pub slabs_without : {set other : Supply} {words : List ℕ} (start number : ℕ) → IsSlabsOf set words → IsWithout set other start number → AreSlabsLess other words start number
slabs_without start number was without = record {
  granules = without.granules ∙ was.granules;
  classes = λ s. without.classes s ∙ was.classes s;
  blocks = λ s i slab below either. iff_then (without.others s i either) (was.blocks s i slab below);
  none = without.gone;
}

-- one that is used may be missing
pub slabs_used : {set : Supply} {words : List ℕ} (start number : ℕ) → AreSlabsLess set words start number → ¬ (IsUnusedIn (tables_of words) start ((tables_of words).header start).class number) → IsSlabsOf set words
slabs_used {set} {words} start number less used = record {
  granules = less.granules;
  classes = less.classes;
  blocks = of_each_block start number (λ slab below. (λ is. absurd (less.none is), λ unused. absurd (used unused))) (λ s i either slab below. less.blocks s i slab below either);
}

-- one that came back is not missing any more
pub slabs_with : {set other : Supply} {words : List ℕ} (start number : ℕ) → AreSlabsLess set words start number → IsWith set other start number → IsUnusedIn (tables_of words) start ((tables_of words).header start).class number → IsSlabsOf other words
slabs_with {set} {other} {words} start number less came unused = record {
  granules = came.granules ∙ less.granules;
  classes = λ s. came.classes s ∙ less.classes s;
  blocks = of_each_block start number (λ slab below. (λ is. unused, λ is. came.here)) (λ s i either slab below. iff_then (came.others s i either) (less.blocks s i slab below either));
}

-- a block that a root names is not open
pub named_used : {set : Supply} {words : List ℕ} {root : ℕ} {block : SmallBlock} → IsSlabsOf set words → IsDetachable words root block → ¬ (MayBeGiven set block.start block.number)
named_used {set} {words} {root} {block} slabs may is =
    let block_in = may.block_in in
    let but = block_in.image.but in
    let unused = (slabs.blocks block.start block.number block_in.slab block_in.below).0 is in
    true≢false (sym may.set ∙ clear_unused but.sound but.closed block.start block.number block_in.slab block_in.below (none_morphing_but but block.start block_in.slab) unused)

-- a block that came to a root is held
held_given : (words : List ℕ) (root : ℕ) (block : SmallBlock) (word : ℕ) → IsBlockIn words root block → let t = tables_of words in
    Holds (with_small t block.start block.number true root word None) block.start (slab_block block.start (t.header block.start).class block.number)
held_given words root block word block_in =
    let but = block_in.image.but in
    grind (arith, none_morphing_but, put_in-same)

-- so it is used
pub used_given : (words : List ℕ) (root : ℕ) (block : SmallBlock) (word : ℕ) → IsBlockIn words root block → let t = tables_of words in
    ¬ (IsUnusedIn (with_small t block.start block.number true root word None) block.start (t.header block.start).class block.number)
used_given words root block word block_in =
    let t = tables_of words in
    let but = block_in.image.but in
    let size = class_size-least (t.header block.start).class (but.sound.slabs block.start block_in.slab).state.is_class in
    let range : Range = slab_block block.start (t.header block.start).class block.number in
    λ unused. absurd (⊎_elim (λ x. omega (arith, x, size)) (λ x. omega (arith, x, size)) (unused.each range (held_given words root block word block_in)))

-- and no block is unused that was not
pub unused_given : (words : List ℕ) (root : ℕ) (block : SmallBlock) (word : ℕ) (new : List ℕ) → IsBlockIn words root block → bounds_of new ≡ bounds_of words → tables_of new ≡ with_small (tables_of words) block.start block.number true root word None →
    (s class i : ℕ) → IsUnusedIn (tables_of new) s class i → IsUnusedIn (tables_of words) s class i
unused_given words root block word new block_in bounds tables = of_each block.start
    (λ class i unused.
    let after = with_small (tables_of words) block.start block.number true root word None in
    let left : IsUnusedIn after block.start class i = subst (λ (x : Tables). IsUnusedIn x block.start class i) tables unused in
    record {
      each = λ range holds. ⊎_elim
          (λ is. left.each range is)
          (λ own. left.each range (subst (λ r. Holds after block.start r) (sym own) (held_given words root block word block_in)))
          (Holds-forth (tables_of words) block.start block.number true root word None block.start range holds);
    })
    (λ s differ class i. unused_beside words root block.start block.number true word new bounds tables s class i differ)

-- and one that went from its root is unused
pub unused_taken : (words : List ℕ) (line root : ℕ) (block : SmallBlock) → IsDetachable words root block → (new : List ℕ) → IsDetached words line root block new → IsUnusedIn (tables_of new) block.start ((tables_of new).header block.start).class block.number
unused_taken words line root block may new detached =
    let t = tables_of words in
    let but = may.block_in.image.but in
    let place = IsSmallPlace-named root block.start block.number but (omega (arith, (sizes_of words may.block_in.image.formed).first)) may.block_in.rooted may.block_in.slab may.block_in.below may.set (may.named ∙ may.block_in.at) in
    let left = detached.image.but in
    let apart = unused_freed left.sound left.closed but.closed root (slab_block block.start (t.header block.start).class block.number) detached.gives.here detached.gives.others place.apart block.start in
    subst (λ c. IsUnusedIn (tables_of new) block.start c block.number) (sym (ap (λ (x : Tables). (x.header block.start).class) detached.tables)) (record { each = apart })
