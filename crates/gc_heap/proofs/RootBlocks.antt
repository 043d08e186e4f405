-- The block that a root's word names, and where it lies.
use Rattle.std.proofs.Common.{◌≡◌, ◌≢◌, ℕ, ◌+◌, ◌-◌, ◌*◌, ◌/◌, ◌%◌, ◌<◌, ◌≤◌, true, nat_lt, List, Err, None, refl, sym, ap, subst, ◌∙◌, arith, ⊎_elim}
use Rattle.std.proofs.lemmas.Bool.{cases_eq, cases_lt, cond-true, cond-false, le-ltb, lt-ltb}
use Rattle.pmem_lines.specs.Words.{word_at}
use Rattle.pmem_lines.specs.Pmem.{PmemState, words_of, IsPlace}
use Rattle.unit_map.proofs.StateUnits.{block_on_units}
use Rattle.pool_layout.specs.Layout.{layout_of}
use Rattle.pool_layout.specs.Places.{root_word}
use Rattle.pool_layout.specs.Header.{version_in, granules_in}
use Rattle.image_tables.specs.Extents.{extent_at}
use Rattle.image_tables.specs.Tables.{Tables, large_of, tables_of}
use Rattle.image_tables.proofs.Tables.{large_table}
use Rattle.book_log.specs.Book.{Book}
use Rattle.log_steps.specs.Log.{IsBookOf}
use Rattle.heap_model.specs.Machine.{slab_block}
use Rattle.heap_model.proofs.Slabbing.{LiesIn-block}
use Rattle.heap_check.specs.Heap.{is_large}
use Rattle.heap_check.specs.Image.{bounds_of}
use Rattle.heap_check.proofs.Geometry.{is_large-parts, granules_at-slab}
use Rattle.gc_check.specs.Heap.{address_field, class_field, gc_size, gc_block, gc_tables}
use Rattle.gc_check.specs.Sound.{IsClassBlock, IsGcStanding, IsGcSound}
use Rattle.gc_check.specs.Image.{IsGcExactImage}
use Rattle.gc_check.specs.State.{gc_blocks}
use Rattle.gc_check.proofs.Tables.{over}
use Rattle.gc_check.proofs.Heaps.{size_large, size_small, gc_heap-none, gc_heap-some}
use Rattle.gc_check.proofs.RootWords.{whole}
use Rattle.gc_check.proofs.Steps.{gc_sizes}
use Rattle.arena_core.specs.declared.answer.BlockRefusal.{BlockRefusal}
use Rattle.arena_core.specs.declared.answer.BlockRefusal.TheVariants.{NoRoot, Empty, OutOfRange}
use Rattle.gc_heap.specs.Plan.{HasGcBlockAt, IsGcBlockPlan}
use Rattle.gc_heap.proofs.Sizes.{first_sizes}

-- the word of a root is read at its place
pub word_is : (words : List ℕ) (root : ℕ) → root < (bounds_of words).roots → (gc_tables words).word root ≡ word_at words (root_word root)
unfolding gc_tables tables_of
word_is words root below = cond-true (nat_lt root (layout_of (version_in words)).roots) (word_at words (root_word root)) 0 (lt-ltb root (layout_of (version_in words)).roots below)

pub root_place : {s : PmemState} (root at : ℕ) → at ≡ 8 * root_word root → root < (bounds_of (words_of s)).roots → IsGcExactImage (words_of s) → IsPlace s at
root_place {s} root at is below image = record { aligned = omega (arith, is); inside = omega (arith, is, (gc_sizes (words_of s) image.formed).inside root below) }

-- no word stands behind the last root
pub word_past : (words : List ℕ) (root : ℕ) → (bounds_of words).roots ≤ root → (gc_tables words).word root ≡ 0
unfolding gc_tables tables_of
word_past words root past = cond-false (nat_lt root (layout_of (version_in words)).roots) (word_at words (root_word root)) 0 (le-ltb root (layout_of (version_in words)).roots past)

-- how many granules an extent of the log has
pub large_in : (book : Book) (words : List ℕ) (start : ℕ) → IsBookOf book words → (gc_tables words).large start ≡ large_of (extent_at words start)
large_in book words start log = ap (λ (f : ℕ → ℕ). f start) (over words).large ∙ large_table words start

-- where a block lies

-- a word names a block that lies in the arena
pub record LiesInside (words : List ℕ) (word : ℕ) : Type 0 where
  pub aligned : address_field word % 8 ≡ 0
  pub inside : address_field word + gc_size (gc_tables words).large word ≤ 16384 * granules_in words

module _ (words : List ℕ) (image : IsGcExactImage words) where
  abbrev t : Tables
  t = gc_tables words

  abbrev sound : IsGcSound (bounds_of words) t
  sound = image.exact.sound

  -- a live large extent ends in the arena
  pub large_ends : (start : ℕ) → 0 < t.large start → start + t.large start ≤ granules_in words
  large_ends start live = omega (arith, (sound.extents.starts start (omega (arith, live, whole sound start live))).1, whole sound start live)

  -- so it has few granules
  pub large_few : (start : ℕ) → t.large start ≤ 1024
  large_few start = ⊎_elim
      (λ (live : 0 < t.large start). omega (arith, large_ends start live, (first_sizes words image.formed).most))
      (λ (none : t.large start ≤ 0). omega (arith, none))
      (cases_lt 0 (t.large start))

  lies_large : (word : ℕ) → class_field word ≡ 0 → is_large t.large (address_field word) ≡ true → LiesInside words word
  lies_large word none large =
      let parts = is_large-parts t.large (address_field word) large in
      record {
        aligned = omega (arith, parts.0);
        inside = omega (arith, parts.0, size_large t.large word none, large_ends (address_field word / 16384) parts.1);
      }

  lies_small : (word : ℕ) → 0 < class_field word → class_field word ≤ 36 → IsClassBlock t.slab (class_field word - 1) (address_field word) → LiesInside words word
  lies_small word some few block =
      let class = class_field word - 1 in
      let lies = LiesIn-block block.start class (slab_block block.start class block.number) (record { number = block.number; within = block.below; is = refl }) in
      let four = granules_at-slab t block.start block.slab in
      let ends = (sound.extents.starts block.start (omega (arith, four))).1 in
      record {
        aligned = omega (arith, block.is, (block_on_units block.start class block.number (omega (arith, some, few))).begins);
        inside = omega (arith, block.is, lies.high, size_small t.large word some, four, ends);
      }

  pub lies_inside : (word : ℕ) → IsGcStanding t word → LiesInside words word
  lies_inside word standing = ⊎_elim
      (λ large. lies_large word large.0 large.1)
      (λ small. lies_small word small.0 standing.form.class small.1)
      standing.stands

  -- a root's word stands
  pub stands_by : (root : ℕ) → t.word root ≢ 0 → IsGcStanding t (t.word root)
  stands_by root some = sound.owned.rooted root some

  -- the block of a root
  pub block_here : (root : ℕ) → root < (bounds_of words).roots → t.word root ≢ 0 → HasGcBlockAt words root (gc_block t.large (t.word root))
  block_here root below some =
      let lies = lies_inside (t.word root) (stands_by root some) in
      let sizes = first_sizes words image.formed in
      record {
        rooted = below;
        named = gc_heap-some t root some;
        place = (over words).root root;
        aligned = lies.aligned;
        inside = omega (arith, lies.inside, sizes.size);
        few = omega (arith, sizes.size, sizes.most);
      }

-- a root without a word has no block, and the other way round
pub no_block : (words : List ℕ) (root : ℕ) → (gc_tables words).word root ≡ 0 → gc_blocks words root ≡ None
no_block words root none = gc_heap-none (gc_tables words) root none

pub no_word : (words : List ℕ) (root : ℕ) → gc_blocks words root ≡ None → (gc_tables words).word root ≡ 0
no_word words root none = ⊎_elim
    (λ zero_word. zero_word)
    (λ (some : (gc_tables words).word root ≢ 0). absurd (let is = gc_heap-some (gc_tables words) root some in cc))
    (cases_eq ((gc_tables words).word root) 0)

-- where none is found the root has none
pub block_refused : (words : List ℕ) (root : ℕ) (refusal : BlockRefusal) → IsGcBlockPlan words root (Err refusal) → gc_blocks words root ≡ None
block_refused words root NoRoot past = no_block words root (word_past words root past)
block_refused words root Empty none = none.1
block_refused words root OutOfRange never = absurd never

-- the block that was read off a root's word
pub block_found : (words : List ℕ) → IsGcExactImage words → (root word at size : ℕ) → root < (bounds_of words).roots → word ≡ (gc_tables words).word root → word ≢ 0 → at ≡ address_field word → size ≡ gc_size (gc_tables words).large word →
    HasGcBlockAt words root (record { at = at; size = size })
block_found words image root word at size below is some at_is size_is =
    subst (HasGcBlockAt words root) (λ i. record { at = sym (at_is ∙ ap address_field is) i; size = sym (size_is ∙ ap (gc_size (gc_tables words).large) is) i })
    (block_here words image root below (λ none. some (is ∙ none)))

-- a root that holds an address is below the number of roots
pub root_named : (words : List ℕ) → IsGcExactImage words → (root : ℕ) → (gc_tables words).root root ≢ 0 → root < (bounds_of words).roots
root_named words image root some = ⊎_elim
    (λ below. below)
    (λ past. absurd (some ((over words).root root ∙ ap address_field (word_past words root past))))
    (cases_lt root (bounds_of words).roots)
