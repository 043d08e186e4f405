-- What a root's word and a slab's class leave of an image, and what a crash within their stores does.
use Rattle.std.proofs.Common.{◌≡◌, ◌≢◌, ◌⊎◌, ◌==◌, ℕ, ◌+◌, ◌*◌, ◌/◌, ◌%◌, ◌^◌, ◌<◌, ◌≤◌, true, cond, List, length, Option, Some, None, refl, sym, ap, subst, ◌∙◌, arith, inl, inr, ⊎_elim}
use Rattle.std.proofs.lemmas.Bool.{cases_eq, cond-true}
use Rattle.pmem_lines.specs.Words.{word_at, put_word}
use Rattle.pmem_lines.proofs.Words.{word_at-put_same, word_at-put_other}
use Rattle.pool_layout.specs.Places.{root_word, heap_word}
use Rattle.pool_layout.specs.Header.{version_in}
use Rattle.pool_layout.proofs.Layouts.{layout_rules}
use Rattle.image_tables.specs.Forms.{normal_kind}
use Rattle.image_tables.specs.Tables.{Tables, is_slab, AreSlabsInHeap, state_word, slab_header}
use Rattle.image_tables.proofs.Stores.{heap_word-put_root, state_field-same}
use Rattle.heap_model.specs.Machine.{Range, with_key}
use Rattle.heap_model.proofs.Maps.{with_key-here, with_key-other}
use Rattle.heap_check.specs.Heap.{slabs}
use Rattle.heap_check.specs.Image.{bounds_of}
use Rattle.heap_check.proofs.Forms.{bounds_of-put_root, bounds_of-put_word}
use Rattle.heap_check.proofs.Geometry.{granules_at-slab}
use Rattle.gc_check.specs.Heap.{gc_block, gc_tables, gc_heap}
use Rattle.gc_check.specs.Sound.{IsGcSound, IsGcExact}
use Rattle.gc_check.specs.Image.{IsGcFormed, IsGcSoundImage, IsGcExactImage}
use Rattle.gc_check.specs.State.{gc_blocks, gc_slabs, HaveSameGcHeap, KeepsGcBlocks, IsEitherGcHeap}
use Rattle.gc_check.proofs.RootWords.{with_word, word-own, word-other, block_low, block_off_state, IsGcExact-class}
use Rattle.gc_check.proofs.Forms.{slabs_high, is_slab-in, class_in, is_slab_same, gc_tables-put_root, IsOffLog-state, IsGcFormed-put_state, gc_tables-put_state}

-- the numbers of an arena of this variant
pub record HasGcSizes (words : List ℕ) : Type 0 where
  pub first : 0 < (bounds_of words).first
  pub roots : (bounds_of words).roots < 2 ^ 16
  pub inside : (root : ℕ) → root < (bounds_of words).roots → root_word root < length words

pub gc_sizes : (words : List ℕ) → IsGcFormed words → HasGcSizes words
gc_sizes words formed =
    let rules = layout_rules (version_in words) in
    let valid = formed.header.valid.valid in
    record {
      first = omega (arith, rules.first);
      roots = rules.few_roots;
      inside = λ root below. omega (arith, below, formed.size, rules.roots, rules.heap, rules.some_granule, valid.least);
    }

-- a root's word

-- where another word is put, the root has the block that it names, or none, and the others keep theirs
pub blocks_put : (words : List ℕ) (root word : ℕ) (block : Option Range) → root < (bounds_of words).roots → IsGcFormed words → IsGcSound (bounds_of words) (gc_tables words) →
    cond (word == 0) None (Some (gc_block (gc_tables words).large word)) ≡ block → (other : ℕ) → gc_blocks (put_word words (root_word root) word) other ≡ with_key (gc_blocks words) root block other
blocks_put words root word block below formed sound is other =
    let t = gc_tables words in
    let tables = gc_tables-put_root words root word below ((gc_sizes words formed).inside root below) (slabs_high words sound.extents) in
    ap (λ (t : Tables). gc_heap t other) tables
    ∙ ⊎_elim
    (λ (own : other ≡ root).
    ap (λ w. cond (w == 0) None (Some (gc_block t.large w))) (ap (with_word t root word).word own ∙ word-own t root word) ∙ is
    ∙ sym (ap (with_key (gc_blocks words) root block) own ∙ with_key-here (gc_blocks words) root block))
    (λ (differ : other ≢ root).
    ap (λ w. cond (w == 0) None (Some (gc_block t.large w))) (word-other t root word other differ)
    ∙ sym (with_key-other (gc_blocks words) root other block differ))
    (cases_eq other root)

pub slabs_put : (words : List ℕ) (root word : ℕ) → root < (bounds_of words).roots → IsGcFormed words → IsGcSound (bounds_of words) (gc_tables words) → (start : ℕ) → gc_slabs (put_word words (root_word root) word) start ≡ gc_slabs words start
slabs_put words root word below formed sound start =
    ap (λ (t : Tables). slabs t start) (gc_tables-put_root words root word below ((gc_sizes words formed).inside root below) (slabs_high words sound.extents))

-- crashes

-- an image in which the heap's words are those of another keeps its blocks' words
pub keeps_blocks : (words image : List ℕ) → IsGcSound (bounds_of words) (gc_tables words) → ((k : ℕ) → heap_word (version_in words) ≤ k → word_at image k ≡ word_at words k) → KeepsGcBlocks words image
keeps_blocks words image sound same = record {
  each = λ root other range k block also word. same k (omega (arith, block_low sound root range block, word.low));
}

-- what a store of a root's word leaves before it is durable: the old image or the new one
pub either_root : (words : List ℕ) (root word : ℕ) → root < (bounds_of words).roots → IsGcSoundImage words → IsGcSoundImage (put_word words (root_word root) word) →
    (image : List ℕ) → (image ≡ words) ⊎ (image ≡ put_word words (root_word root) word) → IsEitherGcHeap words (put_word words (root_word root) word) image
either_root words root word below old new image is =
    let after = put_word words (root_word root) word in
    ⊎_elim
    (λ before. subst (IsEitherGcHeap words after) (sym before) (record { sound = old; bounds = refl; heap = inl (record { each = λ r. refl }); words = keeps_blocks words words old.sound (λ k high. refl) }))
    (λ behind. subst (IsEitherGcHeap words after) (sym behind) (record {
      sound = new;
      bounds = bounds_of-put_root words root word;
      heap = inr (record { each = λ r. refl });
      words = keeps_blocks words after old.sound (λ k high. heap_word-put_root words root word k below high);
    }))
    is

-- a slab's class

-- the class that a state word says
class_said : (words : List ℕ) (start class : ℕ) → class < 36 → is_slab words start ≡ true → word_at words (state_word start) ≡ normal_kind + 2 ^ 8 * class → (slab_header words start).class ≡ class
class_said words start class few slab is =
    cond-true (is_slab words start) (word_at words (state_word start) / 2 ^ 8 % 2 ^ 8) 0 slab ∙ omega (arith, is, few)

-- the state word of a slab lies inside
pub state_inside : (words : List ℕ) (start : ℕ) → IsGcExactImage words → is_slab words start ≡ true → state_word start < length words
state_inside words start image slab =
    let four = granules_at-slab (gc_tables words) start (is_slab-in words start slab) in
    let bounds = image.exact.sound.extents.starts start (omega (arith, four)) in
    omega (arith, bounds.1, four, image.formed.size)

-- where a slab's state word says another class, the image is exact, with the same heap
module _ (words : List ℕ) (start class : ℕ) (image : IsGcExactImage words) (slab : is_slab words start ≡ true) (few : class < 36) where
  abbrev classed : List ℕ
  classed = put_word words (state_word start) (normal_kind + 2 ^ 8 * class)

  in_heap : AreSlabsInHeap words
  in_heap = slabs_high words image.exact.sound.extents

  tables : gc_tables classed ≡ record (gc_tables words) { header = slab_header classed }
  tables = gc_tables-put_state words start (normal_kind + 2 ^ 8 * class) in_heap slab

  inside : state_word start < length words
  inside = state_inside words start image slab

  formed : IsGcFormed classed
  formed = IsGcFormed-put_state words start (normal_kind + 2 ^ 8 * class) in_heap slab inside (record { class = class; below = few; is = refl }) image.formed

  pub same_bounds : bounds_of classed ≡ bounds_of words
  same_bounds = bounds_of-put_word words (state_word start) (normal_kind + 2 ^ 8 * class) (λ e. (IsOffLog-state words start in_heap slab).fields (sym e))

  own_class : (slab_header classed start).class ≡ class
  own_class = class_said classed start class few (is_slab_same words (state_word start) _ (IsOffLog-state words start in_heap slab) start ∙ slab) (word_at-put_same words (state_word start) (state_word start) _ refl inside)

  other_class : (other : ℕ) → other ≢ start → (slab_header classed other).class ≡ ((gc_tables words).header other).class
  other_class other differ =
      state_field-same words classed other 8 (is_slab_same words (state_word start) _ (IsOffLog-state words start in_heap slab) other)
      (λ is. word_at-put_other words (state_word start) (state_word other) _ (λ e. differ (omega (arith, e))))
      ∙ sym (class_in words other)

  classes : (other : ℕ) → (gc_tables words).slab other ≡ true → (slab_header classed other).class < 36
  classes other is = ⊎_elim
      (λ (same : other ≡ start). omega (arith, ap (λ s. (slab_header classed s).class) same, own_class, few))
      (λ (differ : other ≢ start). omega (arith, other_class other differ, image.exact.sound.classes other is))
      (cases_eq other start)

  pub classed_exact : IsGcExactImage classed
  classed_exact = record {
    formed = formed;
    exact = subst (λ b. IsGcExact b (gc_tables classed)) (sym same_bounds) (subst (IsGcExact (bounds_of words)) (sym tables) (IsGcExact-class (slab_header classed) image.exact classes));
  }

  pub classed_heap : HaveSameGcHeap words classed
  classed_heap = record { each = λ root. ap (λ (t : Tables). gc_heap t root) tables }

  pub classed_slabs : (other : ℕ) → gc_slabs classed other ≡ with_key (gc_slabs words) start (Some class) other
  classed_slabs other = ap (λ (t : Tables). slabs t other) tables ∙ ⊎_elim
      (λ (same : other ≡ start).
      ap (λ s. slabs (record (gc_tables words) { header = slab_header classed }) s) same
      ∙ cond-true ((gc_tables words).slab start) (Some (slab_header classed start).class) None (is_slab-in words start slab) ∙ ap (λ c. Some c) own_class
      ∙ sym (ap (with_key (gc_slabs words) start (Some class)) same ∙ with_key-here (gc_slabs words) start (Some class)))
      (λ (differ : other ≢ start).
      ap (λ c. cond ((gc_tables words).slab other) (Some c) None) (other_class other differ)
      ∙ sym (with_key-other (gc_slabs words) start other (Some class) differ))
      (cases_eq other start)

  pub either_class : (image' : List ℕ) → (image' ≡ words) ⊎ (image' ≡ classed) → IsEitherGcHeap words classed image'
  either_class image' is = ⊎_elim
      (λ before. subst (IsEitherGcHeap words classed) (sym before) (record {
        sound = record { formed = image.formed; sound = image.exact.sound };
        bounds = refl;
        heap = inl (record { each = λ r. refl });
        words = keeps_blocks words words image.exact.sound (λ k high. refl);
      }))
      (λ behind. subst (IsEitherGcHeap words classed) (sym behind) (record {
        sound = record { formed = formed; sound = classed_exact.exact.sound };
        bounds = same_bounds;
        heap = inr (record { each = λ r. refl });
        words = record {
          each = λ root other range k block also word.
              word_at-put_other words (state_word start) k _ (λ e. block_off_state image.exact.sound root start k range block (is_slab-in words start slab) word (omega (arith, e)));
        };
      }))
      is
