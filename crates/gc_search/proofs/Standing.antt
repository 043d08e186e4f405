-- Root words: whether the block of one may stand, root by root.
use Rattle.std.proofs.Common.{◌≡◌, ◌≢◌, ◌↔◌, ℕ, ◌+◌, ◌-◌, ◌/◌, ◌<◌, ◌≤◌, Bool, true, false, not, List, refl, sym, ap, subst, ◌∙◌, arith, inl, inr, ⊎_elim, IsTrue}
use Rattle.std.proofs.lemmas.Bool.{cases_lt, true≢false}
use Rattle.size_classes.proofs.Spacing.{class_size-least}
use Rattle.pool_layout.specs.Layout.{layout_of}
use Rattle.pool_layout.specs.Header.{version_in}
use Rattle.image_tables.specs.Tables.{Tables, is_slab, tables_of}
use Rattle.image_tables.proofs.Tables.{slab_table, word_table-past}
use Rattle.heap_model.specs.Machine.{slab_block}
use Rattle.heap_model.proofs.Slabbing.{LiesIn-block}
use Rattle.heap_check.specs.Heap.{is_large}
use Rattle.image_defects.specs.Least.{IsLeast}
use Rattle.image_reading.specs.Held.{IsNumberAt, HasNoNumber}
use Rattle.gc_check.specs.Heap.{address_field, class_field, IsGcRootWord, gc_tables}
use Rattle.gc_check.specs.Sound.{IsClassBlock, IsGcStanding}
use Rattle.gc_check.specs.Defects.{AreGcStanding, IsGcStrayRoot}
use Rattle.gc_check.proofs.Tables.{over}
use Rattle.gc_search.specs.Known.{IsBlockBack, IsGcSettled}

-- tables of this variant are those of the words but for what roots hold

pub gc_word : (words : List ℕ) (root : ℕ) → (gc_tables words).word root ≡ (tables_of words).word root
gc_word words root = ap (λ (f : ℕ → ℕ). f root) (over words).word

pub gc_large : (words : List ℕ) (start : ℕ) → (gc_tables words).large start ≡ (tables_of words).large start
gc_large words start = ap (λ (f : ℕ → ℕ). f start) (over words).large

pub gc_slab : (words : List ℕ) (start : ℕ) → (gc_tables words).slab start ≡ is_slab words start
gc_slab words start = ap (λ (f : ℕ → Bool). f start) (over words).slab ∙ slab_table words start

pub gc_is_large : (words : List ℕ) (at : ℕ) → is_large (gc_tables words).large at ≡ is_large (tables_of words).large at
gc_is_large words at = ap (λ (f : ℕ → ℕ). is_large f at) (over words).large

-- a block of a class in the slab that begins so many granules before its address

pub back_of : (words : List ℕ) (class at back start number : ℕ) → start + back ≡ at / 16384 → is_slab words start ≡ true → IsNumberAt start class at number → IsBlockBack (gc_tables words).slab class at back
back_of words class at back start number far slab is = record { start = start; number = number; far = far; slab = gc_slab words start ∙ slab; below = is.below; is = is.is }

pub no_back : (words : List ℕ) (class at back start : ℕ) → start + back ≡ at / 16384 → HasNoNumber start class at → ¬ (IsBlockBack (gc_tables words).slab class at back)
no_back words class at back start far none found =
    let same : found.start ≡ start = omega (arith, found.far, far) in
    none.none found.number (record { below = found.below; is = found.is ∙ ap (λ s. (slab_block s class found.number).at) same })

pub block_of : (slabs : ℕ → Bool) (class at back : ℕ) → IsBlockBack slabs class at back → IsClassBlock slabs class at
block_of slabs class at back found = record { start = found.start; number = found.number; slab = found.slab; below = found.below; is = found.is }

-- the slab of a block begins at most three granules before its address
pub back_from : (slabs : ℕ → Bool) (class at : ℕ) → class < 36 → IsClassBlock slabs class at → (back : ℕ) × (back < 4) × IsBlockBack slabs class at back
back_from slabs class at is_class block =
    let lies = LiesIn-block block.start class (slab_block block.start class block.number) (record { number = block.number; within = block.below; is = refl }) in
    let some = class_size-least class is_class in (
      at / 16384 - block.start,
      omega (arith, lies.high, block.is, some),
      record {
        start = block.start;
        number = block.number;
        far = omega (arith, lies.low, block.is);
        slab = block.slab;
        below = block.below;
        is = block.is;
      },
    )

-- whether the block of a word may stand

pub standing_large : (words : List ℕ) (word : ℕ) (large : Bool) → IsGcRootWord word → class_field word ≡ 0 → large ≡ is_large (tables_of words).large (address_field word) → (IsTrue large ↔ IsGcStanding (gc_tables words) word)
standing_large words word large form none is = (
  λ e. record { form = form; stands = inl (none, gc_is_large words (address_field word) ∙ sym is ∙ e) },
  λ standing. ⊎_elim (λ stands. is ∙ sym (gc_is_large words (address_field word)) ∙ stands.1) (λ small. absurd (omega (arith, small.0, none))) standing.stands,
)

pub standing_small : (words : List ℕ) (word : ℕ) (has : Bool) → IsGcRootWord word → class_field word ≢ 0 → (IsTrue has ↔ IsClassBlock (gc_tables words).slab (class_field word - 1) (address_field word)) → (IsTrue has ↔ IsGcStanding (gc_tables words) word)
standing_small words word has form some says = (
  λ e. record { form = form; stands = inr (omega arith, says.0 e) },
  λ standing. ⊎_elim (λ large. absurd (some large.0)) (λ small. says.1 small.1) standing.stands,
)

-- root by root

pub settled_none : (words : List ℕ) (root word : ℕ) → word ≡ (tables_of words).word root → word ≡ 0 → IsGcSettled (gc_tables words) root
settled_none words root word is none = record { stands = λ some. absurd (some (gc_word words root ∙ sym is ∙ none)) }

pub settled_by : (words : List ℕ) (root word : ℕ) → word ≡ (tables_of words).word root → IsGcStanding (gc_tables words) word → IsGcSettled (gc_tables words) root
settled_by words root word is standing = record { stands = λ some. subst (IsGcStanding (gc_tables words)) (is ∙ sym (gc_word words root)) standing }

pub stray_by : (words : List ℕ) (root word : ℕ) → word ≡ (tables_of words).word root → word ≢ 0 → ¬ (IsGcStanding (gc_tables words) word) → IsGcStrayRoot (gc_tables words) root
stray_by words root word is some stray = record {
  some = λ none. some (is ∙ sym (gc_word words root) ∙ none);
  stray = λ standing. stray (subst (IsGcStanding (gc_tables words)) (gc_word words root ∙ sym is) standing);
}

pub first_stray : (t : Tables) (root : ℕ) → IsGcStrayRoot t root → ((k : ℕ) → k < root → IsGcSettled t k) → IsLeast (IsGcStrayRoot t) root
first_stray t root stray before = record {
  here = stray;
  least = λ other s. ⊎_elim (λ (less : other < root). absurd (s.stray ((before other less).stands s.some))) (λ (most : root ≤ other). most) (cases_lt other root);
}

-- a root that has a word is one of the arena's
pub root_below : (words : List ℕ) (root : ℕ) → (gc_tables words).word root ≢ 0 → root < (layout_of (version_in words)).roots
root_below words root some = ⊎_elim
    (λ (below : root < (layout_of (version_in words)).roots). below)
    (λ (past : (layout_of (version_in words)).roots ≤ root). absurd (some (gc_word words root ∙ word_table-past words root past)))
    (cases_lt root (layout_of (version_in words)).roots)

pub all_standing : (words : List ℕ) (n : ℕ) → (layout_of (version_in words)).roots ≤ n → ((k : ℕ) → k < n → IsGcSettled (gc_tables words) k) → AreGcStanding (gc_tables words)
all_standing words n all settled = λ root some. (settled root (omega (arith, root_below words root some))).stands some

-- what is not false
pub true_of : (r : Bool) → not r ≡ false → r ≡ true
true_of true e = refl
true_of false e = absurd (true≢false e)
