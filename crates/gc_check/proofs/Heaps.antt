-- The block that a root's word names.
use Rattle.std.proofs.Common.{◌≡◌, ◌≢◌, ◌==◌, ℕ, ◌-◌, ◌*◌, ◌/◌, ◌<◌, arith, ⊎_elim, Some, None}
use Rattle.std.proofs.lemmas.Bool.{cases_eq, cond-true, cond-false, eq-eqb, ne_eqb}
use Rattle.size_classes.specs.Classes.{class_size}
use Rattle.image_tables.specs.Tables.{Tables}
use Rattle.heap_model.specs.Machine.{Range}
use Rattle.gc_check.specs.Heap.{address_field, class_field, gc_size, gc_block, gc_heap}

pub size_large : (large : ℕ → ℕ) (word : ℕ) → class_field word ≡ 0 → gc_size large word ≡ 16384 * large (address_field word / 16384)
size_large large word none = cond-true (class_field word == 0) _ _ (eq-eqb (class_field word) 0 none)

pub size_small : (large : ℕ → ℕ) (word : ℕ) → 0 < class_field word → gc_size large word ≡ class_size (class_field word - 1)
size_small large word some = cond-false (class_field word == 0) _ _ (ne_eqb (class_field word) 0 (λ none. omega (arith, some, none)))

pub gc_heap-none : (t : Tables) (root : ℕ) → t.word root ≡ 0 → gc_heap t root ≡ None
gc_heap-none t root none = cond-true (t.word root == 0) None _ (eq-eqb (t.word root) 0 none)

pub gc_heap-some : (t : Tables) (root : ℕ) → t.word root ≢ 0 → gc_heap t root ≡ Some (gc_block t.large (t.word root))
gc_heap-some t root some = cond-false (t.word root == 0) None (Some (gc_block t.large (t.word root))) (ne_eqb (t.word root) 0 some)

-- a block of the heap is that of its root's word
pub record IsNamed (t : Tables) (root : ℕ) (range : Range) : Type 0 where
  pub some : t.word root ≢ 0
  pub is : range ≡ gc_block t.large (t.word root)

pub IsNamed-heap : (t : Tables) (root : ℕ) (range : Range) → gc_heap t root ≡ Some range → IsNamed t root range
IsNamed-heap t root range block = ⊎_elim
    (λ (none : t.word root ≡ 0). absurd (let nothing = gc_heap-none t root none in cc))
    (λ (some : t.word root ≢ 0). let is = gc_heap-some t root some in record { some = some; is = cc })
    (cases_eq (t.word root) 0)
