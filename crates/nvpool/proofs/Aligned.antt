-- The size of a block is a multiple of sixteen, so the lines of a block have all of its words.
use Rattle.std.proofs.Common.{◌≡◌, ◌==◌, ℕ, ◌-◌, ◌*◌, ◌/◌, ◌%◌, ◌<◌, ◌≤◌, Bool, true, false, if◌then◌else◌, Some, None, sym, ap, subst, ⊎_elim, arith}
use Rattle.std.proofs.lemmas.Bool.{cases_lt}
use Rattle.std.proofs.lemmas.List.{get_or_past}
use Rattle.size_classes.specs.Classes.{sizes, class_size}
use Rattle.size_classes.proofs.Spacing.{class_size-aligned}
use Rattle.image_tables.specs.Tables.{Tables, tables_of}
use Rattle.heap_model.specs.Machine.{Range}
use Rattle.heap_check.specs.Heap.{is_large, size_at}
use Rattle.gc_check.specs.Heap.{address_field, class_field, gc_tables}
use Rattle.gc_check.proofs.Heaps.{IsNamed-heap}
use Rattle.gc_map.specs.GcRules.{gc_rules}
use Rattle.heap_map.specs.LogRules.{log_rules}
use Rattle.nvpool.specs.Dumping.{HaveWholeLines}

-- past the last class there is no size
past_last : (class : ℕ) → 36 ≤ class → class_size class % 16 ≡ 0
unfolding class_size sizes
past_last class past = ap (λ s. s % 16) (get_or_past sizes class 0 past)

class_aligned : (class : ℕ) → class_size class % 16 ≡ 0
class_aligned class = ⊎_elim (λ (low : class < 36). class_size-aligned class low) (λ (high : 36 ≤ class). past_last class high) (cases_lt class 36)

either : (b : Bool) (m n : ℕ) → m % 16 ≡ 0 → n % 16 ≡ 0 → (if b then m else n) % 16 ≡ 0
either true m n p q = p
either false m n p q = q

size_aligned : (t : Tables) (root at : ℕ) → size_at t root at % 16 ≡ 0
size_aligned t root at = either (is_large t.large at) _ _ (omega arith) (either _ _ _ (class_aligned _) (class_aligned _))

pub log_lines : HaveWholeLines log_rules
log_lines words root range is = by (t.root root == 0) is
  where
    t : Tables
    t = tables_of words

    own : Range
    own = record { at = t.root root; size = size_at t root (t.root root) }

    by : (b : Bool) → (if b then None else Some own) ≡ Some range → range.size % 16 ≡ 0
    by true none = absurd (cc)
    by false some =
        let same : own ≡ range = cc in
        subst (λ (r : Range). r.size % 16 ≡ 0) same (size_aligned t root (t.root root))

pub gc_lines : HaveWholeLines gc_rules
gc_lines words root range is =
    let t = gc_tables words in
    let size = ap (λ (r : Range). r.size) (IsNamed-heap t root range is).is in
    let word = t.word root in
    subst (λ s. s % 16 ≡ 0) (sym size) (either (class_field word == 0) (16384 * t.large (address_field word / 16384)) (class_size (class_field word - 1)) (omega arith) (class_aligned (class_field word - 1)))
