-- How many live blocks the slabs of an image have: once a root has another block, and once slabs come and go.
use Rattle.std.proofs.Common.{◌≡◌, ◌≢◌, ◌==◌, ℕ, ◌+◌, ◌-◌, ◌*◌, ◌<◌, ◌≤◌, Bool, true, false, true≢false, List, length, slice_index, Some, None, refl, sym, ap, ◌∙◌, arith, ⊎_elim, if◌then◌else◌, ne_eqb, eq-eqb}
use Rattle.heap_check.proofs.Common.{Range, Bounds, granules_in, Tables, tables_of, false_from_ne_true, cases_lt, cases_eq, root_table-past}
use Rattle.heap_model.proofs.Counts.{one_if, live_below-most, live_given}
use Rattle.heap_check.specs.Image.{bounds_of}
use Rattle.heap_check.specs.Sound.{IsSound, IsInSlab}
use Rattle.heap_check.specs.Views.{live_in, AreCountsOf}
use Rattle.heap_model.specs.Slabs.{live_below, begins_in}
use Rattle.heap_check.specs.Heap.{Holds, heap, entry_at}
use Rattle.heap_model.proofs.Freeing.{BeginsIn, begins_in-here, begins_at, begins_in-true, live_below-none, live_below-some}
use Rattle.heap_check.proofs.Heaps.{IsClaim-heap, heap-claim}
use Rattle.heap_check.proofs.Claims.{IsNamed-claim}
use Rattle.heap_check.proofs.Within.{IsInSlab-held}
use Rattle.heap_check.proofs.SmallPlaces.{Holds-claim}
use Rattle.heap_check.proofs.Geometry.{is_large-start, one_slab, is_large-slab}

-- numbers of slabs: where no slab begins they are 0

pub by_slab : (is : Bool) (m n : ℕ) → (is ≡ true → m ≡ n) → (if is then m else 0) ≡ (if is then n else 0)
by_slab true m n same = same refl
by_slab false m n same = refl

-- one more in one slab
pub more_by_slab : (is here : Bool) (m n : ℕ) → (is ≡ true → m ≡ one_if here + n) → (is ≡ false → here ≡ false) → (if is then m else 0) ≡ one_if here + (if is then n else 0)
more_by_slab true here m n more none = more refl
more_by_slab false here m n more none = let off : one_if here ≡ 0 = ap one_if (none refl) in omega (arith, off)

-- no more than of the others
pub most_by_slab : (is : Bool) {m n : ℕ} → m ≤ n → (if is then m else 0) ≤ n
most_by_slab true most = most
most_by_slab false most = omega arith

pub put_one : (is : Bool) (n : ℕ) → (if is then n + 1 else n) ≡ one_if is + n
put_one is n = grind arith

-- a slab that holds no block has no live one
pub live_none : {b : Bounds} {t : Tables} → IsSound b t → t.open_entry ≡ None → (start : ℕ) → t.slab start ≡ true → ((range : Range) → ¬ (Holds t start range)) → (n : ℕ) → live_below (heap t) start n ≡ 0
live_none {b} {t} sound closed start slab none n = live_below-none (heap t) start n (λ root below begins. alone root begins)
  where
    alone : (root : ℕ) → ¬ (BeginsIn start (heap t root))
    alone root begins =
        let unnamed : entry_at t.open_entry root ≡ 0 = ap (λ e. entry_at e root) closed in
        let claim = IsClaim-heap t root begins.range unnamed begins.named in
        none begins.range (Holds-claim sound root start begins.range unnamed claim (record { slab = slab; low = begins.low; high = begins.high }))

-- one that holds a block has some
pub live_some : (words : List ℕ) → IsSound (bounds_of words) (tables_of words) → (tables_of words).open_entry ≡ None → (start : ℕ) (range : Range) → Holds (tables_of words) start range →
    0 < live_below (heap (tables_of words)) start (bounds_of words).roots
live_some words sound closed start range holds =
    let t = tables_of words in
    let owner = sound.owned.claimed start range holds in
    let unnamed : entry_at t.open_entry owner.0 ≡ 0 = ap (λ e. entry_at e owner.0) closed in
    let its = IsNamed-claim t owner.0 range unnamed owner.1 in
    let inside = IsInSlab-held sound start range holds in
    let rooted : owner.0 < (bounds_of words).roots = ⊎_elim (λ less. less) (λ past. absurd (its.some (sym its.word ∙ root_table-past words owner.0 past))) (cases_lt owner.0 (bounds_of words).roots) in
    let named = heap-claim t owner.0 range unnamed owner.1 in
    live_below-some (heap t) start (bounds_of words).roots owner.0 rooted (ap (begins_in start) named ∙ begins_in-here start range inside.low inside.high)

-- counts stay where the numbers do
pub counts_kept : (words new : List ℕ) (counts : List ℕ) → granules_in new ≡ granules_in words → ((s : ℕ) → live_in new s ≡ live_in words s) → AreCountsOf counts words → AreCountsOf counts new
counts_kept words new counts granules same were = record { size = were.size ∙ sym granules; each = λ s. were.each s ∙ sym (same s) }

-- One image has the block of a root that the other has not, in the slab at a start.
pub record IsOneMore (without with_it : List ℕ) (root start : ℕ) (range : Range) : Type 0 where
  pub rooted : root < (bounds_of without).roots
  pub bounds : bounds_of with_it ≡ bounds_of without
  pub slabs : (s : ℕ) → (tables_of with_it).slab s ≡ (tables_of without).slab s
  pub none : heap (tables_of without) root ≡ None
  pub some : heap (tables_of with_it) root ≡ Some range
  pub others : (other : ℕ) → other ≢ root → heap (tables_of with_it) other ≡ heap (tables_of without) other
  -- its slab is the only one that has its address
  pub inside : (tables_of without).slab start ≡ true
  pub begins : (s : ℕ) → (tables_of without).slab s ≡ true → begins_in s (Some range) ≡ (s == start)

pub live_step : (without with_it : List ℕ) (root start : ℕ) (range : Range) → IsOneMore without with_it root start range → (s : ℕ) → live_in with_it s ≡ one_if (s == start) + live_in without s
live_step without with_it root start range more s =
    (λ i. if more.slabs s i then live_below (heap (tables_of with_it)) s (more.bounds i).roots else 0)
    ∙ more_by_slab ((tables_of without).slab s) (s == start) (live_below (heap (tables_of with_it)) s (bounds_of without).roots) (live_below (heap (tables_of without)) s (bounds_of without).roots)
    (λ slab.
    live_given (heap (tables_of without)) (heap (tables_of with_it)) s (bounds_of without).roots root range more.rooted more.none more.some more.others
    ∙ ap (λ is. one_if is + live_below (heap (tables_of without)) s (bounds_of without).roots) (more.begins s slab))
    (λ no. ne_eqb s start (λ same. true≢false (sym more.inside ∙ ap (tables_of without).slab (sym same) ∙ no)))

-- an address in a slab of sound tables lies in no other
pub begins_only : {b : Bounds} {t : Tables} → IsSound b t → (start : ℕ) (range : Range) → IsInSlab t start range.at → (s : ℕ) → t.slab s ≡ true → begins_in s (Some range) ≡ (s == start)
begins_only {b} {t} sound start range inside s slab = ⊎_elim
    (λ (same : s ≡ start). begins_in-here s range (omega (arith, same, inside.low)) (omega (arith, same, inside.high)) ∙ sym (eq-eqb s start same))
    (λ (apart : s ≢ start).
    false_from_ne_true (begins_in s (Some range)) (λ is.
    let at = begins_at s range (begins_in-true s (Some range) is) in
    apart (one_slab sound s start range.at (record { slab = slab; low = at.0; high = at.1 }) inside))
    ∙ sym (ne_eqb s start apart))
    (cases_eq s start)

-- the number of one slab rises, or falls
pub counts_raised : (without with_it : List ℕ) (root start : ℕ) (range : Range) (counts next : List ℕ) → IsOneMore without with_it root start range → length next ≡ length counts →
    ((s : ℕ) → slice_index next s ≡ (if s == start then slice_index counts s + 1 else slice_index counts s)) → AreCountsOf counts without → AreCountsOf next with_it
counts_raised without with_it root start range counts next more size put were = record {
  size = size ∙ were.size ∙ sym (ap (λ (b : Bounds). b.granules) more.bounds);
  each = λ s. put s ∙ put_one (s == start) (slice_index counts s) ∙ ap (λ n. one_if (s == start) + n) (were.each s) ∙ sym (live_step without with_it root start range more s);
}

-- there are no more than roots
pub live_most : (words : List ℕ) (start : ℕ) → live_in words start ≤ (bounds_of words).roots
live_most words start = most_by_slab ((tables_of words).slab start) (live_below-most (heap (tables_of words)) start (bounds_of words).roots)

-- where the slabs and the heap are the same, so are the numbers
pub live_same : (words new : List ℕ) → bounds_of new ≡ bounds_of words → ((s : ℕ) → (tables_of new).slab s ≡ (tables_of words).slab s) → ((root : ℕ) → heap (tables_of new) root ≡ heap (tables_of words) root) → (s : ℕ) → live_in new s ≡ live_in words s
live_same words new bounds slabs heaps s = λ i. if slabs s i then live_below (λ root. heaps root i) s (bounds i).roots else 0

-- where a root got a large block, or lost it, they are the same
pub live_in-large : (without with_it : List ℕ) (root start count : ℕ) → IsSound (bounds_of with_it) (tables_of with_it) → (tables_of with_it).large start ≡ count → 0 < count → root < (bounds_of without).roots → bounds_of with_it ≡ bounds_of without →
    ((s : ℕ) → (tables_of with_it).slab s ≡ (tables_of without).slab s) → heap (tables_of without) root ≡ None → heap (tables_of with_it) root ≡ Some (record { at = 16384 * start; size = 16384 * count }) →
    ((other : ℕ) → other ≢ root → heap (tables_of with_it) other ≡ heap (tables_of without) other) → (s : ℕ) → live_in with_it s ≡ live_in without s
live_in-large without with_it root start count sound live many rooted bounds slabs none some others s =
    let range : Range = record { at = 16384 * start; size = 16384 * count } in
    (λ i. if slabs s i then live_below (heap (tables_of with_it)) s (bounds i).roots else 0)
    ∙ by_slab ((tables_of without).slab s) (live_below (heap (tables_of with_it)) s (bounds_of without).roots) (live_below (heap (tables_of without)) s (bounds_of without).roots) (λ slab.
    let given = live_given (heap (tables_of without)) (heap (tables_of with_it)) s (bounds_of without).roots root range rooted none some others in
    let off : one_if (begins_in s (Some range)) ≡ 0 = ap one_if (false_from_ne_true (begins_in s (Some range)) (λ is.
    let at = begins_at s range (begins_in-true s (Some range) is) in
    true≢false (sym (is_large-start (tables_of with_it).large start (omega (arith, live, many))) ∙ is_large-slab sound s (16384 * start) (record { slab = slabs s ∙ slab; low = at.0; high = at.1 })))) in
    omega (arith, given, off))
