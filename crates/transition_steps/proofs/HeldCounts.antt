-- A normal slab of an exact image holds no more blocks than live in it: each that it holds is the block of a root.
use Rattle.std.proofs.Common.{◌≡◌, ◌≢◌, ◌==◌, ◌||◌, ◌+◌, ◌<◌, ◌≤◌, ℕ, zero, suc, Bool, true, false, true≢false, cond, Option, Some, None, length, refl, sym, ap, ◌∙◌, arith, add-one, ⊎_elim, inl, if◌then◌else◌}
use Rattle.std.proofs.lemmas.Bool.{cases_Bool, cases_lt, cond-true, cond-false, eq-eqb, eqb-true, ne_eqb}
use Rattle.size_classes.specs.Classes.{class_size, class_capacity}
use Rattle.size_classes.proofs.Spacing.{class_size-least}
use Rattle.image_tables.specs.Forms.{normal_kind, morphing_kind}
use Rattle.image_tables.specs.Tables.{Tables}
use Rattle.slab_header.specs.Morph.{numbers_below, held_numbers}
use Rattle.heap_model.specs.Below.{any_below}
use Rattle.heap_model.proofs.Below.{any_below-true}
use Rattle.heap_model.specs.Machine.{Bounds, Range, slab_block, LiesIn}
use Rattle.heap_model.specs.Slabs.{begins_in, live_below}
use Rattle.heap_model.proofs.Freeing.{begins_in-here}
use Rattle.heap_model.proofs.Slabbing.{LiesIn-block, one_number}
use Rattle.heap_check.specs.Heap.{size_at, entry_at, heap, Holds}
use Rattle.heap_check.specs.Sound.{IsExact}
use Rattle.heap_check.proofs.Claims.{IsNamed-claim}
use Rattle.slab_morph.specs.Fitness.{held_count}
use Rattle.slab_morph.proofs.Numbers.{count_more, none_below}

-- numbers below a bound that pass a test

-- one number more, by what the test says of it
count_next : (test : ℕ → Bool) (n : ℕ) (passes : Bool) → test n ≡ passes → length (numbers_below test (suc n)) ≡ length (numbers_below test n) + cond passes 1 0
count_next test n passes is = ap (λ k. length (numbers_below test k)) (sym (add-one n)) ∙ count_more test n passes is

-- where each that passes one test passes the other, the one counts no more
count_within : (test other : ℕ → Bool) (n : ℕ) → ((i : ℕ) → i < n → test i ≡ true → other i ≡ true) → length (numbers_below test n) ≤ length (numbers_below other n)
count_within test other zero each = omega arith
count_within test other (suc n) each =
    let rest = count_within test other n (λ i less. each i (omega (arith, less))) in
    ⊎_elim
    (λ (is : test n ≡ true). omega (arith, rest, count_next test n true is, count_next other n true (each n (omega arith) is)))
    (λ (no : test n ≡ false). omega (arith, rest, count_next test n false no, count_next other n (other n) refl))
    (cases_Bool (test n))

-- where one at most passes the one test and not the other, the one counts one more at most
count_one_more : (test other : ℕ → Bool) (n : ℕ) → ((i k : ℕ) → i < n → k < n → test i ≡ true → other i ≡ false → test k ≡ true → other k ≡ false → i ≡ k) →
    length (numbers_below test n) ≤ length (numbers_below other n) + 1
count_one_more test other zero once = omega arith
count_one_more test other (suc n) once =
    let rest = count_one_more test other n (λ i k under below. once i k (omega (arith, under)) (omega (arith, below))) in
    ⊎_elim
    (λ (is : test n ≡ true). ⊎_elim
    (λ (both : other n ≡ true). omega (arith, rest, count_next test n true is, count_next other n true both))
    (λ (last : other n ≡ false).
    let within = count_within test other n (λ i less passes. ⊎_elim
    (λ (too : other i ≡ true). too)
    (λ (alone : other i ≡ false). absurd (omega (arith, less, once i n (omega (arith, less)) (omega arith) passes alone is last)))
    (cases_Bool (other i))) in
    omega (arith, within, count_next test n true is, count_next other n false last))
    (cases_Bool (other n)))
    (λ (no : test n ≡ false). omega (arith, rest, count_next test n false no, count_next other n (other n) refl))
    (cases_Bool (test n))

-- Each number is named by roots. A root names one at most, and only where its block begins in a slab: so no more are named than
-- live in the slab.
named_count : (named : ℕ → ℕ → Bool) (block : ℕ → Option Range) (s count : ℕ) → ((root i k : ℕ) → i < count → k < count → named root i ≡ true → named root k ≡ true → i ≡ k) →
    ((root i : ℕ) → i < count → named root i ≡ true → begins_in s (block root) ≡ true) → (n : ℕ) → length (numbers_below (λ i. any_below (λ root. named root i) n) count) ≤ live_below block s n
named_count named block s count once begins zero = omega (arith, none_below (λ i. any_below (λ root. named root i) 0) count (λ i less. refl))
named_count named block s count once begins (suc n) =
    let rest = named_count named block s count once begins n in
    ⊎_elim
    (λ (is : begins_in s (block n) ≡ true).
    let one = count_one_more now was count (λ i k under below passes alone also single. once n i k under below (by_last i passes alone) (by_last k also single)) in
    let more : live_below block s (suc n) ≡ 1 + live_below block s n = ap (λ b. (if b then 1 else 0) + live_below block s n) is in
    omega (arith, rest, one, more))
    (λ (no : begins_in s (block n) ≡ false).
    let same = count_within now was count (λ i less passes. ⊎_elim
    (λ (before : was i ≡ true). before)
    (λ (alone : was i ≡ false). absurd (true≢false (sym (begins n i less (by_last i passes alone)) ∙ no)))
    (cases_Bool (was i))) in
    let more : live_below block s (suc n) ≡ 0 + live_below block s n = ap (λ b. (if b then 1 else 0) + live_below block s n) no in
    omega (arith, rest, same, more))
    (cases_Bool (begins_in s (block n)))
  where
    was : ℕ → Bool
    was i = any_below (λ root. named root i) n

    now : ℕ → Bool
    now i = any_below (λ root. named root i) (suc n)

    -- one that was not named before is named by the last root
    by_last : (i : ℕ) → now i ≡ true → was i ≡ false → named n i ≡ true
    by_last i passes alone = ⊎_elim
        (λ (is : named n i ≡ true). is)
        (λ (no : named n i ≡ false). absurd (true≢false (sym passes ∙ ap (λ b. b || was i) no ∙ alone)))
        (cases_Bool (named n i))

module _ {b : Bounds} {t : Tables} (exact : IsExact b t) (past : (root : ℕ) → b.roots ≤ root → t.root root ≡ 0) (start : ℕ) (slab : t.slab start ≡ true) (normal : (t.header start).kind ≡ normal_kind) where
  abbrev class : ℕ
  class = (t.header start).class

  abbrev block : ℕ → Range
  block number = slab_block start class number

  -- a root names a block by its address
  abbrev named : ℕ → ℕ → Bool
  named root number = t.root root == (block number).at

  wide : 0 < class_size class
  wide = omega (arith, class_size-least class (exact.sound.slabs start slab).state.is_class)

  lies : (number : ℕ) → number < class_capacity class → LiesIn start (block number)
  lies number below = LiesIn-block start class (block number) (record { number = number; within = below; is = refl })

  once : (root i k : ℕ) → i < class_capacity class → k < class_capacity class → named root i ≡ true → named root k ≡ true → i ≡ k
  once root i k under below one other = one_number start class i k wide (sym (eqb-true (t.root root) (block i).at one) ∙ eqb-true (t.root root) (block k).at other)

  begins : (root number : ℕ) → number < class_capacity class → named root number ≡ true → begins_in start (heap t root) ≡ true
  begins root number below is =
      let here = eqb-true (t.root root) (block number).at is in
      let inside = lies number below in
      let some : t.root root ≢ 0 = λ none. omega (arith, here, none) in
      ap (begins_in start) (cond-false (t.root root == 0) None (Some (record { at = t.root root; size = size_at t root (t.root root) })) (ne_eqb (t.root root) 0 some))
      ∙ begins_in-here start (record { at = t.root root; size = size_at t root (t.root root) }) (omega (arith, inside.low, here)) (omega (arith, inside.high, wide, here))

  -- a block whose bit is set is some root's
  owned : (number : ℕ) → number < class_capacity class → (t.header start).bit number ≡ true → any_below (λ root. named root number) b.roots ≡ true
  owned number below set =
      let read : (t.header start).kind ≢ morphing_kind = λ morphing. omega (arith, normal, morphing) in
      let holds : Holds t start (block number) = record { slab = slab; block = inl (record { number = number; below = below; read = read; set = set; is = refl }) } in
      let owner = exact.sound.owned.claimed start (block number) holds in
      let its = IsNamed-claim t owner.0 (block number) (ap (λ e. entry_at e owner.0) exact.closed) owner.1 in
      let rooted : owner.0 < b.roots = ⊎_elim (λ less. less) (λ beyond. absurd (its.some (sym its.word ∙ past owner.0 beyond))) (cases_lt owner.0 b.roots) in
      any_below-true (λ root. named root number) b.roots owner.0 rooted (eq-eqb (t.root owner.0) (block number).at its.word)

  -- a normal slab has no index entries
  by_bits : held_count t start ≤ length (held_numbers t start)
  by_bits =
      let none = ((exact.sound.slabs start slab).state.none normal).1 in
      let old : length (numbers_below (t.header start).live (t.header start).index_count) ≡ 0 = ap (λ n. length (numbers_below (t.header start).live n)) none in
      ⊎_elim
      (λ is. let count = cond-true ((t.header start).kind == morphing_kind) 0 (length (held_numbers t start)) is in omega (arith, count, old))
      (λ no. let count = cond-false ((t.header start).kind == morphing_kind) 0 (length (held_numbers t start)) no in omega (arith, count, old))
      (cases_Bool ((t.header start).kind == morphing_kind))

  pub held_live : held_count t start ≤ live_below (heap t) start b.roots
  held_live =
      let bits : length (held_numbers t start) ≤ length (numbers_below (λ number. any_below (λ root. named root number) b.roots) (class_capacity class)) = count_within (t.header start).bit (λ number. any_below (λ root. named root number) b.roots) (class_capacity class) owned in
      let roots : length (numbers_below (λ number. any_below (λ root. named root number) b.roots) (class_capacity class)) ≤ live_below (heap t) start b.roots = named_count named (heap t) start (class_capacity class) once begins b.roots in
      omega (arith, by_bits, bits, roots)
