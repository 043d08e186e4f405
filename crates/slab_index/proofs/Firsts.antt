-- The lowest available blocks of a slab are taken one after another.
use Rattle.std.proofs.Common.{◌≡◌, ◌≢◌, ℕ, ◌+◌, ◌-◌, ◌<◌, ◌≤◌, ◌⊎◌, ⊎_elim, inl, inr, true, false, eqb, ◌&&◌, List, [], ◌∷◌, ◌++◌, length, Option, None, Some, MatchOption, length-append, append_assoc, refl, sym, ap, ◌∙◌, subst, arith}
use Rattle.slab_index.proofs.Common.{cases_lt, cases_eq, eq-eqb, ne_eqb, cond-true, cond-false, and_from, and_left, and_right, both_ways, append-nil, class_capacity}
use Rattle.heap_model.specs.Placement.{Has, IsNext, AreLowest}
use Rattle.slab_index.specs.SlabSet.{SlabSet, class_in, is_available, IsBlock, AreTaken}
use Rattle.slab_index.specs.Kept.{capacity_or_none, IsUsedUp, TookFirst, TookSome}

-- what follows of either case
pub either : {A : Type 0} {None_is None_then : Type 0} {Is Then : A → Type 0} (o : Option A) → (None_is → None_then) → ((x : A) → Is x → Then x) → MatchOption o None_is Is → MatchOption o None_then Then
either None none some is = none is
either (Some x) none some is = some x is

-- a block of a slab is available
abbrev pub Available : SlabSet → ℕ → ℕ → Type 0
Available set start number = is_available set start number ≡ true

-- the blocks that were taken so far: whatever lowest ones follow them, all of them are the lowest
pub record AreTakenSoFar (old : SlabSet) (start most : ℕ) (numbers : List ℕ) (now : SlabSet) : Type 0 where
  pub low : ℕ
  pub more : (rest : List ℕ) → AreLowest (Available old start) low (most - length numbers) rest → AreLowest (Available old start) 0 most (numbers ++ rest)
  pub before : (number : ℕ) → number < low → is_available now start number ≡ false
  pub behind : (number : ℕ) → low ≤ number → is_available now start number ≡ is_available old start number
  pub taken : AreTaken old start numbers now

-- none so far
pub none_so_far : (old : SlabSet) (start most : ℕ) → AreTakenSoFar old start most [] old
none_so_far old start most = record {
  low = 0;
  more = λ rest lowest. let all : most - 0 ≡ most = omega arith in subst (λ (n : ℕ). AreLowest (Available old start) 0 n rest) all lowest;
  before = λ number less. absurd (omega arith);
  behind = λ number past. refl;
  taken = record {
    granules = refl;
    classes = λ s. refl;
    taken = λ number has. absurd has;
    rest = λ number out. refl;
    others = λ s number apart. refl;
  };
}

-- the block that was taken, and another one
took_here : {old new : SlabSet} {start number : ℕ} → TookFirst old start number new → is_available new start number ≡ false
took_here {old} {new} {start} {number} took =
    took.blocks start number
    ∙ cond-true (eqb start start && eqb number number) false (is_available old start number) (and_from (eqb start start) (eqb number number) (eq-eqb start start refl) (eq-eqb number number refl))

took_beside : {old new : SlabSet} {start number : ℕ} → TookFirst old start number new → (i : ℕ) → i ≢ number → is_available new start i ≡ is_available old start i
took_beside {old} {new} {start} {number} took i apart =
    took.blocks start i ∙ cond-false (eqb start start && eqb i number) false (is_available old start i) (and_right (eqb start start) (eqb i number) (ne_eqb i number apart))

took_elsewhere : {old new : SlabSet} {start number : ℕ} → TookFirst old start number new → (s i : ℕ) → s ≢ start → is_available new s i ≡ is_available old s i
took_elsewhere {old} {new} {start} {number} took s i apart =
    took.blocks s i ∙ cond-false (eqb s start && eqb i number) false (is_available old s i) (and_left (eqb s start) (eqb i number) (ne_eqb s start apart))

-- what stands in a list with one more at its end
Has-joined : (xs : List ℕ) (last at : ℕ) → Has (xs ++ last ∷ []) at → Has xs at ⊎ (at ≡ last)
Has-joined [] last at has = ⊎_elim (λ is. inr is) (λ behind. absurd behind) has
Has-joined (x ∷ xs) last at has =
    ⊎_elim (λ is. inl (inl is)) (λ behind. ⊎_elim (λ (one : Has xs at). inl (inr one)) (λ (is : at ≡ last). inr is) (Has-joined xs last at behind)) has

Has-before : (xs : List ℕ) (last at : ℕ) → Has xs at → Has (xs ++ last ∷ []) at
Has-before [] last at has = absurd has
Has-before (x ∷ xs) last at has = ⊎_elim (λ is. inl is) (λ behind. inr (Has-before xs last at behind)) has

Has-last : (xs : List ℕ) (last : ℕ) → Has (xs ++ last ∷ []) last
Has-last [] last = inl refl
Has-last (x ∷ xs) last = inr (Has-last xs last)

-- one more
pub one_more : {old now next : SlabSet} {start most number : ℕ} {numbers : List ℕ} → AreTakenSoFar old start most numbers now → length numbers < most → TookFirst now start number next →
    AreTakenSoFar old start most (numbers ++ number ∷ []) next
one_more {old} {now} {next} {start} {most} {number} {numbers} so_far room took =
    let low = so_far.low in
    let from : low ≤ number = ⊎_elim
    (λ (less : number < low). absurd (both_ways (is_available now start number) (so_far.before number less) took.first.available))
    (λ (past : low ≤ number). past)
    (cases_lt number low) in
    let next_one : IsNext (Available old start) low number = record {
      from = from;
      passes = sym (so_far.behind number from) ∙ took.first.available;
      first = λ lower past less passes. both_ways (is_available now start lower) (took.first.first lower less) (so_far.behind lower past ∙ passes);
    } in
    record {
      low = number + 1;
      more = λ rest lowest.
          let left : most - length (numbers ++ number ∷ []) ≡ most - length numbers - 1 = omega (arith, length-append numbers (number ∷ [])) in
          subst (λ (xs : List ℕ). AreLowest (Available old start) 0 most xs) (sym (append_assoc numbers (number ∷ []) rest))
          (so_far.more (number ∷ rest) (omega arith, next_one, subst (λ (n : ℕ). AreLowest (Available old start) (number + 1) n rest) left lowest));
      before = λ i less. ⊎_elim
          (λ (same : i ≡ number). ap (is_available next start) same ∙ took_here took)
          (λ (apart : i ≢ number). took_beside took i apart ∙ took.first.first i (omega arith))
          (cases_eq i number);
      behind = λ i past. took_beside took i (λ e. absurd (omega (arith, e))) ∙ so_far.behind i (omega arith);
      taken = record {
        granules = took.granules ∙ so_far.taken.granules;
        classes = λ s. took.classes s ∙ so_far.taken.classes s;
        taken = λ i has. ⊎_elim
            (λ (same : i ≡ number). ap (is_available next start) same ∙ took_here took)
            (λ (apart : i ≢ number). took_beside took i apart ∙ ⊎_elim
            (λ (one : Has numbers i). so_far.taken.taken i one)
            (λ (same : i ≡ number). absurd (apart same))
            (Has-joined numbers number i has))
            (cases_eq i number);
        rest = λ i out.
            took_beside took i (λ e. out (subst (λ (n : ℕ). Has (numbers ++ number ∷ []) n) (sym e) (Has-last numbers number)))
            ∙ so_far.taken.rest i (λ has. out (Has-before numbers number i has));
        others = λ s i apart. took_elsewhere took s i apart ∙ so_far.taken.others s i apart;
      };
    }

-- no block is left
pub all_of_slab : {old now : SlabSet} {start most : ℕ} {numbers : List ℕ} → AreTakenSoFar old start most numbers now → IsUsedUp now start → TookSome old start most numbers now
all_of_slab {old} {now} {start} {most} {numbers} so_far used_up = record {
  lowest = subst (λ (xs : List ℕ). AreLowest (Available old start) 0 most xs) (append-nil numbers)
      (so_far.more [] (inr (λ number past passes. both_ways (is_available now start number) (used_up.none number) (so_far.behind number past ∙ passes))));
  taken = so_far.taken;
}

-- they are so many
pub as_many : {old now : SlabSet} {start most : ℕ} {numbers : List ℕ} → AreTakenSoFar old start most numbers now → most ≤ length numbers → TookSome old start most numbers now
as_many {old} {now} {start} {most} {numbers} so_far full = record {
  lowest = subst (λ (xs : List ℕ). AreLowest (Available old start) 0 most xs) (append-nil numbers) (so_far.more [] (inl (omega arith)));
  taken = so_far.taken;
}

-- where some number passes, there is a lowest one
pub record HasFirst (Passes : ℕ → Type 0) (low most : ℕ) (numbers : List ℕ) : Type 0 where
  pub first : ℕ
  pub rest : List ℕ
  pub are : numbers ≡ first ∷ rest
  pub lowest : AreLowest Passes low most (first ∷ rest)

pub has_first : (Passes : ℕ → Type 0) (low most number : ℕ) (numbers : List ℕ) → 0 < most → low ≤ number → Passes number → AreLowest Passes low most numbers → HasFirst Passes low most numbers
has_first Passes low most number [] some from passes lowest = ⊎_elim (λ (zero : most ≡ 0). absurd (omega arith)) (λ none. absurd (none number from passes)) lowest
has_first Passes low most number (first ∷ rest) some from passes lowest = record { first = first; rest = rest; are = refl; lowest = lowest }

-- a block of a slab of a class is below its capacity
pub below_class : {set : SlabSet} {s class i : ℕ} → class_in set s ≡ Some class → IsBlock set s i → i < class_capacity class
below_class slab block = omega (arith, block.below, ap capacity_or_none (sym block.slab ∙ slab))
