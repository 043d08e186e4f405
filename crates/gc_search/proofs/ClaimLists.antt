-- Lists of the blocks of roots, root by root, and sorted.
use Rattle.std.proofs.Common.{◌≡◌, ◌≢◌, ◌⊎◌, ℕ, ◌+◌, ◌<◌, ◌≤◌, List, [], ◌∷◌, ◌++◌, length, Some, refl, sym, ap, subst, ◌∙◌, arith, inl, inr, ⊎_elim}
use Rattle.std.proofs.lemmas.Bool.{cases_eq, cases_lt}
use Rattle.std.proofs.Math.ListN.{length-append}
use Rattle.std.proofs.Math.Seq.{get_or-append_seam}
use Rattle.std.proofs.lemmas.List.{get_or_default, get_or_append_left}
use Rattle.std.proofs.lemmas.List.Edits.{swapped_from_swap, length-swap}
use Rattle.std.proofs.lemmas.List.Sorted.{Contains-permutation, IsPermutation-sym, IsPermutation-keeps}
use Rattle.std.specs.List.{Contains, swap}
use Rattle.std.specs.List.Sorted.{IsPermutation}
use Rattle.image_tables.specs.Tables.{Tables}
use Rattle.heap_model.specs.Machine.{Range}
use Rattle.defect_search.specs.declared.claim.Claim.{Claim}
use Rattle.defect_search.specs.Claims.{no_claim, claim_in, range_of}
use Rattle.gc_check.specs.Heap.{gc_heap}
use Rattle.gc_check.proofs.Heaps.{IsNamed-heap}
use Rattle.gc_search.specs.Claims.{HasNoBlock, IsBlockOf, AreGcClaims}

-- the list has the blocks of the roots below one, by rising root
pub record AreClaimsBelow (t : Tables) (n : ℕ) (claims : List Claim) : Type 0 where
  pub each : (i : ℕ) → i < length claims → gc_heap t (claim_in claims i).root ≡ Some (range_of (claim_in claims i))
  pub before : (i : ℕ) → i < length claims → (claim_in claims i).root < n
  pub all : (root : ℕ) (range : Range) → root < n → gc_heap t root ≡ Some range → (i : ℕ) × (i < length claims) × ((claim_in claims i).root ≡ root)
  pub rising : (i j : ℕ) → i < j → j < length claims → (claim_in claims i).root < (claim_in claims j).root
  pub few : length claims ≤ n

pub no_claims : (t : Tables) → AreClaimsBelow t 0 []
no_claims t = record {
  each = λ i below. absurd (omega arith);
  before = λ i below. absurd (omega arith);
  all = λ root range below block. absurd (omega arith);
  rising = λ i j less below. absurd (omega arith);
  few = omega arith;
}

pub claims_skip : (t : Tables) (n : ℕ) (claims : List Claim) → HasNoBlock t n → AreClaimsBelow t n claims → AreClaimsBelow t (n + 1) claims
claims_skip t n claims none are = record {
  each = are.each;
  before = λ i below. omega (arith, are.before i below);
  all = λ root range below block. ⊎_elim
      (λ (same : root ≡ n). absurd (let nothing = ap (gc_heap t) same ∙ none.none in cc))
      (λ (other : root ≢ n). are.all root range (omega arith) block)
      (cases_eq root n);
  rising = are.rising;
  few = omega (arith, are.few);
}

pub claims_push : (t : Tables) (n : ℕ) (claims : List Claim) (claim : Claim) → IsBlockOf t n claim → AreClaimsBelow t n claims → AreClaimsBelow t (n + 1) (claims ++ claim ∷ [])
claims_push t n claims claim is are = record {
  each = λ i below. ⊎_elim
      (λ (same : i ≡ length claims). subst Good (sym (ap (claim_in new) same ∙ get_or-append_seam claims claim [] no_claim)) (ap (gc_heap t) is.root_is ∙ is.block))
      (λ (other : i ≢ length claims). let front : i < length claims = omega (arith, size, below, other) in subst Good (sym (get_or_append_left claims (claim ∷ []) no_claim i front)) (are.each i front))
      (cases_eq i (length claims));
  before = λ i below. ⊎_elim
      (λ (same : i ≡ length claims). omega (arith, last i same, is.root_is))
      (λ (other : i ≢ length claims). let low : i < length claims = omega (arith, size, below, other) in omega (arith, front_root i low, are.before i low))
      (cases_eq i (length claims));
  all = λ root range below block. ⊎_elim
      (λ (same : root ≡ n). (length claims, omega (arith, size), last (length claims) refl ∙ is.root_is ∙ sym same))
      (λ (other : root ≢ n). let found = are.all root range (omega arith) block in (found.0, omega (arith, size, found.1), front_root found.0 found.1 ∙ found.2))
      (cases_eq root n);
  rising = λ i j less below. ⊎_elim
      (λ (same : j ≡ length claims). let low : i < length claims = omega (arith, less, same) in omega (arith, front_root i low, are.before i low, last j same, is.root_is))
      (λ (other : j ≢ length claims).
      let back : j < length claims = omega (arith, size, below, other) in
      let low : i < length claims = omega (arith, less, back) in
      omega (arith, front_root i low, front_root j back, are.rising i j less back))
      (cases_eq j (length claims));
  few = omega (arith, size, are.few);
}
  where
    new : List Claim
    new = claims ++ claim ∷ []

    Good : Claim → Type 0
    Good c = gc_heap t c.root ≡ Some (range_of c)

    size : length new ≡ length claims + 1
    size = length-append claims (claim ∷ [])

    front_root : (i : ℕ) → i < length claims → (claim_in new i).root ≡ (claim_in claims i).root
    front_root i low = ap (λ (c : Claim). c.root) (get_or_append_left claims (claim ∷ []) no_claim i low)

    last : (i : ℕ) → i ≡ length claims → (claim_in new i).root ≡ claim.root
    last i same = ap (λ (c : Claim). c.root) (ap (claim_in new) same ∙ get_or-append_seam claims claim [] no_claim)

-- a root has one block
one_block : (t : Tables) (root : ℕ) (a b : Range) → gc_heap t root ≡ Some a → gc_heap t root ≡ Some b → a ≡ b
one_block t root a b p q = cc

rising_once : (claims : List Claim) → ((i j : ℕ) → i < j → j < length claims → (claim_in claims i).root < (claim_in claims j).root) → (i j : ℕ) → i < length claims → j < length claims → (claim_in claims i).root ≡ (claim_in claims j).root → i ≡ j
rising_once claims rising i j below also same = ⊎_elim
    (λ (less : i < j). absurd (omega (arith, rising i j less also, same)))
    (λ (most : j ≤ i). ⊎_elim (λ (equal : i ≡ j). equal) (λ (more : i ≢ j). absurd (omega (arith, rising j i (omega arith) below, same))) (cases_eq i j))
    (cases_lt i j)

pub claims_all : (t : Tables) (roots n : ℕ) (claims : List Claim) → ((root : ℕ) → t.word root ≢ 0 → root < roots) → roots ≤ n → AreClaimsBelow t n claims → AreGcClaims t claims
claims_all t roots n claims below all are = record {
  each = are.each;
  all = λ root range block.
      let found = are.all root range (omega (arith, below root (IsNamed-heap t root range block).some)) block in
      let here = ap (gc_heap t) (sym found.2) ∙ are.each found.0 found.1 in
      (found.0, found.1, found.2, one_block t root (range_of (claim_in claims found.0)) range here block);
  once = rising_once claims are.rising;
}

-- sorted

-- a claim of a list is in its permutation
moved : (claims sorted : List Claim) → IsPermutation claims sorted → (i : ℕ) → i < length claims → (p : ℕ) × (p < length sorted) × (claim_in sorted p ≡ claim_in claims i)
moved claims sorted same i below =
    let x : Claim = claim_in claims i in
    let has : Contains claims x = (i, below, get_or_default claims i x no_claim below) in
    let found = Contains-permutation claims sorted x same has in
    (found.0, found.1, get_or_default sorted found.0 no_claim x found.1 ∙ found.2)

-- no root has two claims
abbrev IsOnce : List Claim → Type 0
IsOnce claims = (i j : ℕ) → i < length claims → j < length claims → (claim_in claims i).root ≡ (claim_in claims j).root → i ≡ j

-- where the claim at an index was before two changed places
was_at : (f g : ℕ → Claim) (a b k : ℕ) → (g a ≡ f b) → (g b ≡ f a) → ((m : ℕ) → m ≢ a → m ≢ b → g m ≡ f m) → (o : ℕ) × (g k ≡ f o) × (((k ≡ a) × (o ≡ b)) ⊎ (((k ≡ b) × (o ≡ a)) ⊎ ((k ≢ a) × (k ≢ b) × (o ≡ k))))
was_at f g a b k one two rest = ⊎_elim
    (λ (first : k ≡ a). (b, ap g first ∙ one, inl (first, refl)))
    (λ (no_first : k ≢ a). ⊎_elim
    (λ (second : k ≡ b). (a, ap g second ∙ two, inr (inl (second, refl))))
    (λ (no_second : k ≢ b). (k, rest k no_first no_second, inr (inr (no_first, no_second, refl))))
    (cases_eq k b))
    (cases_eq k a)

swap_once : (l : List Claim) (a b : ℕ) → a < length l → b < length l → IsOnce l → IsOnce (swap l a b)
swap_once l a b in_a in_b once i j below also same =
    let swapped = swapped_from_swap l (swap l a b) a b no_claim in_a in_b refl in
    let p = was_at (claim_in l) (claim_in (swap l a b)) a b i swapped.0 swapped.1 swapped.2 in
    let q = was_at (claim_in l) (claim_in (swap l a b)) a b j swapped.0 swapped.1 swapped.2 in
    let size = length-swap l a b in
    let low : p.0 < length l = ⊎_elim (λ x. omega (arith, x.1, in_b)) (λ y. ⊎_elim (λ x. omega (arith, x.1, in_a)) (λ x. omega (arith, x.2, below, size)) y) p.2 in
    let high : q.0 < length l = ⊎_elim (λ x. omega (arith, x.1, in_b)) (λ y. ⊎_elim (λ x. omega (arith, x.1, in_a)) (λ x. omega (arith, x.2, also, size)) y) q.2 in
    let origin : p.0 ≡ q.0 = once p.0 q.0 low high (ap (λ (c : Claim). c.root) (sym p.1) ∙ same ∙ ap (λ (c : Claim). c.root) q.1) in
    ⊎_elim
    (λ x. ⊎_elim (λ y. x.0 ∙ sym y.0) (λ rest. ⊎_elim (λ y. omega (arith, x.0, x.1, y.0, y.1, origin)) (λ y. absurd (y.1 (sym y.2 ∙ sym origin ∙ x.1))) rest) q.2)
    (λ first. ⊎_elim
    (λ x. ⊎_elim (λ y. omega (arith, x.0, x.1, y.0, y.1, origin)) (λ rest. ⊎_elim (λ y. x.0 ∙ sym y.0) (λ y. absurd (y.0 (sym y.2 ∙ sym origin ∙ x.1))) rest) q.2)
    (λ x. ⊎_elim (λ y. absurd (x.1 (sym x.2 ∙ origin ∙ y.1))) (λ rest. ⊎_elim (λ y. absurd (x.0 (sym x.2 ∙ origin ∙ y.1))) (λ y. sym x.2 ∙ origin ∙ y.2) rest) q.2)
    first)
    p.2

pub AreGcClaims-sorted : (t : Tables) (claims sorted : List Claim) → IsPermutation claims sorted → AreGcClaims t claims → AreGcClaims t sorted
AreGcClaims-sorted t claims sorted same are = record {
  each = λ i below.
      let found = moved sorted claims (IsPermutation-sym claims sorted same) i below in
      subst (λ (c : Claim). gc_heap t c.root ≡ Some (range_of c)) found.2 (are.each found.0 found.1);
  all = λ root range block.
      let found = are.all root range block in
      let there = moved claims sorted same found.0 found.1 in
      (there.0, there.1, ap (λ (c : Claim). c.root) there.2 ∙ found.2, ap range_of there.2 ∙ found.3);
  once = IsPermutation-keeps claims IsOnce are.once (λ l a b in_a in_b once. swap_once l a b in_a in_b once) sorted same;
}
