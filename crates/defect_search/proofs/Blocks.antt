-- The blocks of the roots, by address.
use Rattle.std.proofs.Common.{◌≡◌, ◌≢◌, ◌⊎◌, ℕ, zero, suc, ◌<◌, ◌≤◌, List, length, sym, ap, subst, ◌∙◌, arith, inl, inr, ⊎_elim}
use Rattle.defect_search.proofs.Common.{cases_eq, Contains, get_or_default, Contains-permutation, IsPermutation-sym, Tables, Range, IsClaim, IsRooted}
use Rattle.defect_search.specs.declared.claim.Claim.{Claim}
use Rattle.defect_search.specs.Claims.{no_claim, claim_in, range_of, AreClaims, IsByAddress, HasBlock, AreBlocks}
use Rattle.defect_search.proofs.Pairs.{at_address}

pub AreBlocks-sorted : (t : Tables) (claims sorted : List Claim) → IsByAddress claims sorted → AreClaims t claims → AreBlocks t sorted
AreBlocks-sorted t claims sorted by are = record {
  rising = by.rising;
  each = λ range has.
      let x : Claim = claim_in sorted has.place in
      let within : Contains sorted x = (has.place, has.below, get_or_default sorted has.place x no_claim has.below) in
      let found = Contains-permutation sorted claims x (IsPermutation-sym claims sorted by.same) within in
      let is : claim_in claims found.0 ≡ x = get_or_default claims found.0 no_claim x found.1 ∙ found.2 in
      record { root = (claim_in claims found.0).root; claim = subst (IsClaim t (claim_in claims found.0).root) (ap range_of is ∙ has.here) (are.each found.0 found.1) };
  all = λ range rooted.
      let found = are.all rooted.root range rooted.claim in
      let there = at_address claims sorted by found.0 found.1 in
      record { place = there.0; below = there.1; here = ap range_of there.2 ∙ found.3 };
}

module _ (t : Tables) (sorted : List Claim) (are : AreBlocks t sorted) (at size : ℕ) where
  pub rooted_at : (place : ℕ) → place < length sorted → (claim_in sorted place).at ≡ at → (claim_in sorted place).size ≡ size → IsRooted t (record { at = at; size = size })
  rooted_at place below same_at same_size = are.each (record { at = at; size = size }) (record {
    place = place;
    below = below;
    here = ap (λ a. record { at = a; size = (claim_in sorted place).size }) same_at ∙ ap (λ n. record { at = at; size = n }) same_size;
  })

  pub unrooted : ((k : ℕ) → k < length sorted → (claim_in sorted k).at ≡ at → (claim_in sorted k).size ≢ size) → ¬ (IsRooted t (record { at = at; size = size }))
  unrooted none rooted =
      let has = are.all (record { at = at; size = size }) rooted in
      none has.place has.below (ap (λ (r : Range). r.at) has.here) (ap (λ (r : Range). r.size) has.here)

-- a block is one of a list, or none of the first n
has_or : (sorted : List Claim) (range : Range) (n : ℕ) → n ≤ length sorted → HasBlock sorted range ⊎ ((k : ℕ) → k < n → range_of (claim_in sorted k) ≢ range)
has_or sorted range zero below = inr (λ k less. absurd (omega arith))
has_or sorted range (suc n) below = ⊎_elim
    (λ has. inl has)
    (λ (none : (k : ℕ) → k < n → range_of (claim_in sorted k) ≢ range).
    let here = claim_in sorted n in
    let more : range_of here ≢ range → HasBlock sorted range ⊎ ((k : ℕ) → k < suc n → range_of (claim_in sorted k) ≢ range) =
    λ differ. inr (λ k less. ⊎_elim (λ (same : k ≡ n). subst (λ m. range_of (claim_in sorted m) ≢ range) (sym same) differ) (λ (other : k ≢ n). none k (omega arith)) (cases_eq k n)) in
    ⊎_elim
    (λ (at : here.at ≡ range.at). ⊎_elim
    (λ (size : here.size ≡ range.size). inl (record { place = n; below = omega arith; here = ap (λ a. record { at = a; size = here.size }) at ∙ ap (λ m. record { at = range.at; size = m }) size }))
    (λ (size : here.size ≢ range.size). more (λ same. size (ap (λ (r : Range). r.size) same)))
    (cases_eq here.size range.size))
    (λ (at : here.at ≢ range.at). more (λ same. at (ap (λ (r : Range). r.at) same)))
    (cases_eq here.at range.at))
    (has_or sorted range n (omega arith))

-- a block is that of a root, or of none
pub rooted_or : (t : Tables) (sorted : List Claim) → AreBlocks t sorted → (range : Range) → IsRooted t range ⊎ ¬ (IsRooted t range)
rooted_or t sorted are range = ⊎_elim
    (λ has. inl (are.each range has))
    (λ none. inr (λ rooted. let has = are.all range rooted in none has.place has.below has.here))
    (has_or sorted range (length sorted) (omega arith))
