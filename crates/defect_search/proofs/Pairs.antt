-- Claims by rising address of which each ends before the next begins do not overlap; the first two that overlap in a
-- list are those of the image.
use Rattle.std.proofs.Common.{◌≡◌, ◌≢◌, ℕ, zero, suc, ◌+◌, ◌<◌, ◌≤◌, List, length, Option, Some, None, MatchOption, sym, ap, subst, ◌∙◌, arith, add-one, ⊎_elim}
use Rattle.defect_search.proofs.Common.{Contains, cases_eq, cases_lt, get_or_default, Contains-permutation, Tables, HasNone, DoOverlap, HasShared, IsSharing, IsFirstShared}
use Rattle.defect_search.specs.declared.claim.Claim.{Claim}
use Rattle.image_defects.specs.declared.found.Pair.{Pair}
use Rattle.defect_search.specs.Claims.{no_claim, claim_in, range_of, AreClaims, IsByAddress}
use Rattle.defect_search.specs.Pairs.{DoClash, AreSpread, AreAllApart, IsFirstPair}

-- where each ends before the next begins, each ends before all later ones
pub spread_far : (claims : List Claim) → AreSpread claims → (i j : ℕ) → i < j → j < length claims → (claim_in claims i).at + (claim_in claims i).size ≤ (claim_in claims j).at
spread_far claims spread i zero low high = absurd (omega arith)
spread_far claims spread i (suc j) low high =
    let next : (claim_in claims j).at + (claim_in claims j).size ≤ (claim_in claims (suc j)).at =
    subst (λ k. (claim_in claims j).at + (claim_in claims j).size ≤ (claim_in claims k).at) (add-one j) (spread.each j (omega arith)) in
    ⊎_elim
    (λ (same : i ≡ j). subst (λ k. (claim_in claims k).at + (claim_in claims k).size ≤ (claim_in claims (suc j)).at) (sym same) next)
    (λ (other : i ≢ j). omega (arith, spread_far claims spread i j (omega arith) (omega arith), next))
    (cases_eq i j)

-- a claim of a list is in its permutation
pub at_address : (claims sorted : List Claim) → IsByAddress claims sorted → (i : ℕ) → i < length claims → (p : ℕ) × (p < length sorted) × (claim_in sorted p ≡ claim_in claims i)
at_address claims sorted by i below =
    let x : Claim = claim_in claims i in
    let has : Contains claims x = (i, below, get_or_default claims i x no_claim below) in
    let found = Contains-permutation claims sorted x by.same has in
    (found.0, found.1, get_or_default sorted found.0 no_claim x found.1 ∙ found.2)

pub apart_from_spread : (claims sorted : List Claim) → IsByAddress claims sorted → AreSpread sorted → AreAllApart claims
apart_from_spread claims sorted by spread = record {
  none = λ i j clash.
      let one = at_address claims sorted by i clash.first in
      let other = at_address claims sorted by j clash.second in
      let overlap : DoOverlap (range_of (claim_in sorted one.0)) (range_of (claim_in sorted other.0)) =
      subst (λ c. DoOverlap (range_of c) (range_of (claim_in sorted other.0))) (sym one.2) (subst (λ c. DoOverlap (range_of (claim_in claims i)) (range_of c)) (sym other.2) clash.overlap) in
      ⊎_elim
      (λ (same : one.0 ≡ other.0). clash.differ (ap (λ c. c.root) (sym one.2 ∙ ap (claim_in sorted) same ∙ other.2)))
      (λ (differ : one.0 ≢ other.0). ⊎_elim
      (λ (before : one.0 < other.0). omega (arith, overlap.begins, spread_far sorted spread one.0 other.0 before other.1))
      (λ (after : other.0 ≤ one.0). omega (arith, overlap.ends, spread_far sorted spread other.0 one.0 (omega arith) one.1))
      (cases_lt one.0 other.0))
      (cases_eq one.0 other.0);
}

module _ (t : Tables) (claims : List Claim) (are : AreClaims t claims) where
  -- two roots whose blocks overlap are two claims of the list that do
  pub clash_of : (root other : ℕ) → HasShared t root other → (i : ℕ) × (j : ℕ) × DoClash claims i j × ((claim_in claims i).root ≡ root) × ((claim_in claims j).root ≡ other)
  clash_of root other shared =
      let one = are.all root shared.range shared.claim in
      let two = are.all other shared.another shared.second in (
        one.0,
        two.0,
        record {
          first = one.1;
          second = two.1;
          differ = λ same. shared.differ (sym one.2 ∙ same ∙ two.2);
          overlap = subst (λ r. DoOverlap r (range_of (claim_in claims two.0))) (sym one.3) (subst (λ r. DoOverlap shared.range r) (sym two.3) shared.overlap);
        },
        one.2,
        two.2,
      )

  -- and back
  pub shared_of : (i j : ℕ) → DoClash claims i j → HasShared t (claim_in claims i).root (claim_in claims j).root
  shared_of i j clash = record {
    differ = clash.differ;
    range = range_of (claim_in claims i);
    another = range_of (claim_in claims j);
    claim = are.each i clash.first;
    second = are.each j clash.second;
    overlap = clash.overlap;
  }

  pub no_sharing : AreAllApart claims → HasNone (IsSharing t)
  no_sharing apart = record {
    none = λ root sharing.
        let found = clash_of root sharing.other sharing.shared in
        apart.none found.0 found.1 found.2;
  }

  pub first_shared : (pair : Pair) → IsFirstPair claims pair → IsFirstShared t pair
  first_shared pair is =
      let clash : DoClash claims is.i is.j = is.clash.second.here in
      let shared : HasShared t pair.first pair.second = subst (λ r. HasShared t r pair.second) (sym is.first) (subst (λ r. HasShared t (claim_in claims is.i).root r) (sym is.second) (shared_of is.i is.j clash)) in
      record {
        first = record {
          here = record { other = pair.second; shared = shared };
          least = λ other sharing.
              let found = clash_of other sharing.other sharing.shared in
              ⊎_elim
              (λ (before : found.0 < is.i). absurd ((is.clash.first found.0 before).none found.1 found.2))
              (λ (after : is.i ≤ found.0). ⊎_elim
              (λ (same : is.i ≡ found.0). omega (arith, is.first, ap (λ k. (claim_in claims k).root) same, found.3))
              (λ (later : is.i ≢ found.0). omega (arith, is.first, are.rising is.i found.0 (omega arith) found.2.first, found.3))
              (cases_eq is.i found.0))
              (cases_lt found.0 is.i);
        };
        second = record {
          here = shared;
          least = λ other another.
              let found = clash_of pair.first other another in
              let root : (claim_in claims found.0).root ≡ (claim_in claims is.i).root = found.3 ∙ is.first in
              let same : found.0 ≡ is.i = ⊎_elim
              (λ (before : found.0 < is.i). absurd (omega (arith, root, are.rising found.0 is.i before clash.first)))
              (λ (after : is.i ≤ found.0). ⊎_elim
              (λ (same : is.i ≡ found.0). sym same)
              (λ (later : is.i ≢ found.0). absurd (omega (arith, root, are.rising is.i found.0 (omega arith) found.2.first)))
              (cases_eq is.i found.0))
              (cases_lt found.0 is.i) in
              let least : is.j ≤ found.1 = is.clash.second.least found.1 (subst (λ k. DoClash claims k found.1) same found.2) in
              ⊎_elim
              (λ (here : is.j ≡ found.1). omega (arith, is.second, ap (λ k. (claim_in claims k).root) here, found.4))
              (λ (later : is.j ≢ found.1). omega (arith, is.second, are.rising is.j found.1 (omega arith) found.2.second, found.4))
              (cases_eq is.j found.1);
        };
      }

  pub first_or_none : (found : Option Pair) → MatchOption found (AreAllApart claims) (IsFirstPair claims) → MatchOption found (HasNone (IsSharing t)) (IsFirstShared t)
  first_or_none None h = no_sharing h
  first_or_none (Some pair) h = first_shared pair h
