-- Lists of claims, root by root.
use Rattle.std.proofs.Common.{Option, None, Some, ◌≡◌, ◌≢◌, ℕ, ◌+◌, ◌<◌, ◌≤◌, eqb, List, [], ◌∷◌, ◌++◌, length, refl, sym, ap, subst, ◌∙◌, arith, ⊎_elim}
use Rattle.defect_search.proofs.Common.{cases_eq, cond-true, cond-false, eq-eqb, ne_eqb, get_or_append_left, length-append, get_or-append_seam, layout_of, version_in, WalEntry, Place, Move, Tables, tables_of, Range, entry_at, claim_at, IsClaim, IsGoodWal}
use Rattle.defect_search.specs.declared.claim.Claim.{Claim}
use Rattle.defect_search.specs.Claims.{no_claim, claim_in, range_of, AreClaims}
use Rattle.defect_search.specs.Claimed.{HasNoClaim, IsClaimOf}
use Rattle.defect_search.proofs.Marks.{root_below}

-- the list has the claims of the roots below one, by rising root
pub record AreClaimsBelow (t : Tables) (n : ℕ) (claims : List Claim) : Type 0 where
  pub each : (i : ℕ) → i < length claims → IsClaim t (claim_in claims i).root (range_of (claim_in claims i))
  pub before : (i : ℕ) → i < length claims → (claim_in claims i).root < n
  pub all : (root : ℕ) → root < n → claim_at t root ≢ 0 → (i : ℕ) × (i < length claims) × ((claim_in claims i).root ≡ root)
  pub rising : (i j : ℕ) → i < j → j < length claims → (claim_in claims i).root < (claim_in claims j).root

pub no_claims : (t : Tables) → AreClaimsBelow t 0 []
no_claims t = record {
  each = λ i below. absurd (omega arith);
  before = λ i below. absurd (omega arith);
  all = λ root below some. absurd (omega arith);
  rising = λ i j less below. absurd (omega arith);
}

pub claims_skip : (t : Tables) (n : ℕ) (claims : List Claim) → HasNoClaim t n → AreClaimsBelow t n claims → AreClaimsBelow t (n + 1) claims
claims_skip t n claims none are = record {
  each = are.each;
  before = λ i below. omega (arith, are.before i below);
  all = λ root below some. ⊎_elim (λ (same : root ≡ n). absurd (some (ap (claim_at t) same ∙ none.none))) (λ (other : root ≢ n). are.all root (omega arith) some) (cases_eq root n);
  rising = are.rising;
}

root_of : Claim → ℕ
root_of claim = claim.root

pub claims_push : (t : Tables) (n : ℕ) (claims : List Claim) (claim : Claim) → IsClaimOf t n claim → AreClaimsBelow t n claims → AreClaimsBelow t (n + 1) (claims ++ claim ∷ [])
claims_push t n claims claim is are = record {
  each = λ i below. ⊎_elim
      (λ (same : i ≡ length claims). subst Good (sym (ap (claim_in new) same ∙ get_or-append_seam claims claim [] no_claim)) (subst (λ r. IsClaim t r (range_of claim)) (sym is.root_is) is.claim_is))
      (λ (other : i ≢ length claims). let front : i < length claims = omega (arith, length-append claims (claim ∷ [])) in subst Good (sym (get_or_append_left claims (claim ∷ []) no_claim i front)) (are.each i front))
      (cases_eq i (length claims));
  before = λ i below. ⊎_elim
      (λ (same : i ≡ length claims). omega (arith, last i same, is.root_is))
      (λ (other : i ≢ length claims). let low : i < length claims = omega (arith, length-append claims (claim ∷ [])) in omega (arith, front i low, are.before i low))
      (cases_eq i (length claims));
  all = λ root below some. ⊎_elim
      (λ (same : root ≡ n). (length claims, omega (arith, length-append claims (claim ∷ [])), last (length claims) refl ∙ is.root_is ∙ sym same))
      (λ (other : root ≢ n). let found = are.all root (omega arith) some in (found.0, omega (arith, length-append claims (claim ∷ []), found.1), front found.0 found.1 ∙ found.2))
      (cases_eq root n);
  rising = λ i j less below. ⊎_elim
      (λ (same : j ≡ length claims). let low : i < length claims = omega (arith, less) in omega (arith, front i low, are.before i low, last j same, is.root_is))
      (λ (other : j ≢ length claims).
      let back : j < length claims = omega (arith, length-append claims (claim ∷ [])) in
      let low : i < length claims = omega (arith, less) in
      omega (arith, front i low, front j back, are.rising i j less back))
      (cases_eq j (length claims));
}
  where
    new : List Claim
    new = claims ++ claim ∷ []

    Good : Claim → Type 0
    Good c = IsClaim t c.root (range_of c)

    front : (i : ℕ) → i < length claims → (claim_in new i).root ≡ (claim_in claims i).root
    front i low = ap (λ (c : Claim). c.root) (get_or_append_left claims (claim ∷ []) no_claim i low)

    last : (i : ℕ) → i ≡ length claims → (claim_in new i).root ≡ claim.root
    last i same = ap (λ (c : Claim). c.root) (ap (claim_in new) same ∙ get_or-append_seam claims claim [] no_claim)

-- a claim of a root has one block

same_range : (a b : Range) → a.at ≡ b.at → a.size ≡ b.size → a ≡ b
same_range a b at size = ap (λ n. let r : Range = record { at = n; size = a.size } in r) at ∙ ap (λ n. let r : Range = record { at = b.at; size = n } in r) size

pub claim_once : (t : Tables) (root : ℕ) (a b : Range) → IsClaim t root a → IsClaim t root b → a ≡ b
claim_once t root a b p q = same_range a b (sym p.place ∙ q.place) (sym p.wide ∙ q.wide)

-- a root that has a block is one of the arena's

named_below : (words : List ℕ) (root : ℕ) (e : Option WalEntry) → IsGoodWal words → (tables_of words).open_entry ≡ e → entry_at e root ≢ 0 → root < (layout_of (version_in words)).roots
named_below words root None good is some = absurd (some refl)
named_below words root (Some (Move from to)) good is some = absurd (some refl)
named_below words root (Some (Place named at old place)) good is some = ⊎_elim
    (λ (same : root ≡ named). let may = good.may (Place named at old place) is in omega (arith, same, may.entry.rooted))
    (λ (other : root ≢ named). absurd (some (cond-false (eqb root named) at 0 (ne_eqb root named other))))
    (cases_eq root named)

pub claim_below : (words : List ℕ) (root : ℕ) → IsGoodWal words → claim_at (tables_of words) root ≢ 0 → root < (layout_of (version_in words)).roots
claim_below words root good some =
    let t = tables_of words in
    ⊎_elim
    (λ (none : t.root root ≡ 0). named_below words root t.open_entry good refl (λ zero. some (cond-true (eqb (t.root root) 0) (entry_at t.open_entry root) (t.root root) (eq-eqb (t.root root) 0 none) ∙ zero)))
    (λ (held : t.root root ≢ 0). root_below words root held)
    (cases_eq (t.root root) 0)

pub claims_all : (words : List ℕ) (n : ℕ) (claims : List Claim) → IsGoodWal words → (layout_of (version_in words)).roots ≤ n → AreClaimsBelow (tables_of words) n claims → AreClaims (tables_of words) claims
claims_all words n claims good all are =
    let t = tables_of words in
    record {
      each = are.each;
      all = λ root range claim.
          let some : claim_at t root ≢ 0 = λ zero. claim.some (sym claim.place ∙ zero) in
          let found = are.all root (omega (arith, claim_below words root good some)) some in
          let here : IsClaim t root (range_of (claim_in claims found.0)) = subst (λ r. IsClaim t r (range_of (claim_in claims found.0))) found.2 (are.each found.0 found.1) in
          (found.0, found.1, found.2, claim_once t root (range_of (claim_in claims found.0)) range here claim);
      rising = are.rising;
    }
