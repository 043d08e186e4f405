-- Claims by rising address, gone through once: which of them overlap others, and the one of these with the lowest root.
use Rattle.std.specs.Option.{MatchOption}
use Rattle.std.proofs.Common.{◌≡◌, ◌≢◌, ℕ, ◌+◌, ◌-◌, ◌<◌, ◌≤◌, List, length, Option, Some, None, refl, sym, ap, subst, ◌∙◌, arith, inl, inr, ⊎_elim}
use Rattle.std.proofs.lemmas.Bool.{cases_eq, cases_lt}
use Rattle.image_defects.specs.Least.{HasNone, IsLeast, IsLeastOf, lesser}
use Rattle.defect_search.proofs.LeastOf.{least_either}
use Rattle.defect_search.specs.declared.claim.Claim.{Claim}
use Rattle.defect_search.specs.Claims.{claim_in}
use Rattle.defect_search.specs.Pairs.{DoClash}
use Rattle.gc_search.specs.Pairs.{end_in, AreInOrder, IsReach, IsClashing, HasNoClashing, IsFirstClashing, IsPartner}

-- two that overlap

apart_of : (claims : List Claim) (i j : ℕ) → DoClash claims i j → i ≢ j
apart_of claims i j clash same = clash.differ (ap (λ k. (claim_in claims k).root) same)

module _ (claims : List Claim) (order : AreInOrder claims) where
  clash_by : (i j : ℕ) → i < length claims → j < length claims → i ≢ j → (claim_in claims j).at < end_in claims i → (claim_in claims i).at < end_in claims j → DoClash claims i j
  clash_by i j first second differ begins ends = record { first = first; second = second; differ = λ same. differ (order.once i j first second same); overlap = record { begins = begins; ends = ends } }

  pub clash_earlier : (i reach : ℕ) → i < length claims → IsReach claims i reach → (claim_in claims i).at < reach → IsClashing claims i
  clash_earlier i reach below is beyond =
      let met = is.met (omega (arith, beyond)) in
      let rises = order.rising.each met.0 i (omega (arith, met.1)) below in
      record { other = met.0; clash = clash_by i met.0 below (omega (arith, met.1, below)) (λ same. omega (arith, met.1, same)) (omega (arith, rises, order.some i below)) (omega (arith, beyond, met.2)) }

  pub clash_next : (i : ℕ) → i + 1 < length claims → (claim_in claims (i + 1)).at - (claim_in claims i).at < (claim_in claims i).size → IsClashing claims i
  clash_next i below near =
      let rises = order.rising.each i (i + 1) (omega arith) below in
      record { other = i + 1; clash = clash_by i (i + 1) (omega (arith, below)) below (λ same. omega (arith, same)) (omega (arith, rises, near)) (omega (arith, rises, order.some (i + 1) below)) }

  -- a later one that overlaps begins behind the next
  next_near : (i j : ℕ) → DoClash claims i j → i < j → (i + 1 < length claims) × ((claim_in claims (i + 1)).at < end_in claims i)
  next_near i j clash less = (omega (arith, less, clash.second), omega (arith, order.rising.each (i + 1) j (omega (arith, less)) clash.second, clash.overlap.begins))

  no_clash : (i reach : ℕ) → IsReach claims i reach → reach ≤ (claim_in claims i).at → (i + 1 < length claims → end_in claims i ≤ (claim_in claims (i + 1)).at) → ¬ (IsClashing claims i)
  no_clash i reach is within next clashing =
      let j = clashing.other in
      let clash : DoClash claims i j = clashing.clash in
      ⊎_elim
      (λ (before : j < i). omega (arith, is.most j before, within, clash.overlap.ends))
      (λ (behind : i ≤ j).
      let near = next_near i j clash (omega (arith, behind, apart_of claims i j clash)) in
      omega (arith, next near.0, near.1))
      (cases_lt j i)

  pub no_clash-last : (i reach : ℕ) → IsReach claims i reach → reach ≤ (claim_in claims i).at → length claims ≤ i + 1 → ¬ (IsClashing claims i)
  no_clash-last i reach is within last = no_clash i reach is within (λ more. omega (arith, more, last))

  pub no_clash-next : (i reach : ℕ) → IsReach claims i reach → reach ≤ (claim_in claims i).at → i + 1 < length claims → (claim_in claims i).size ≤ (claim_in claims (i + 1)).at - (claim_in claims i).at → ¬ (IsClashing claims i)
  no_clash-next i reach is within more far = no_clash i reach is within (λ _. omega (arith, far, order.rising.each i (i + 1) (omega arith) more, order.some i (omega (arith, more))))

-- how far the first reach

pub reach_none : (claims : List Claim) → IsReach claims 0 0
reach_none claims = record { most = λ j below. absurd (omega arith); met = λ some. absurd (omega arith) }

pub reach_farther : (claims : List Claim) (i reach : ℕ) → IsReach claims i reach → reach < end_in claims i → IsReach claims (i + 1) (end_in claims i)
reach_farther claims i reach is beyond = record {
  most = λ j below. ⊎_elim (λ (same : j ≡ i). omega (arith, ap (end_in claims) same)) (λ (other : j ≢ i). omega (arith, is.most j (omega arith), beyond)) (cases_eq j i);
  met = λ some. (i, omega arith, refl);
}

pub reach_same : (claims : List Claim) (i reach : ℕ) → IsReach claims i reach → end_in claims i ≤ reach → IsReach claims (i + 1) reach
reach_same claims i reach is within = record {
  most = λ j below. ⊎_elim (λ (same : j ≡ i). omega (arith, ap (end_in claims) same, within)) (λ (other : j ≢ i). is.most j (omega arith)) (cases_eq j i);
  met = λ some. let met = is.met some in (met.0, omega (arith, met.1), met.2);
}

-- the one with the lowest root

pub none_clashing : (claims : List Claim) → HasNoClashing claims 0
none_clashing claims = record { none = λ k below. absurd (omega arith) }

pub first_here : (claims : List Claim) (i : ℕ) → IsClashing claims i → HasNoClashing claims i → IsFirstClashing claims (i + 1) i
first_here claims i here before = record {
  below = omega arith;
  here = here;
  least = λ k below clashing. ⊎_elim (λ (same : k ≡ i). omega (arith, ap (λ n. (claim_in claims n).root) same)) (λ (other : k ≢ i). absurd (before.none k (omega arith) clashing)) (cases_eq k i);
}

pub first_lower : (claims : List Claim) (i first : ℕ) → IsClashing claims i → IsFirstClashing claims i first → (claim_in claims i).root < (claim_in claims first).root → IsFirstClashing claims (i + 1) i
first_lower claims i first here is lower = record {
  below = omega arith;
  here = here;
  least = λ k below clashing. ⊎_elim (λ (same : k ≡ i). omega (arith, ap (λ n. (claim_in claims n).root) same)) (λ (other : k ≢ i). omega (arith, is.least k (omega arith) clashing, lower)) (cases_eq k i);
}

pub first_stays : (claims : List Claim) (i first : ℕ) → IsFirstClashing claims i first → (claim_in claims first).root ≤ (claim_in claims i).root → IsFirstClashing claims (i + 1) first
first_stays claims i first is most = record {
  below = omega (arith, is.below);
  here = is.here;
  least = λ k below clashing. ⊎_elim (λ (same : k ≡ i). omega (arith, ap (λ n. (claim_in claims n).root) same, most)) (λ (other : k ≢ i). is.least k (omega arith) clashing) (cases_eq k i);
}

pub found_passed : (claims : List Claim) (i : ℕ) (found : Option ℕ) → ¬ (IsClashing claims i) → MatchOption found (HasNoClashing claims i) (IsFirstClashing claims i) → MatchOption found (HasNoClashing claims (i + 1)) (IsFirstClashing claims (i + 1))
found_passed claims i None none before = record { none = λ k below clashing. ⊎_elim (λ (same : k ≡ i). none (subst (IsClashing claims) same clashing)) (λ (other : k ≢ i). before.none k (omega arith) clashing) (cases_eq k i) }
found_passed claims i (Some first) none is = record {
  below = omega (arith, is.below);
  here = is.here;
  least = λ k below clashing. ⊎_elim (λ (same : k ≡ i). absurd (none (subst (IsClashing claims) same clashing))) (λ (other : k ≢ i). is.least k (omega arith) clashing) (cases_eq k i);
}

-- roots whose blocks overlap that of a claim

-- the block of the root of one of the first n claims overlaps that of a claim
pub record IsPartnerBelow (claims : List Claim) (i n root : ℕ) : Type 0 where
  pub j : ℕ
  pub below : j < n
  pub clash : DoClash claims i j
  pub is : (claim_in claims j).root ≡ root

pub partner_none : (claims : List Claim) (i : ℕ) → IsLeastOf (IsPartnerBelow claims i 0) None
partner_none claims i = record { none = λ root p. omega (arith, p.below) }

pub partner_more : (claims : List Claim) (i n new : ℕ) (found : Option ℕ) → DoClash claims i n → Some new ≡ lesser found (Some (claim_in claims n).root) → IsLeastOf (IsPartnerBelow claims i n) found → IsLeastOf (IsPartnerBelow claims i (n + 1)) (Some new)
partner_more claims i n new found clash is least =
    let own = (claim_in claims n).root in
    least_either (IsPartnerBelow claims i n) (λ root. root ≡ own) (IsPartnerBelow claims i (n + 1)) found (Some own)
    (λ root p. record { j = p.j; below = omega (arith, p.below); clash = p.clash; is = p.is })
    (λ root same. record { j = n; below = omega arith; clash = clash; is = sym same })
    (λ root p. ⊎_elim
    (λ (same : p.j ≡ n). inr (sym p.is ∙ ap (λ k. (claim_in claims k).root) same))
    (λ (other : p.j ≢ n). inl (record { j = p.j; below = omega (arith, p.below, other); clash = p.clash; is = p.is }))
    (cases_eq p.j n))
    least
    (record { here = refl; least = λ other same. omega (arith, same) })
    is

pub partner_passed : (claims : List Claim) (i n : ℕ) (found : Option ℕ) → ¬ (DoClash claims i n) → IsLeastOf (IsPartnerBelow claims i n) found → IsLeastOf (IsPartnerBelow claims i (n + 1)) found
partner_passed claims i n None none least = record { none = λ root p. ⊎_elim (λ (same : p.j ≡ n). none (subst (DoClash claims i) same p.clash)) (λ (other : p.j ≢ n). least.none root (record { j = p.j; below = omega (arith, p.below, other); clash = p.clash; is = p.is })) (cases_eq p.j n) }
partner_passed claims i n (Some found) none least = record {
  here = let p = least.here in record { j = p.j; below = omega (arith, p.below); clash = p.clash; is = p.is };
  least = λ root p. ⊎_elim (λ (same : p.j ≡ n). absurd (none (subst (DoClash claims i) same p.clash))) (λ (other : p.j ≢ n). least.least root (record { j = p.j; below = omega (arith, p.below, other); clash = p.clash; is = p.is })) (cases_eq p.j n);
}

pub partner_all : (claims : List Claim) (i n : ℕ) (found : Option ℕ) → length claims ≤ n → IsLeastOf (IsPartnerBelow claims i n) found → MatchOption found (HasNone (IsPartner claims i)) (IsLeast (IsPartner claims i))
partner_all claims i n None all least = record { none = λ root p. least.none root (record { j = p.j; below = omega (arith, p.clash.second, all); clash = p.clash; is = p.is }) }
partner_all claims i n (Some found) all least = record {
  here = let p = least.here in record { j = p.j; clash = p.clash; is = p.is };
  least = λ root p. least.least root (record { j = p.j; below = omega (arith, p.clash.second, all); clash = p.clash; is = p.is });
}
