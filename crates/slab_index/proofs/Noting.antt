-- The search for a slab that takes a class comes to an end: where the first candidate is noted as unfit, the next one is nearer to
-- the last place that one may have.
use Rattle.std.proofs.Common.{◌≡◌, ◌≢◌, ◌==◌, ◌&&◌, if◌then◌else◌, ℕ, ◌+◌, ◌-◌, ◌*◌, ◌<◌, ◌≤◌, Bool, true, false, refl, ap, slice_index, slice_index_or, List, length, Option, Some, None, MatchOption, IfSome, sym, ◌∙◌, arith, inl, inr, ⊎_elim}
use Rattle.slab_index.proofs.Common.{cases_lt, cases_eq, cond-true, false_from_ne_true, false≢true, and_from, eq-eqb}
use Rattle.slab_index.specs.declared.candidates.Candidate.{Candidate}
use Rattle.slab_index.specs.Lives.{Lives, normal_at, IsSparse, HasNoSparse, IsFirstSparse}
use Rattle.slab_index.specs.Unfit.{is_unfit}

-- how far a candidate is from the last place that one may have
abbrev pub left_behind : Option Candidate → ℕ
left_behind None = 0
left_behind (Some found) = 300000 - (4096 * found.live + found.start)

-- the same row has the same slabs
pub same_normal : (lives next : Lives) → next.normal ≡ lives.normal → (s : ℕ) → normal_at lives s ≡ normal_at next s
unfolding normal_at
same_normal lives next normal s = ap (λ (row : List (Option ℕ)). slice_index_or row s None) (sym normal)

-- either way
always : (b : Bool) → (if b then true else true) ≡ true
always true = refl
always false = refl

-- a candidate that comes once one was noted is nearer
pub nearer : (lives next : Lives) (class : ℕ) (found : Candidate) (later : Option Candidate) → IsFirstSparse lives class found → length lives.counts ≤ 4096 → found.start < length lives.counts → next.counts ≡ lives.counts → next.normal ≡ lives.normal →
    ((c s : ℕ) → is_unfit next.unfit c s ≡ (if s == found.start && c == class then true else is_unfit lives.unfit c s)) → MatchOption later (HasNoSparse next class) (IsFirstSparse next class) → IfSome later (λ more. more.start < length next.counts) → left_behind later < left_behind (Some found)
nearer lives next class found None first size inside counts normal noted none within = omega (arith, first.is.few, inside, size)
nearer lives next class found (Some later) first size inside counts normal noted second within =
    let is = second.is in
    let known : (s : ℕ) → is_unfit lives.unfit class s ≡ true → is_unfit next.unfit class s ≡ true = λ s was. noted class s ∙ ap (λ b. if s == found.start && class == class then true else b) was ∙ always (s == found.start && class == class) in
    let before : IsSparse lives class later.start later.live = record {
      own = is.own;
      slab = same_normal lives next normal later.start ∙ is.slab;
      count = is.count ∙ ap (λ (n : List ℕ). slice_index n later.start) counts;
      differs = is.differs;
      few = is.few;
      sparse = is.sparse;
      sought = false_from_ne_true (is_unfit lives.unfit class later.start) (λ was. false≢true (sym is.sought ∙ known later.start was));
    } in
    let differ : later.start ≢ found.start = λ same. false≢true (sym is.sought ∙ noted class later.start ∙ cond-true (later.start == found.start && class == class) true (is_unfit lives.unfit class later.start) (and_from (later.start == found.start) (class == class) (eq-eqb later.start found.start same) (eq-eqb class class refl))) in
    let behind = first.first later.start later.live before in
    let few = first.is.few in
    let low : later.start < 4096 = omega (arith, within, size, ap (λ (n : List ℕ). length n) counts) in
    ⊎_elim
    (λ (less : later.live < found.live). absurd (behind (inl less)))
    (λ (most : found.live ≤ later.live). ⊎_elim
    (λ (same : later.live ≡ found.live). ⊎_elim
    (λ (lower : later.start < found.start). absurd (behind (inr (same, lower))))
    (λ (upper : found.start ≤ later.start). omega (arith, same, upper, differ, low, few, is.few))
    (cases_lt later.start found.start))
    (λ (more : later.live ≢ found.live). omega (arith, more, most, low, few, is.few, inside, size))
    (cases_eq later.live found.live))
    (cases_lt later.live found.live)
