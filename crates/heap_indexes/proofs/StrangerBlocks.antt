-- Counts of strangers: what becomes of them as blocks come and go, and which slabs are in transition.
use Rattle.std.proofs.Common.{◌≡◌, ◌≢◌, ◌==◌, not, ℕ, zero, suc, ◌+◌, ◌*◌, ◌<◌, ◌≤◌, true, false, true≢false, Option, Some, None, refl, sym, ap, ◌∙◌, subst, arith, ⊎_elim}
use Rattle.heap_indexes.proofs.Common.{cases_eq, cases_Bool, ne_eqb, eq-eqb, and_from, and_parts, false_from_ne_true, class_size, Bounds, Machine, Range, LiesIn, IsOverlapFree, is_within, begins_in, live_below, IsInTransition, one_if, begins_in-here, begins_at, begins_in-true, is_stranger, strangers_below}
use Rattle.heap_indexes.proofs.Machines.{IsOneMore, lies_in, origin, still}

-- what the test says

pub stranger_from : (s class : ℕ) (range : Range) → 16384 * s ≤ range.at → range.at < 16384 * s + 65536 → range.size ≢ class_size class → is_stranger s class (Some range) ≡ true
stranger_from s class range low high differ = and_from (is_within s range.at) (not (range.size == class_size class)) (begins_in-here s range low high) (ap not (ne_eqb range.size (class_size class) differ))

pub record IsStrangerAt (s class : ℕ) (block : Option Range) : Type 0 where
  pub range : Range
  pub named : block ≡ Some range
  pub low : 16384 * s ≤ range.at
  pub high : range.at < 16384 * s + 65536
  pub differs : range.size ≢ class_size class

pub stranger_parts : (s class : ℕ) (block : Option Range) → is_stranger s class block ≡ true → IsStrangerAt s class block
stranger_parts s class None is = absurd (true≢false (sym is))
stranger_parts s class (Some range) is =
    let parts = and_parts (is_within s range.at) (not (range.size == class_size class)) is in
    let within = begins_at s range (begins_in-true s (Some range) parts.0) in
    record {
      range = range;
      named = refl;
      low = within.0;
      high = within.1;
      differs = λ same. true≢false (sym parts.1 ∙ ap not (eq-eqb range.size (class_size class) same));
    }

pub stranger_size : (s class : ℕ) (range : Range) → range.size ≡ class_size class → is_stranger s class (Some range) ≡ false
stranger_size s class range same = false_from_ne_true (is_stranger s class (Some range)) (λ is. let parts = stranger_parts s class (Some range) is in parts.differs (let named = parts.named in let one : range ≡ parts.range = cc in ap (λ (r : Range). r.size) (sym one) ∙ same))

pub stranger_away : (s class : ℕ) (range : Range) → (16384 * s ≤ range.at → range.at < 16384 * s + 65536 → ⊥) → is_stranger s class (Some range) ≡ false
stranger_away s class range away = false_from_ne_true (is_stranger s class (Some range)) (λ is.
    let parts = stranger_parts s class (Some range) is in
    let named = parts.named in
    let one : range ≡ parts.range = cc in
    away (subst (λ (r : Range). 16384 * s ≤ r.at) (sym one) parts.low) (subst (λ (r : Range). r.at < 16384 * s + 65536) (sym one) parts.high))

-- counts

-- roots from n on are not counted
strangers_same : (old new : ℕ → Option Range) (s c n : ℕ) → ((r : ℕ) → r < n → new r ≡ old r) → strangers_below new s c n ≡ strangers_below old s c n
strangers_same old new s c zero same = refl
strangers_same old new s c (suc n) same =
    let rest = strangers_same old new s c n (λ r below. same r (omega (arith, below))) in
    let last : one_if (is_stranger s c (new n)) ≡ one_if (is_stranger s c (old n)) = ap (λ x. one_if (is_stranger s c x)) (same n (omega arith)) in
    omega (arith, rest, last)

-- a root that names nothing is given a block
pub strangers_given : (old new : ℕ → Option Range) (s c n root : ℕ) (range : Range) → root < n → old root ≡ None → new root ≡ Some range → ((r : ℕ) → r ≢ root → new r ≡ old r) →
    strangers_below new s c n ≡ one_if (is_stranger s c (Some range)) + strangers_below old s c n
strangers_given old new s c zero root range below none some others = absurd (omega (arith, below))
strangers_given old new s c (suc n) root range below none some others = ⊎_elim
    (λ (here : root ≡ n).
    let rest = strangers_same old new s c n (λ r less. others r (λ same. omega (arith, same, here, less))) in
    let last : one_if (is_stranger s c (new n)) ≡ one_if (is_stranger s c (Some range)) = ap (λ x. one_if (is_stranger s c x)) (ap new (sym here) ∙ some) in
    let was : one_if (is_stranger s c (old n)) ≡ 0 = ap (λ x. one_if (is_stranger s c x)) (ap old (sym here) ∙ none) in
    omega (arith, rest, last, was))
    (λ (there : root ≢ n).
    let rest = strangers_given old new s c n root range (omega (arith, there, below)) none some others in
    let last : one_if (is_stranger s c (new n)) ≡ one_if (is_stranger s c (old n)) = ap (λ x. one_if (is_stranger s c x)) (others n (λ same. there (sym same))) in
    omega (arith, rest, last))
    (cases_eq root n)

-- there are none where no block is one
pub strangers_none : (block : ℕ → Option Range) (s c n : ℕ) → ((r : ℕ) → r < n → is_stranger s c (block r) ≡ false) → strangers_below block s c n ≡ 0
strangers_none block s c zero none = refl
strangers_none block s c (suc n) none =
    let rest = strangers_none block s c n (λ r below. none r (omega (arith, below))) in
    let last : one_if (is_stranger s c (block n)) ≡ 0 = ap one_if (none n (omega arith)) in
    omega (arith, rest, last)

-- and some where one is
pub strangers_some : (block : ℕ → Option Range) (s c n root : ℕ) → root < n → is_stranger s c (block root) ≡ true → 0 < strangers_below block s c n
strangers_some block s c zero root below is = absurd (omega (arith, below))
strangers_some block s c (suc n) root below is = ⊎_elim
    (λ (here : root ≡ n).
    let last : one_if (is_stranger s c (block n)) ≡ 1 = ap (λ k. one_if (is_stranger s c (block k))) (sym here) ∙ ap one_if is in
    omega (arith, last))
    (λ (there : root ≢ n). let rest = strangers_some block s c n root (omega (arith, there, below)) is in omega (arith, rest))
    (cases_eq root n)

-- where there are some, one is
pub strangers_one : (block : ℕ → Option Range) (s c n : ℕ) → 0 < strangers_below block s c n → (r : ℕ) × (r < n) × (is_stranger s c (block r) ≡ true)
strangers_one block s c zero some = absurd (omega (arith, some))
strangers_one block s c (suc n) some = ⊎_elim
    (λ (here : is_stranger s c (block n) ≡ true). (n, omega arith, here))
    (λ (not_here : is_stranger s c (block n) ≡ false).
    let last : one_if (is_stranger s c (block n)) ≡ 0 = ap one_if not_here in
    let found = strangers_one block s c n (omega (arith, some, last)) in
    (found.0, omega (arith, found.1), found.2))
    (cases_Bool (is_stranger s c (block n)))

-- there are as many as live blocks where each of these is one
pub strangers_all : (block : ℕ → Option Range) (s c n : ℕ) → ((r : ℕ) → r < n → is_stranger s c (block r) ≡ begins_in s (block r)) → strangers_below block s c n ≡ live_below block s n
strangers_all block s c zero all = refl
strangers_all block s c (suc n) all =
    let rest = strangers_all block s c n (λ r below. all r (omega (arith, below))) in
    let last : one_if (is_stranger s c (block n)) ≡ one_if (begins_in s (block n)) = ap one_if (all n (omega arith)) in
    omega (arith, rest, last)

-- there are no more than live blocks
pub strangers_most : (block : ℕ → Option Range) (s c n : ℕ) → strangers_below block s c n ≤ live_below block s n
strangers_most block s c zero = omega arith
strangers_most block s c (suc n) =
    let rest = strangers_most block s c n in
    ⊎_elim
    (λ (is : is_stranger s c (block n) ≡ true).
    let parts = stranger_parts s c (block n) is in
    let one : one_if (is_stranger s c (block n)) ≡ 1 = ap one_if is in
    let live : one_if (begins_in s (block n)) ≡ 1 = ap (λ x. one_if (begins_in s x)) parts.named ∙ ap one_if (begins_in-here s parts.range parts.low parts.high) in
    omega (arith, rest, one, live))
    (λ (none : is_stranger s c (block n) ≡ false). let zero_is : one_if (is_stranger s c (block n)) ≡ 0 = ap one_if none in omega (arith, rest, zero_is))
    (cases_Bool (is_stranger s c (block n)))

-- slabs in transition

module _ {b : Bounds} {m : Machine} (apart : IsOverlapFree b m) (s class : ℕ) (slab : m.slab s ≡ Some class) where
  -- a slab with a stranger is
  pub moving_some : 0 < strangers_below m.block s class b.roots → IsInTransition m s
  moving_some some =
      let found = strangers_one m.block s class b.roots some in
      let parts = stranger_parts s class (m.block found.0) found.2 in
      record { class = class; slab = slab; root = found.0; range = parts.range; named = parts.named; lies = lies_in apart found.0 s class parts.range parts.named slab parts.low parts.high; other = parts.differs }

  -- one without is not
  pub moving_none : strangers_below m.block s class b.roots ≡ 0 → ¬ (IsInTransition m s)
  moving_none none moving =
      let same : moving.class ≡ class = (let one = sym moving.slab ∙ slab in cc) in
      let is : is_stranger s class (m.block moving.root) ≡ true = ap (is_stranger s class) moving.named ∙ stranger_from s class moving.range moving.lies.low (omega (arith, moving.lies.high, apart.sized moving.root moving.range moving.named)) (λ size. moving.other (size ∙ ap class_size (sym same))) in
      omega (arith, none, strangers_some m.block s class b.roots moving.root (apart.rooted moving.root moving.range moving.named) is)

-- by a block that came or went
module _ {b : Bounds} {less more : Machine} {root : ℕ} {range : Range} (one : IsOneMore b less more root range) (s : ℕ) where
  pub moving_more : IsInTransition less s → IsInTransition more s
  moving_more moving = record { class = moving.class; slab = one.slab s ∙ moving.slab; root = moving.root; range = moving.range; named = (still one moving.root moving.range moving.named).1; lies = moving.lies; other = moving.other }

  -- one that is no stranger makes no difference
  pub moving_less : ((class : ℕ) → less.slab s ≡ Some class → LiesIn s range → range.size ≡ class_size class) → IsInTransition more s → IsInTransition less s
  moving_less own moving =
      let slab = sym (one.slab s) ∙ moving.slab in
      ⊎_elim
      (λ here. absurd (moving.other (subst (λ (x : Range). LiesIn s x → x.size ≡ class_size moving.class) here.1 (own moving.class slab) moving.lies)))
      (λ there. record { class = moving.class; slab = slab; root = moving.root; range = moving.range; named = there.1; lies = moving.lies; other = moving.other })
      (origin one moving.root moving.range moving.named)
