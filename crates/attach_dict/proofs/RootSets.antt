-- Sets of roots as bits: one without roots, a root that comes and one that goes, and the lowest.
use Rattle.std.proofs.Common.{◌≡◌, ◌≢◌, ℕ, ◌+◌, ◌*◌, ◌/◌, ◌^◌, ◌<◌, ◌≤◌, Bool, true, false, true≢false, eqb, List, length, replicate, Option, Some, None, MatchOption, refl, sym, ◌∙◌, subst, arith, inl, inr, ⊎_elim}
use Rattle.attach_dict.proofs.Common.{cases_eq, cases_lt, cond-true, cond-false, eq-eqb, ne_eqb, length-replicate, has, IsPut, HasNoneIn, IsLeastIn, IsCount, IsLeastOf}
use Rattle.bit_words.proofs.Bits.{has-zeros}
use Rattle.attach_dict.specs.Roots.{Roots, IsIn, AreRoots, AreNoRoots, IsOut, HasMoreRoots, HasFewerRoots}
use Rattle.attach_dict.proofs.Counts.{count_none, count_more, count_less}

-- a set by its parts
abbrev pub set_of : ℕ → List ℕ → ℕ → Roots
set_of below bits count = record { below = below; bits = bits; count = count }

-- no bit is set
module _ (below : ℕ) where
  abbrev blank : Roots
  blank = set_of below (replicate (below / 64 + 1) 0) 0

  none_in : (root : ℕ) → ¬ (IsIn blank root)
  unfolding IsIn
  none_in root is = true≢false (sym is ∙ has-zeros (below / 64 + 1) root)

  pub blank_set : below ≤ 2 ^ 16 → AreRoots blank
  blank_set few = record {
    few = few;
    wide = omega (arith, length-replicate {A = ℕ} (below / 64 + 1) 0);
    short = omega (arith, few, length-replicate {A = ℕ} (below / 64 + 1) 0);
    inside = λ root is. absurd (none_in root is);
    count_is = count_none (IsIn blank) below (λ k low. none_in k);
  }

  pub blank_none : AreNoRoots blank below
  blank_none = record { below_is = refl; none = none_in; count_is = refl }

-- a bit that was put
module _ (below count after root : ℕ) (bits new : List ℕ) (on : Bool) (was : AreRoots (set_of below bits count)) (put : IsPut bits root on new) where
  abbrev before : Roots
  before = set_of below bits count

  abbrev behind : Roots
  behind = set_of below new after

  here : IsIn behind root → on ≡ true
  unfolding IsIn
  here is = sym (cond-true (eqb root root) on (has bits root) (eq-eqb root root refl)) ∙ (sym (put.each root) ∙ is)

  here_on : on ≡ true → IsIn behind root
  unfolding IsIn
  here_on is = put.each root ∙ (cond-true (eqb root root) on (has bits root) (eq-eqb root root refl) ∙ is)

  kept : (other : ℕ) → other ≢ root → IsIn before other → IsIn behind other
  unfolding IsIn
  kept other apart is = put.each other ∙ (cond-false (eqb other root) on (has bits other) (ne_eqb other root apart) ∙ is)

  from : (other : ℕ) → other ≢ root → IsIn behind other → IsIn before other
  unfolding IsIn
  from other apart is = sym (cond-false (eqb other root) on (has bits other) (ne_eqb other root apart)) ∙ (sym (put.each other) ∙ is)

  -- a root came
  module _ (low : root < below) (out : IsOut before root) (set : on ≡ true) (more : after ≡ count + 1) where
    pub more_set : AreRoots behind
    more_set = record {
      few = was.few;
      wide = omega (arith, was.wide, put.size);
      short = omega (arith, was.short, put.size);
      inside = λ other is. ⊎_elim (λ (same : other ≡ root). omega (arith, same, low)) (λ (apart : other ≢ root). was.inside other (from other apart is)) (cases_eq other root);
      count_is = subst (λ (n : ℕ). IsCount (IsIn behind) below n) (sym more) (count_more (IsIn before) (IsIn behind) below count root low out.none (here_on set) kept from was.count_is);
    }

    pub has_more : HasMoreRoots before root behind
    has_more = record {
      below = refl;
      here = here_on set;
      kept = λ other is. ⊎_elim (λ (same : other ≡ root). subst (λ (r : ℕ). IsIn behind r) (sym same) (here_on set)) (λ (apart : other ≢ root). kept other apart is) (cases_eq other root);
      each = λ other is. ⊎_elim (λ (same : other ≡ root). inr same) (λ (apart : other ≢ root). inl (from other apart is)) (cases_eq other root);
      count = more;
    }

  -- a root went
  module _ (held : IsIn before root) (clear : on ≡ false) where
    not_here : ¬ (IsIn behind root)
    not_here is = true≢false (sym (here is) ∙ clear)

    less : (d : ℕ) × (count ≡ d + 1) × IsCount (IsIn behind) below d
    less = count_less (IsIn before) (IsIn behind) below count root (was.inside root held) held not_here kept from was.count_is

    pub some_count : 1 ≤ count
    some_count = omega (arith, less.1)

    module _ (fewer : after + 1 ≡ count) where
      pub fewer_set : AreRoots behind
      fewer_set =
          let same : less.0 ≡ after = omega (arith, less.1, fewer) in
          record {
            few = was.few;
            wide = omega (arith, was.wide, put.size);
            short = omega (arith, was.short, put.size);
            inside = λ other is. was.inside other (⊎_elim (λ (here_is : other ≡ root). absurd (not_here (subst (λ (r : ℕ). IsIn behind r) here_is is))) (λ (apart : other ≢ root). from other apart is) (cases_eq other root));
            count_is = subst (λ (n : ℕ). IsCount (IsIn behind) below n) same less.2;
          }

      pub has_fewer : HasFewerRoots before root behind
      has_fewer = record {
        below = refl;
        out = record { none = not_here };
        kept = λ other is apart. kept other apart is;
        each = λ other is. ⊎_elim (λ (here_is : other ≡ root). absurd (not_here (subst (λ (r : ℕ). IsIn behind r) here_is is))) (λ (apart : other ≢ root). from other apart is) (cases_eq other root);
        count = fewer;
      }

-- the lowest bit is the lowest root
pub lowest_in : (set : Roots) (found : Option ℕ) → AreRoots set → MatchOption found (HasNoneIn set.bits (64 * 0) (64 * length set.bits)) (IsLeastIn set.bits (64 * 0) (64 * length set.bits)) → IsLeastOf (IsIn set) found
unfolding IsIn
lowest_in set None are none = record { none = λ root is. true≢false (sym is ∙ none.none root (omega arith) (omega (arith, are.inside root is, are.wide))) }
lowest_in set (Some k) are least = record {
  here = least.is;
  least = λ other is. ⊎_elim (λ (below : other < k). absurd (true≢false (sym is ∙ least.least other (omega arith) below))) (λ (from : k ≤ other). from) (cases_lt other k);
}
