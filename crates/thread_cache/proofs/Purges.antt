-- Stacks that lose the addresses of a slab, one stack after another.
use Rattle.std.proofs.Common.{◌≡◌, ◌≢◌, ℕ, ◌+◌, ◌<◌, ◌≤◌, ⊎_elim, cond, eqb, ltb, not, ◌&&◌, List, [], sym, ap, ◌∙◌, arith}
use Rattle.std.proofs.lemmas.Bool.{cases_lt, cases_eq, lt-ltb, le-ltb, eq-eqb, ne_eqb, cond-true, cond-false, and_from, and_left, and_right}
use Rattle.std.specs.List.{filter}
use Rattle.heap_model.specs.Placement.{Stacks, with_stack, without_slab}
use Rattle.heap_model.specs.Slabs.{is_within}
use Rattle.thread_cache.specs.Stacks.{StackTable, stacks_of}
use Rattle.thread_cache.specs.Kept.{IsPurgedWhere}
use Rattle.heap_model.proofs.Distinct.{IsOther, stack_here, stack_there, here_or_there}
use Rattle.thread_cache.proofs.Tables.{no_class}

-- an empty stack loses nothing
purged_none : (slab : ℕ) (stacks : Stacks) (seat class : ℕ) → stacks seat class ≡ [] → without_slab stacks slab seat class ≡ stacks seat class
purged_none slab stacks seat class none =
    ap (λ (xs : List ℕ). filter (λ at. not (is_within slab at)) xs) none ∙ sym none

-- a stack that stays
with_same : (stacks : Stacks) (seat class : ℕ) (stack : List ℕ) → stack ≡ stacks seat class → with_stack stacks seat class stack ≡ stacks
with_same stacks seat class stack same = λ i other c. each other c i
  where
    each : (other c : ℕ) → with_stack stacks seat class stack other c ≡ stacks other c
    each other c = ⊎_elim
        (λ (here : (other ≡ seat) × (c ≡ class)). stack_here stacks seat class other c stack here.0 here.1 ∙ same ∙ ap (λ s. stacks s class) (sym here.0) ∙ ap (stacks other) (sym here.1))
        (λ (is : IsOther seat class other c). stack_there stacks seat class other c stack is)
        (here_or_there seat class other c)

-- a stack that is empty is as after a purge
pub purged_empty : (slab : ℕ) (stacks : Stacks) (seat class : ℕ) → stacks seat class ≡ [] → stacks ≡ with_stack stacks seat class (without_slab stacks slab seat class)
purged_empty slab stacks seat class none = sym (with_same stacks seat class (without_slab stacks slab seat class) (purged_none slab stacks seat class none))

-- nothing was purged yet
pub purged_start : (slab class : ℕ) (stacks : Stacks) → IsPurgedWhere slab (λ other c. ltb other 0 && eqb c class) stacks stacks
purged_start slab class stacks = record {
  each = λ other c. sym (cond-false (ltb other 0 && eqb c class) (without_slab stacks slab other c) (stacks other c) (and_left (ltb other 0) (eqb c class) (le-ltb other 0 (omega arith))));
}

-- whether a number is below the next of one, where it is not that
below_next : (k n : ℕ) → k ≢ n → ltb k n ≡ ltb k (n + 1)
below_next k n apart = ⊎_elim
    (λ (less : k < n). lt-ltb k n less ∙ sym (lt-ltb k (n + 1) (omega arith)))
    (λ (more : n ≤ k). le-ltb k n more ∙ sym (le-ltb k (n + 1) (omega arith)))
    (cases_lt k n)

module _ {slab : ℕ} {old mid new : Stacks} where
  -- one more stack of a class
  pub purged_seat : (seat class : ℕ) → IsPurgedWhere slab (λ other c. ltb other seat && eqb c class) old mid → new ≡ with_stack mid seat class (without_slab mid slab seat class) →
      IsPurgedWhere slab (λ other c. ltb other (seat + 1) && eqb c class) old new
  purged_seat seat class before is = record {
    each = λ other c. ap (λ (stacks : Stacks). stacks other c) is ∙ ⊎_elim
        (λ (here : (other ≡ seat) × (c ≡ class)).
        let unchanged : mid seat class ≡ old seat class =
        before.each seat class ∙ cond-false (ltb seat seat && eqb class class) (without_slab old slab seat class) (old seat class) (and_left (ltb seat seat) (eqb class class) (le-ltb seat seat (omega arith))) in
        stack_here mid seat class other c (without_slab mid slab seat class) here.0 here.1
        ∙ ap (λ (xs : List ℕ). filter (λ at. not (is_within slab at)) xs) (unchanged ∙ ap (λ s. old s class) (sym here.0) ∙ ap (old other) (sym here.1))
        ∙ sym (cond-true (ltb other (seat + 1) && eqb c class) (without_slab old slab other c) (old other c) (and_from (ltb other (seat + 1)) (eqb c class) (lt-ltb other (seat + 1) (omega (arith, here.0))) (eq-eqb c class here.1))))
        (λ (is_other : IsOther seat class other c).
        stack_there mid seat class other c (without_slab mid slab seat class) is_other
        ∙ before.each other c
        ∙ ap (λ b. cond b (without_slab old slab other c) (old other c)) (same_test other c is_other))
        (here_or_there seat class other c);
  }
    where
      same_test : (other c : ℕ) → IsOther seat class other c → (ltb other seat && eqb c class) ≡ (ltb other (seat + 1) && eqb c class)
      same_test other c is_other = ⊎_elim
          (λ (same : c ≡ class). ap (λ b. b && eqb c class) (below_next other seat (λ e. is_other.apart e same)))
          (λ (apart : c ≢ class). and_right (ltb other seat) (eqb c class) (ne_eqb c class apart) ∙ sym (and_right (ltb other (seat + 1)) (eqb c class) (ne_eqb c class apart)))
          (cases_eq c class)

  -- one more class
  pub purged_class : (class : ℕ) → IsPurgedWhere slab (λ other c. ltb c class) old mid → IsPurgedWhere slab (λ other c. eqb c class) mid new → IsPurgedWhere slab (λ other c. ltb c (class + 1)) old new
  purged_class class before step = record {
    each = λ other c. step.each other c ∙ ⊎_elim
        (λ (here : c ≡ class).
        cond-true (eqb c class) (without_slab mid slab other c) (mid other c) (eq-eqb c class here)
        ∙ ap (λ (xs : List ℕ). filter (λ at. not (is_within slab at)) xs) (before.each other c ∙ cond-false (ltb c class) (without_slab old slab other c) (old other c) (le-ltb c class (omega (arith, here))))
        ∙ sym (cond-true (ltb c (class + 1)) (without_slab old slab other c) (old other c) (lt-ltb c (class + 1) (omega (arith, here)))))
        (λ (there : c ≢ class).
        cond-false (eqb c class) (without_slab mid slab other c) (mid other c) (ne_eqb c class there)
        ∙ before.each other c
        ∙ ap (λ b. cond b (without_slab old slab other c) (old other c)) (below_next c class there))
        (cases_eq c class);
  }

-- all stacks of a class, where those from a seat on are empty
pub purged_seats : {slab : ℕ} (old : Stacks) {new : Stacks} (seat class : ℕ) → ((other : ℕ) → seat ≤ other → old other class ≡ []) → IsPurgedWhere slab (λ other c. ltb other seat && eqb c class) old new → IsPurgedWhere slab (λ other c. eqb c class) old new
purged_seats {slab} old seat class rest before = record {
  each = λ other c. before.each other c ∙ ⊎_elim
      (λ (below : other < seat). ap (λ b. cond (b && eqb c class) (without_slab old slab other c) (old other c)) (lt-ltb other seat below))
      (λ (past : seat ≤ other).
      cond-false (ltb other seat && eqb c class) (without_slab old slab other c) (old other c) (and_left (ltb other seat) (eqb c class) (le-ltb other seat past))
      ∙ ⊎_elim
      (λ (here : c ≡ class). sym (cond-true (eqb c class) (without_slab old slab other c) (old other c) (eq-eqb c class here) ∙ purged_none slab old other c (ap (old other) here ∙ rest other past)))
      (λ (there : c ≢ class). sym (cond-false (eqb c class) (without_slab old slab other c) (old other c) (ne_eqb c class there)))
      (cases_eq c class))
      (cases_lt other seat);
}

-- all classes
pub purged_all : {slab : ℕ} (old : StackTable) {new : Stacks} (class : ℕ) → 36 ≤ class → IsPurgedWhere slab (λ other c. ltb c class) (stacks_of old) new → new ≡ without_slab (stacks_of old) slab
purged_all {slab} old {new} class all before = λ i other c. each other c i
  where
    each : (other c : ℕ) → new other c ≡ without_slab (stacks_of old) slab other c
    each other c = before.each other c ∙ ⊎_elim
        (λ (below : c < class). cond-true (ltb c class) (without_slab (stacks_of old) slab other c) (stacks_of old other c) (lt-ltb c class below))
        (λ (past : class ≤ c).
        cond-false (ltb c class) (without_slab (stacks_of old) slab other c) (stacks_of old other c) (le-ltb c class past)
        ∙ sym (purged_none slab (stacks_of old) other c (no_class old other c (omega arith))))
        (cases_lt c class)

-- before the first class
pub purged_no_class : (slab : ℕ) (stacks : Stacks) → IsPurgedWhere slab (λ other c. ltb c 0) stacks stacks
purged_no_class slab stacks = record {
  each = λ other c. sym (cond-false (ltb c 0) (without_slab stacks slab other c) (stacks other c) (le-ltb c 0 (omega arith)));
}
