-- Stacks of which no address stands in two places, after a step.
use Rattle.std.proofs.Common.{◌≡◌, ◌≢◌, ℕ, ◌<◌, ◌≤◌, ◌⊎◌, ⊎_elim, inl, inr, Bool, eqb, ◌&&◌, List, ◌∷◌, length, refl, sym, ap, ◌∙◌, subst, arith}
use Rattle.std.proofs.lemmas.Bool.{cases_eq, eq-eqb, ne_eqb, cond-true, cond-false, and_from, and_left, and_right}
use Rattle.std.specs.List.{filter}
use Rattle.heap_model.specs.Placement.{Stacks, no_stacks, keeping, with_stack, Has, HasTop, IsInNoStack, AllDiffer, AreDistinct, AreRising, AreLoose}
use Rattle.heap_model.proofs.AddressLists.{Has-filter, AllDiffer-filter, AllDiffer-rising, length-filter}

-- the stack of another seat or class
pub record IsOther (seat class other c : ℕ) : Type 0 where
  pub apart : (other ≡ seat) → (c ≡ class) → ⊥

-- where one stack is another, the others are as they were
pub stack_here : (stacks : Stacks) (seat class other c : ℕ) (stack : List ℕ) → other ≡ seat → c ≡ class → with_stack stacks seat class stack other c ≡ stack
stack_here stacks seat class other c stack same_seat same_class =
    cond-true (eqb other seat && eqb c class) stack (stacks other c) (and_from (eqb other seat) (eqb c class) (eq-eqb other seat same_seat) (eq-eqb c class same_class))

pub stack_there : (stacks : Stacks) (seat class other c : ℕ) (stack : List ℕ) → IsOther seat class other c → with_stack stacks seat class stack other c ≡ stacks other c
stack_there stacks seat class other c stack is =
    cond-false (eqb other seat && eqb c class) stack (stacks other c)
    (⊎_elim
    (λ (same : other ≡ seat). and_right (eqb other seat) (eqb c class) (ne_eqb c class (is.apart same)))
    (λ (apart : other ≢ seat). and_left (eqb other seat) (eqb c class) (ne_eqb other seat apart))
    (cases_eq other seat))

-- a stack is the one of a seat and class, or another
pub here_or_there : (seat class other c : ℕ) → ((other ≡ seat) × (c ≡ class)) ⊎ IsOther seat class other c
here_or_there seat class other c =
    ⊎_elim
    (λ (same : other ≡ seat). ⊎_elim
    (λ (also : c ≡ class). inl (same, also))
    (λ (apart : c ≢ class). inr (record { apart = λ _ e. apart e }))
    (cases_eq c class))
    (λ (apart : other ≢ seat). inr (record { apart = λ e _. apart e }))
    (cases_eq other seat)

-- the addresses of a list are in no stack but this
pub record AreIn (stacks : Stacks) (seat class : ℕ) (stack : List ℕ) : Type 0 where
  pub each : (at other c : ℕ) → Has stack at → Has (stacks other c) at → (other ≡ seat) × (c ≡ class)

-- a stack may become one of addresses that are in no other
pub AreDistinct-with : {stacks : Stacks} → AreDistinct stacks → (seat class : ℕ) (stack : List ℕ) → seat < 64 → class < 36 → length stack ≤ 8 → AllDiffer stack → AreIn stacks seat class stack →
    AreDistinct (with_stack stacks seat class stack)
AreDistinct-with {stacks} distinct seat class stack is_seat is_class few differ only =
    let there = λ (other c : ℕ) (is : IsOther seat class other c). stack_there stacks seat class other c stack is in
    let here = λ (other c : ℕ) (same : other ≡ seat) (also : c ≡ class). stack_here stacks seat class other c stack same also in
    record {
      seated = λ other c high. there other c (record { apart = λ e _. absurd (omega arith) }) ∙ distinct.seated other c high;
      classed = λ other c high. there other c (record { apart = λ _ e. absurd (omega arith) }) ∙ distinct.classed other c high;
      short = λ other c. ⊎_elim
          (λ (same : (other ≡ seat) × (c ≡ class)). subst (λ (xs : List ℕ). length xs ≤ 8) (sym (here other c same.0 same.1)) few)
          (λ (is : IsOther seat class other c). subst (λ (xs : List ℕ). length xs ≤ 8) (sym (there other c is)) (distinct.short other c))
          (here_or_there seat class other c);
      differ = λ other c. ⊎_elim
          (λ (same : (other ≡ seat) × (c ≡ class)). subst AllDiffer (sym (here other c same.0 same.1)) differ)
          (λ (is : IsOther seat class other c). subst AllDiffer (sym (there other c is)) (distinct.differ other c))
          (here_or_there seat class other c);
      apart = λ s c other d at one two. ⊎_elim
          (λ (same : (s ≡ seat) × (c ≡ class)). ⊎_elim
          (λ (also : (other ≡ seat) × (d ≡ class)). (same.0 ∙ sym also.0, same.1 ∙ sym also.1))
          (λ (is : IsOther seat class other d).
          let found = only.each at other d (subst (λ (xs : List ℕ). Has xs at) (here s c same.0 same.1) one) (subst (λ (xs : List ℕ). Has xs at) (there other d is) two) in
          absurd (is.apart found.0 found.1))
          (here_or_there seat class other d))
          (λ (is : IsOther seat class s c). ⊎_elim
          (λ (also : (other ≡ seat) × (d ≡ class)).
          let found = only.each at s c (subst (λ (xs : List ℕ). Has xs at) (here other d also.0 also.1) two) (subst (λ (xs : List ℕ). Has xs at) (there s c is) one) in
          absurd (is.apart found.0 found.1))
          (λ (is' : IsOther seat class other d).
          distinct.apart s c other d at (subst (λ (xs : List ℕ). Has xs at) (there s c is) one) (subst (λ (xs : List ℕ). Has xs at) (there other d is') two))
          (here_or_there seat class other d))
          (here_or_there seat class s c);
    }

-- a stack loses its top
pub AreDistinct-popped : {stacks : Stacks} → AreDistinct stacks → (seat class top : ℕ) (rest : List ℕ) → seat < 64 → class < 36 → stacks seat class ≡ top ∷ rest → AreDistinct (with_stack stacks seat class rest)
AreDistinct-popped {stacks} distinct seat class top rest is_seat is_class is =
    AreDistinct-with distinct seat class rest is_seat is_class
    (omega (arith, distinct.short seat class, ap length is))
    ((subst AllDiffer is (distinct.differ seat class)).1)
    (record { each = λ at other c one two. distinct.apart other c seat class at two (subst (λ (xs : List ℕ). Has xs at) (sym is) (inr one)) })

-- the top that it loses is in none then
pub top_gone : {stacks : Stacks} → AreDistinct stacks → (seat class : ℕ) (top : HasTop stacks seat class) → IsInNoStack (with_stack stacks seat class top.rest) top.top
top_gone {stacks} distinct seat class top = record {
  none = λ other c has. ⊎_elim
      (λ same. (subst AllDiffer top.is (distinct.differ seat class)).0 (subst (λ (xs : List ℕ). Has xs top.top) (stack_here stacks seat class other c top.rest same.0 same.1) has))
      (λ is.
      let had : Has (stacks seat class) top.top = subst (λ (xs : List ℕ). Has xs top.top) (sym top.is) (inl refl) in
      let found = distinct.apart other c seat class top.top (subst (λ (xs : List ℕ). Has xs top.top) (stack_there stacks seat class other c top.rest is) has) had in
      is.apart found.0 found.1)
      (here_or_there seat class other c);
}

-- a stack with room gets an address that is in none
pub AreDistinct-put : {stacks : Stacks} → AreDistinct stacks → (seat class at : ℕ) → seat < 64 → class < 36 → length (stacks seat class) < 8 → IsInNoStack stacks at →
    AreDistinct (with_stack stacks seat class (at ∷ stacks seat class))
AreDistinct-put {stacks} distinct seat class at is_seat is_class room loose =
    AreDistinct-with distinct seat class (at ∷ stacks seat class) is_seat is_class
    (omega arith)
    (loose.none seat class, distinct.differ seat class)
    (record {
      each = λ one other c has two. ⊎_elim
          (λ (is : one ≡ at). absurd (loose.none other c (subst (Has (stacks other c)) is two)))
          (λ (behind : Has (stacks seat class) one). distinct.apart other c seat class one two behind)
          has;
    })

-- a stack becomes one of addresses that rise and are in none
pub AreDistinct-filled : {stacks : Stacks} → AreDistinct stacks → (seat class : ℕ) (stack : List ℕ) → seat < 64 → class < 36 → length stack ≤ 8 → AreRising stack → AreLoose stacks stack →
    AreDistinct (with_stack stacks seat class stack)
AreDistinct-filled {stacks} distinct seat class stack is_seat is_class few rising loose =
    AreDistinct-with distinct seat class stack is_seat is_class few (AllDiffer-rising stack rising)
    (record { each = λ at other c one two. absurd ((loose.each at one).none other c two) })

-- a stack keeps what passes
pub AreDistinct-left : {stacks : Stacks} → AreDistinct stacks → (seat class : ℕ) (p : ℕ → Bool) → seat < 64 → class < 36 → AreDistinct (with_stack stacks seat class (filter p (stacks seat class)))
AreDistinct-left {stacks} distinct seat class p is_seat is_class =
    AreDistinct-with distinct seat class (filter p (stacks seat class)) is_seat is_class
    (omega (arith, distinct.short seat class, length-filter p (stacks seat class)))
    (AllDiffer-filter p (stacks seat class) (distinct.differ seat class))
    (record { each = λ at other c one two. distinct.apart other c seat class at two ((Has-filter p (stacks seat class) at one).0) })

-- all stacks keep what passes
pub AreDistinct-keeping : {stacks : Stacks} → AreDistinct stacks → (p : ℕ → Bool) → AreDistinct (keeping p stacks)
AreDistinct-keeping {stacks} distinct p = record {
  seated = λ seat class high. ap (filter p) (distinct.seated seat class high);
  classed = λ seat class high. ap (filter p) (distinct.classed seat class high);
  short = λ seat class. omega (arith, distinct.short seat class, length-filter p (stacks seat class));
  differ = λ seat class. AllDiffer-filter p (stacks seat class) (distinct.differ seat class);
  apart = λ seat class other c at one two. distinct.apart seat class other c at ((Has-filter p (stacks seat class) at one).0) ((Has-filter p (stacks other c) at two).0);
}

-- no stack has an address
pub AreDistinct-none : AreDistinct no_stacks
AreDistinct-none = record {
  seated = λ seat class high. refl;
  classed = λ seat class high. refl;
  short = λ seat class. omega arith;
  differ = λ seat class. tt;
  apart = λ seat class other c at one two. absurd one;
}
