-- What each root holds while a block moves: it is what its word was, or of the two roots what the other's was.
use Rattle.std.proofs.Common.{◌≡◌, ◌≢◌, ◌==◌, ◌&&◌, ℕ, Bool, true, false, cond, refl, sym, ap, subst, ◌∙◌, arith, ⊎_elim, ltb, Some}
use Rattle.std.proofs.lemmas.Bool.{cases_eq, cond-true, cond-false, eq-eqb, ne_eqb, and_from, lt-ltb}
use Rattle.image_tables.specs.declared.entry.WalEntry.TheVariants.{Move}
use Rattle.image_tables.specs.Tables.{held_of}
use Rattle.image_tables.specs.Updates.{put_at}
use Rattle.image_tables.proofs.Updates.{put_at-same, put_at-other}
use Rattle.settle_steps.proofs.MoveTables.{held_released}

-- two numbers change places
unfoldable pub swapped : ℕ → ℕ → ℕ → ℕ
swapped from to r = cond (r == from) to (cond (r == to) from r)

pub swapped_from : (from to : ℕ) → swapped from to from ≡ to
unfolding swapped
swapped_from from to = cond-true (from == from) to (cond (from == to) from from) (eq-eqb from from refl)

pub swapped_to : (from to : ℕ) → from ≢ to → swapped from to to ≡ from
unfolding swapped
swapped_to from to differ = cond-false (to == from) to (cond (to == to) from to) (ne_eqb to from (λ same. differ (sym same))) ∙ cond-true (to == to) from to (eq-eqb to to refl)

pub swapped_other : (from to r : ℕ) → r ≢ from → r ≢ to → swapped from to r ≡ r
unfolding swapped
swapped_other from to r not_from not_to = cond-false (r == from) to (cond (r == to) from r) (ne_eqb r from not_from) ∙ cond-false (r == to) from r (ne_eqb r to not_to)

-- of one of the two, or of any other number
pub by_root : {P : ℕ → Type 0} (from to : ℕ) → P from → P to → ((r : ℕ) → r ≢ from → r ≢ to → P r) → (r : ℕ) → P r
by_root {P} from to at_from at_to others r = ⊎_elim
    (λ (is : r ≡ from). subst P (sym is) at_from)
    (λ (not_from : r ≢ from). ⊎_elim
    (λ (is : r ≡ to). subst P (sym is) at_to)
    (λ (not_to : r ≢ to). others r not_from not_to)
    (cases_eq r to))
    (cases_eq r from)

-- twice, nothing has changed
pub swapped_back : (from to : ℕ) → from ≢ to → (r : ℕ) → swapped from to (swapped from to r) ≡ r
swapped_back from to differ = by_root from to
    (ap (swapped from to) (swapped_from from to) ∙ swapped_to from to differ)
    (ap (swapped from to) (swapped_to from to differ) ∙ swapped_from from to)
    (λ r not_from not_to. ap (swapped from to) (swapped_other from to r not_from not_to) ∙ swapped_other from to r not_from not_to)

-- the root words once both stores of a move are done
abbrev pub moved_words : (ℕ → ℕ) → ℕ → ℕ → ℕ → ℕ
moved_words word from to = put_at (put_at word to (word from)) from 0

module _ (word : ℕ → ℕ) (from to : ℕ) (differ : from ≢ to) (none : word to ≡ 0) where
  no_second : (test : Bool) (n : ℕ) → cond (test && false) 0 n ≡ n
  no_second true n = refl
  no_second false n = refl

  -- the entry is open and the second root has no word
  pub held_opened : (r : ℕ) → held_of (Some (Move from to)) word r ≡ word r
  held_opened r = ap (λ w. cond ((r == from) && ltb 0 w) 0 (word r)) none ∙ no_second (r == from) (word r)

  -- it has the address
  pub held_both : word from ≢ 0 → (r : ℕ) → held_of (Some (Move from to)) (put_at word to (word from)) r ≡ word (swapped from to r)
  held_both some = by_root from to
      (cond-true ((from == from) && ltb 0 (put_at word to (word from) to)) 0 (put_at word to (word from) from)
      (and_from (from == from) (ltb 0 (put_at word to (word from) to)) (eq-eqb from from refl)
      (lt-ltb 0 (put_at word to (word from) to) (omega (arith, put_at-same word to (word from), some))))
      ∙ sym none ∙ ap word (sym (swapped_from from to)))
      (not_first to (λ same. differ (sym same)) ∙ put_at-same word to (word from) ∙ ap word (sym (swapped_to from to differ)))
      (λ r not_from not_to. not_first r not_from ∙ put_at-other word to r (word from) not_to ∙ ap word (sym (swapped_other from to r not_from not_to)))
    where
      not_first : (r : ℕ) → r ≢ from → held_of (Some (Move from to)) (put_at word to (word from)) r ≡ put_at word to (word from) r
      not_first r apart = ap (λ test. cond (test && ltb 0 (put_at word to (word from) to)) 0 (put_at word to (word from) r)) (ne_eqb r from apart)

  -- and the first has none, so that each root holds its word
  pub held_moved : (r : ℕ) → moved_words word from to r ≡ word (swapped from to r)
  held_moved = by_root from to
      (put_at-same (put_at word to (word from)) from 0 ∙ sym none ∙ ap word (sym (swapped_from from to)))
      (put_at-other (put_at word to (word from)) from to 0 (λ same. differ (sym same)) ∙ put_at-same word to (word from) ∙ ap word (sym (swapped_to from to differ)))
      (λ r not_from not_to.
      put_at-other (put_at word to (word from)) from r 0 not_from ∙ put_at-other word to r (word from) not_to ∙ ap word (sym (swapped_other from to r not_from not_to)))

  -- under the entry too
  pub held_released_moved : (r : ℕ) → held_of (Some (Move from to)) (moved_words word from to) r ≡ word (swapped from to r)
  held_released_moved r = held_released (moved_words word from to) from to r (put_at-same (put_at word to (word from)) from 0) ∙ held_moved r
