-- An open move entry is settled: what the tables say at each stage.
use Rattle.std.proofs.Common.{◌≡◌, ◌≢◌, ◌⊎◌, ◌==◌, ◌&&◌, ℕ, Bool, true, false, cond, refl, sym, ap, ◌∙◌, arith, ⊎_elim, ltb, Option, Some, None}
use Rattle.settle_steps.proofs.Common.{cases_eq, cases_lt, eq-eqb, ne_eqb, lt-ltb, WalEntry, Move, held_of, Tables, put_at, put_at-same, put_at-other, Bounds, entry_at, heap, IsOpenMove, IsMorphing, IsSteady, LoosensNothing}
use Rattle.settle_steps.proofs.Renamed.{IsRenaming, IsSteady-renamed, heap-renamed, loosens_renamed, nearly_back}
use Rattle.settle_steps.specs.Settled.{LoosensLeft}

-- other root words and another entry; what each root holds is the same
abbrev pub reworded : Tables → (ℕ → ℕ) → Option WalEntry → Tables
reworded t word entry = record t { word = word; open_entry = entry }

-- no entry is open, or the move entry still, by these words
pub record IsMoveStage (b : Bounds) (t : Tables) (from to : ℕ) (word : ℕ → ℕ) (entry : Option WalEntry) : Type 0 where
  pub is : (entry ≡ None) ⊎ ((entry ≡ Some (Move from to)) × IsOpenMove b (reworded t word entry) from to)

module _ {b : Bounds} {t : Tables} (from to : ℕ) (steady : IsSteady b t) (opens : t.open_entry ≡ Some (Move from to)) (word : ℕ → ℕ) (entry : Option WalEntry) (stage : IsMoveStage b t from to word entry) where
  abbrev same : ℕ → ℕ
  same r = r

  renaming : IsRenaming b t from to word same entry
  renaming = record { back = λ r. refl; is = stage.is }

  unnamed : (r : ℕ) → entry_at t.open_entry r ≡ 0
  unnamed r = ap (λ e. entry_at e r) opens

  none_morphing : (start : ℕ) → ¬ (IsMorphing t start)
  none_morphing start morphing = (steady.sound.owned.open_entry (Move from to) opens).none_morphing start morphing.slab morphing.kind

  pub IsSteady-reworded : IsSteady b (reworded t word entry)
  IsSteady-reworded = IsSteady-renamed steady unnamed none_morphing from to word same entry renaming

  pub heap-reworded : (r : ℕ) → heap (reworded t word entry) r ≡ heap t r
  heap-reworded = heap-renamed steady unnamed none_morphing from to word same entry renaming

  pub loosens_nothing : LoosensNothing t (reworded t word entry)
  loosens_nothing = loosens_renamed steady unnamed none_morphing from to word same entry renaming

  pub loosens_left : LoosensLeft t (reworded t word entry)
  loosens_left = record {
    large = loosens_nothing.large;
    empty = loosens_nothing.empty;
    morphing = loosens_nothing.morphing;
    done = λ start done. nearly_back steady unnamed none_morphing from to word same entry renaming start
        (record { slab = done.slab; kind = λ normal. omega (arith, normal, done.kind); none = λ place below live. absurd (let none = done.none place below in cc) });
  }

-- roots and their words

zero_either : (test : Bool) {n : ℕ} → n ≡ 0 → cond test 0 n ≡ n
zero_either true none = sym none
zero_either false none = refl

-- under a move entry from a root without a word, each root holds its word
pub held_released : (word : ℕ → ℕ) (from to r : ℕ) → word from ≡ 0 → held_of (Some (Move from to)) word r ≡ word r
held_released word from to r none = ⊎_elim
    (λ (same : r ≡ from). zero_either ((r == from) && ltb 0 (word to)) (ap word same ∙ none))
    (λ (differ : r ≢ from). ap (λ test. cond (test && ltb 0 (word to)) 0 (word r)) (ne_eqb r from differ))
    (cases_eq r from)

-- what each root holds under the entry is its word once the entry is settled
pub held_settled : (word : ℕ → ℕ) (from to r : ℕ) → held_of (Some (Move from to)) word r ≡ cond (ltb 0 (word from) && ltb 0 (word to)) (put_at word from 0) word r
held_settled word from to r = by (ltb 0 (word from)) refl (ltb 0 (word to)) refl
  where
    no_second : (test : Bool) → cond (test && false) 0 (word r) ≡ word r
    no_second true = refl
    no_second false = refl

    by : (first : Bool) → ltb 0 (word from) ≡ first → (second : Bool) → ltb 0 (word to) ≡ second → cond ((r == from) && second) 0 (word r) ≡ cond (first && second) (put_at word from 0) word r
    by true one true two = ⊎_elim
        (λ (same : r ≡ from). ap (λ test. cond (test && true) 0 (word r)) (eq-eqb r from same) ∙ sym (put_at-same word from 0) ∙ ap (put_at word from 0) (sym same))
        (λ (differ : r ≢ from). ap (λ test. cond (test && true) 0 (word r)) (ne_eqb r from differ) ∙ sym (put_at-other word from r 0 differ))
        (cases_eq r from)
    by true one false two = no_second (r == from)
    by false one false two = no_second (r == from)
    by false one true two = ⊎_elim
        (λ (same : r ≡ from).
        let none : word r ≡ 0 = ap word same ∙ ⊎_elim (λ some. absurd (let yes = lt-ltb 0 (word from) some in cc)) (λ le. omega (arith, le)) (cases_lt 0 (word from)) in
        zero_either ((r == from) && true) none)
        (λ (differ : r ≢ from). ap (λ test. cond (test && true) 0 (word r)) (ne_eqb r from differ))
        (cases_eq r from)
