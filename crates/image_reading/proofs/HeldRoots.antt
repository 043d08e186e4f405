-- What roots hold, by the open entry and the root words.
use Rattle.std.proofs.Common.{◌≡◌, ◌≢◌, ◌&&◌, ◌<◌, ℕ, Bool, true, false, cond, eqb, ltb, Option, Some, List, refl, ap, subst, ◌∙◌}
use Rattle.std.proofs.lemmas.Bool.{eq-eqb, ne_eqb, lt-ltb}
use Rattle.image_tables.specs.declared.entry.WalEntry.{WalEntry}
use Rattle.image_tables.specs.declared.entry.WalEntry.TheVariants.{Move}
use Rattle.image_tables.specs.Tables.{held_of, tables_of}

held_itself : (words : List ℕ) (root : ℕ) → (tables_of words).root root ≡ held_of (tables_of words).open_entry (tables_of words).word root
unfolding tables_of
held_itself words root = refl

pub root_held : (words : List ℕ) (entry : Option WalEntry) (root : ℕ) → (tables_of words).open_entry ≡ entry → (tables_of words).root root ≡ held_of entry (tables_of words).word root
root_held words entry root is = subst (λ e. (tables_of words).root root ≡ held_of e (tables_of words).word root) is (held_itself words root)

-- the roots of an open move

pub held_of-other : (word : ℕ → ℕ) (from to root : ℕ) → root ≢ from → held_of (Some (Move from to)) word root ≡ word root
held_of-other word from to root other = ap (λ b. cond (b && ltb 0 (word to)) 0 (word root)) (ne_eqb root from other)

pub held_of-moved : (word : ℕ → ℕ) (from to root : ℕ) → root ≡ from → 0 < word to → held_of (Some (Move from to)) word root ≡ 0
held_of-moved word from to root same some = ap (λ b. cond (b && ltb 0 (word to)) 0 (word root)) (eq-eqb root from same) ∙ ap (λ b. cond b 0 (word root)) (lt-ltb 0 (word to) some)

pub held_of-still : (word : ℕ → ℕ) (from to root : ℕ) → word to ≡ 0 → held_of (Some (Move from to)) word root ≡ word root
held_of-still word from to root none = ap (λ n. cond (eqb root from && ltb 0 n) 0 (word root)) none ∙ never (eqb root from)
  where
    never : (b : Bool) → cond (b && false) 0 (word root) ≡ word root
    never true = refl
    never false = refl
