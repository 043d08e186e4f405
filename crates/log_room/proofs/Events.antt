-- What lists of events store, and what they leave as it is.
use Rattle.std.proofs.Common.{◌≡◌, ◌/◌, ◌+◌, ◌⊎◌, ⊎_elim, inl, inr, ℕ, zero, suc, List, [], ◌∷◌, ◌++◌, refl, sym, ◌∙◌}
use Rattle.log_room.proofs.Common.{Event, Store, Flush, Fence, word_at, put_word, word_at-put_other, reading, IsStored, flushes_of}

-- a word to which no event stores reads the same
pub reading-other : (base : List ℕ) (events : List Event) (word : ℕ) → ((value : ℕ) → IsStored events word value → ⊥) → word_at (reading base events) word ≡ word_at base word
reading-other base [] word none = refl
reading-other base (Store at value ∷ events) word none =
    reading-other (put_word base (at / 8) value) events word (λ v s. none v (inr s))
    ∙ word_at-put_other base (at / 8) word value (λ same. none value (inl (sym same, refl)))
reading-other base (Flush line ∷ events) word none = reading-other base events word none
reading-other base (Fence ∷ events) word none = reading-other base events word none

-- what is stored by two lists is stored by the one or the other
pub IsStored-append : (e f : List Event) (word value : ℕ) → IsStored (e ++ f) word value → IsStored e word value ⊎ IsStored f word value
IsStored-append [] f word value s = inr s
IsStored-append (Store at stored ∷ e) f word value s =
    ⊎_elim (λ here. inl (inl here)) (λ later. ⊎_elim (λ first. inl (inr first)) (λ second. inr second) (IsStored-append e f word value later)) s
IsStored-append (Flush line ∷ e) f word value s = IsStored-append e f word value s
IsStored-append (Fence ∷ e) f word value s = IsStored-append e f word value s

-- flushes store nothing
pub none_stored : (line n word value : ℕ) → IsStored (flushes_of line n) word value → ⊥
none_stored line zero word value s = s
none_stored line (suc n) word value s = none_stored (line + 1) n word value s
