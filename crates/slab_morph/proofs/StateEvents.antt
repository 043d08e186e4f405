-- Another state word is put into the header of a slab: what is read then, and what a crash leaves.
use Rattle.std.proofs.Common.{◌≡◌, ◌⊎◌, ◌+◌, ◌/◌, ◌≤◌, ⊎_elim, inl, inr, ℕ, List, length, refl, sym, ◌∙◌, subst, arith}
use Rattle.slab_morph.proofs.Common.{word_at, put_word, word_at-put_same, word_at-put_other, length-put_word, CrashOnly, weaker, granule_word, blocks_place, IsStateWord, state_word, SlabState, word_of_state, SaysOfState}
use Rattle.durable_steps.specs.Steps.{word_events, IsOldOrNewWord}
use Rattle.slab_morph.specs.Stages.{with_state, IsOffState, Changes}
use Rattle.slab_morph.proofs.HeaderTables.{changes_by}
use Rattle.slab_morph.proofs.HeaderWords.{header_state, off_state}

module _ (base : List ℕ) (start : ℕ) (state : SlabState) (inside : granule_word start + blocks_place ≤ length base) (says : SaysOfState (word_of_state state) state) where
  -- the words with it
  abbrev pub told : List ℕ
  told = put_word base (state_word start) (word_of_state state)

  pub told_off : IsOffState base start told
  told_off = record {
    same_length = length-put_word base (state_word start) (word_of_state state);
    others = λ k outside. word_at-put_other base (state_word start) k (word_of_state state) (λ e. omega (arith, e, outside));
  }

  pub told_changes : Changes base told start (λ h. with_state h state)
  told_changes = changes_by base told start (λ h. with_state h state) (off_state base told start told_off) (header_state base start state (omega (arith, inside)) says)

  pub told_valid : IsStateWord (word_at told (state_word start))
  told_valid = subst IsStateWord (sym (word_at-put_same base (state_word start) (state_word start) (word_of_state state) refl (omega (arith, inside)))) says.form

-- a crash leaves the words as they were or as they are then
pub told_crash : (base new : List ℕ) (at value : ℕ) → new ≡ put_word base (at / 8) value → CrashOnly base (word_events at value) (IsOldOrNewWord base at value) →
    CrashOnly base (word_events at value) (λ image. (image ≡ base) ⊎ (image ≡ new))
told_crash base new at value is crash =
    weaker base (word_events at value) (IsOldOrNewWord base at value) (λ image. (image ≡ base) ⊎ (image ≡ new)) (λ image left. ⊎_elim (λ same. inl same) (λ put. inr (put ∙ sym is)) left.is) crash
