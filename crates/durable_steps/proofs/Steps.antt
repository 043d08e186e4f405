-- What holds of the steps of one word and of two.
use Rattle.std.proofs.Common.{◌≡◌, ℕ, ◌/◌, List, [], ◌∷◌, refl, inl, inr, subst, true}
use Rattle.std.proofs.lemmas.Bool.{eq-eqb}
use Rattle.pmem_lines.specs.declared.event.Event.{Event}
use Rattle.pmem_lines.specs.declared.event.Event.TheVariants.{Store, Flush, Fence}
use Rattle.pmem_lines.specs.Words.{put_word}
use Rattle.pmem_lines.specs.Events.{IsQuiet, is_flushed, is_fenced, CrashOnly}
use Rattle.pmem_lines.specs.Pmem.{PmemState, words_of}
use Rattle.pmem_lines.specs.Steps.{IsQuietStep}
use Rattle.pmem_lines.proofs.Images.{by_stores}
use Rattle.pmem_lines.proofs.Steps.{step_wider}
use Rattle.durable_steps.specs.Steps.{word_events, pair_events, IsOldOrNewWord, IsOldOrNewPair}

-- a line that is flushed before a fence
flushed_first : (line : ℕ) (events : List Event) → is_fenced events ≡ true → is_flushed line (Flush line ∷ events) ≡ true
flushed_first line events fenced = rw (eq-eqb line line refl, fenced) refl

-- a word ends quiet
pub IsQuiet-word : (at value : ℕ) → IsQuiet (word_events at value)
IsQuiet-word at value = (flushed_first (at / 64) (Fence ∷ []) refl, tt)

-- a pair ends quiet
pub IsQuiet-pair : (first a second b : ℕ) → IsQuiet (pair_events first a second b)
IsQuiet-pair first a second b = (
  flushed_first (first / 64) (Store second b ∷ Flush (second / 64) ∷ Fence ∷ []) refl,
  (flushed_first (second / 64) (Fence ∷ []) refl, tt),
)

-- a crash leaves the word old or new
pub word_crash : (base : List ℕ) (at value : ℕ) → CrashOnly base (word_events at value) (IsOldOrNewWord base at value)
word_crash base at value = by_stores base (word_events at value) (IsOldOrNewWord base at value) (record { is = inl refl }, record { is = inr refl })

-- a crash leaves each word of a pair old or new
pub pair_crash : (base : List ℕ) (first a second b : ℕ) → CrashOnly base (pair_events first a second b) (IsOldOrNewPair base first a second b)
pair_crash base first a second b =
    let with_first = put_word base (first / 8) a in
    by_stores base (pair_events first a second b) (IsOldOrNewPair base first a second b) (
      (
        record { between = base; first_word = record { is = inl refl }; second_word = record { is = inl refl } },
        record { between = base; first_word = record { is = inl refl }; second_word = record { is = inr refl } },
      ),
      (
        record { between = with_first; first_word = record { is = inr refl }; second_word = record { is = inl refl } },
        record { between = with_first; first_word = record { is = inr refl }; second_word = record { is = inr refl } },
      ),
    )

-- the step of one word, by other names of its address and value, and what follows from its word old or new
pub word_step : {s t : PmemState} {P : List ℕ → Type 0} (at value : ℕ) {place stored : ℕ} → at ≡ place → value ≡ stored → ((image : List ℕ) → IsOldOrNewWord (words_of s) place stored image → P image) →
    IsQuietStep s t (word_events at value) (IsOldOrNewWord (words_of s) at value) → IsQuietStep s t (word_events place stored) P
word_step {s} {t} {P} at value {place} {stored} at_is value_is implies step =
    step_wider implies
    (subst (λ a. IsQuietStep s t (word_events a stored) (IsOldOrNewWord (words_of s) a stored)) at_is
    (subst (λ v. IsQuietStep s t (word_events at v) (IsOldOrNewWord (words_of s) at v)) value_is step))
