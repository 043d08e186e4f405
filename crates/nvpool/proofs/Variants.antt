-- What a command that reads images of both variants has to say, from what it has to say of each.
use Rattle.std.proofs.Common.{◌≡◌, ℕ, List, Result, subst, sym, inl, inr}
use Rattle.std.specs.Result.{IfOk}
use Rattle.pmem_lines.specs.Words.{word_at}
use Rattle.pool_layout.specs.Places.{text_word}
use Rattle.pool_layout.specs.Image.{AreWordsOf}
use Rattle.pool_layout.specs.Header.{gc_text}
use Rattle.program_io.specs.declared.answer.Answer.{Answer}
use Rattle.program_io.specs.declared.answer.Answer.TheVariants.{Output, FaultLine}
use Rattle.nvpool.specs.declared.cause.Cause.{Cause}
use Rattle.nvpool.specs.Meaning.{Meaning}
use Rattle.nvpool.specs.Variants.{HasGcText, either}
use Rattle.nvpool.specs.Ends.{IsAnswer}
use Rattle.nvpool.proofs.Answering.{ok_more}

module _ (log gc : Meaning) where
  by_log : (input : List ℕ) (answer : Answer) → ¬ (HasGcText input) → IsAnswer log input answer → IsAnswer (either log gc) input answer
  by_log input (Output text) other is = inl is
  by_log input (FaultLine text) other is = record { why = is.why; cause = inl (other, is.cause); line = is.line }

  by_gc : (input : List ℕ) (answer : Answer) → HasGcText input → IsAnswer gc input answer → IsAnswer (either log gc) input answer
  by_gc input (Output text) own is = inr is
  by_gc input (FaultLine text) own is = record { why = is.why; cause = inr (own, is.cause); line = is.line }

  module _ {E : Type 0} (words : List ℕ) (size : ℕ) (result : Result Answer E) where
    -- of words that do not begin with the text, what is said of an image of the LOG variant
    pub log_answer : ¬ (word_at words text_word ≡ gc_text) → IfOk result (λ answer. (image : List ℕ) → AreWordsOf words size image → IsAnswer log image answer) →
        IfOk result (λ answer. (image : List ℕ) → AreWordsOf words size image → IsAnswer (either log gc) image answer)
    log_answer other =
        ok_more result (λ answer. (image : List ℕ) → AreWordsOf words size image → IsAnswer log image answer) (λ answer. (image : List ℕ) → AreWordsOf words size image → IsAnswer (either log gc) image answer)
        (λ answer is image are. by_log image answer (λ own. other (subst (λ (ws : List ℕ). word_at ws text_word ≡ gc_text) (sym are.words_are) own)) (is image are))

    -- of those that do, what is said of one of the other
    pub gc_answer : word_at words text_word ≡ gc_text → IfOk result (λ answer. (image : List ℕ) → AreWordsOf words size image → IsAnswer gc image answer) →
        IfOk result (λ answer. (image : List ℕ) → AreWordsOf words size image → IsAnswer (either log gc) image answer)
    gc_answer own =
        ok_more result (λ answer. (image : List ℕ) → AreWordsOf words size image → IsAnswer gc image answer) (λ answer. (image : List ℕ) → AreWordsOf words size image → IsAnswer (either log gc) image answer)
        (λ answer is image are. by_gc image answer (subst (λ (ws : List ℕ). word_at ws text_word ≡ gc_text) are.words_are own) (is image are))

  -- what is accepted is not refused, where that is so of each variant
  pub either_settled : ((input : List ℕ) (why : Cause) → log.accepts input → ¬ (log.refuses input why)) → ((input : List ℕ) (why : Cause) → gc.accepts input → ¬ (gc.refuses input why)) →
      ((input : List ℕ) → log.accepts input → ¬ (HasGcText input)) → ((input : List ℕ) → gc.accepts input → HasGcText input) →
      (input : List ℕ) (why : Cause) → (either log gc).accepts input → ¬ ((either log gc).refuses input why)
  either_settled first second no_text text input why (inl has) (inl refused) = first input why has refused.1
  either_settled first second no_text text input why (inl has) (inr refused) = no_text input has refused.0
  either_settled first second no_text text input why (inr has) (inl refused) = refused.0 (text input has)
  either_settled first second no_text text input why (inr has) (inr refused) = second input why has refused.1
