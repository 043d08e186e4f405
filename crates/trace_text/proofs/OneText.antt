-- Where a line says one thing at most, a text says one thing, or has one refused line.
use Rattle.std.proofs.Common.{◌≡◌, ◌⊎◌, ℕ, zero, suc, ◌+◌, List, [], ◌∷◌, refl, sym, ◌∙◌, ap, subst, inl, inr}
use Rattle.trace_text.specs.Texts.{Lines, lines_of, IsPassedOver, AreCalls, AreText, IsNoCallAt, IsNoTextAt, IsClear}
use Rattle.trace_text.specs.Laws.{LawOfOneText, LawOfNoneOutside, LawOfOneOutside}

-- texts that are the same begin with the same byte
pub same_letter : (a b : ℕ) (x y : List ℕ) → a ∷ x ≡ b ∷ y → a ≡ b
same_letter a b x y e = cc

module _ {H C : Type 0} (g : Lines H C) where
  -- lines that make calls have none that is no call
  calls_not_refused : (head : H) (lines : List (List ℕ)) (calls : List C) (n : ℕ) → AreCalls g head lines calls → ¬ (IsNoCallAt g head lines n)
  calls_not_refused head [] calls n are refused = refused
  calls_not_refused head (line ∷ lines) [] zero are refused = refused.0 are.0
  calls_not_refused head (line ∷ lines) [] (suc n) are refused = calls_not_refused head lines [] n are.1 refused.1
  calls_not_refused head (line ∷ lines) (c ∷ cs) zero (inl are) refused = refused.0 are.0
  calls_not_refused head (line ∷ lines) (c ∷ cs) zero (inr are) refused = refused.1 c are.0
  calls_not_refused head (line ∷ lines) (c ∷ cs) (suc n) (inl are) refused = calls_not_refused head lines (c ∷ cs) n are.1 refused.1
  calls_not_refused head (line ∷ lines) (c ∷ cs) (suc n) (inr are) refused = calls_not_refused head lines cs n are.1 refused.1

  -- a line that is no call is not one that was read
  no_call_read : (head : H) (line : List ℕ) → ¬ (IsPassedOver line) → ((call : C) → ¬ (g.call head line call)) → ¬ (IsPassedOver line ⊎ ((call : C) × g.call head line call))
  no_call_read head line kept none (inl passed) = kept passed
  no_call_read head line kept none (inr makes) = none makes.0 makes.1

  -- one line is the first that is no call
  one_no_call : (head : H) (lines : List (List ℕ)) (m n : ℕ) → IsNoCallAt g head lines m → IsNoCallAt g head lines n → m ≡ n
  one_no_call head [] m n p q = absurd p
  one_no_call head (line ∷ lines) zero zero p q = refl
  one_no_call head (line ∷ lines) zero (suc n) p q = absurd (no_call_read head line p.0 p.1 q.0)
  one_no_call head (line ∷ lines) (suc m) zero p q = absurd (no_call_read head line q.0 q.1 p.0)
  one_no_call head (line ∷ lines) (suc m) (suc n) p q = ap suc (one_no_call head lines m n p.1 q.1)

  module _ (clear : IsClear g) where
    -- lines make one list of calls
    one_list : (first : List ℕ) (head : H) (lines : List (List ℕ)) (a b : List C) → g.head first head → AreCalls g head lines a → AreCalls g head lines b → a ≡ b
    one_list first head [] a b says p q = p ∙ sym q
    one_list first head (line ∷ lines) [] [] says p q = refl
    one_list first head (line ∷ lines) [] (d ∷ ds) says p (inl q) = one_list first head lines [] (d ∷ ds) says p.1 q.1
    one_list first head (line ∷ lines) [] (d ∷ ds) says p (inr q) = absurd (clear.no_call head line d p.0 q.0)
    one_list first head (line ∷ lines) (c ∷ cs) [] says (inl p) q = one_list first head lines (c ∷ cs) [] says p.1 q.1
    one_list first head (line ∷ lines) (c ∷ cs) [] says (inr p) q = absurd (clear.no_call head line c q.0 p.0)
    one_list first head (line ∷ lines) (c ∷ cs) (d ∷ ds) says (inl p) (inl q) = one_list first head lines (c ∷ cs) (d ∷ ds) says p.1 q.1
    one_list first head (line ∷ lines) (c ∷ cs) (d ∷ ds) says (inl p) (inr q) = absurd (clear.no_call head line d p.0 q.0)
    one_list first head (line ∷ lines) (c ∷ cs) (d ∷ ds) says (inr p) (inl q) = absurd (clear.no_call head line c q.0 p.0)
    one_list first head (line ∷ lines) (c ∷ cs) (d ∷ ds) says (inr p) (inr q) =
        let call : c ≡ d = clear.one_call first head line c d says p.0 q.0 in
        let rest : cs ≡ ds = one_list first head lines cs ds says p.1 q.1 in
        cc

    -- lines say one thing
    one_text : (lines : List (List ℕ)) (m n : H) (a b : List C) → AreText g lines m a → AreText g lines n b → (m ≡ n) × (a ≡ b)
    one_text [] m n a b p q = absurd p
    one_text (line ∷ lines) m n a b (inl p) (inl q) = one_text lines m n a b p.1 q.1
    one_text (line ∷ lines) m n a b (inl p) (inr q) = absurd (clear.no_head line n p.0 q.0)
    one_text (line ∷ lines) m n a b (inr p) (inl q) = absurd (clear.no_head line m q.0 p.0)
    one_text (line ∷ lines) m n a b (inr p) (inr q) =
        let same : m ≡ n = clear.one_head line m n p.0 q.0 in
        (same, one_list line m lines a b p.0 p.1 (subst (λ (head : H). AreCalls g head lines b) (sym same) q.1))

    -- lines that say something have none outside the grammar
    text_not_refused : (lines : List (List ℕ)) (head : H) (calls : List C) (n : ℕ) → AreText g lines head calls → ¬ (IsNoTextAt g lines n)
    text_not_refused [] head calls n are refused = are
    text_not_refused (line ∷ lines) head calls zero (inl are) refused = refused.0 are.0
    text_not_refused (line ∷ lines) head calls zero (inr are) refused = refused.1 head are.0
    text_not_refused (line ∷ lines) head calls (suc n) (inl are) (inl refused) = text_not_refused lines head calls n are.1 refused.1
    text_not_refused (line ∷ lines) head calls (suc n) (inl are) (inr refused) = clear.no_head line refused.0 are.0 refused.1
    text_not_refused (line ∷ lines) head calls (suc n) (inr are) (inl refused) = clear.no_head line head refused.0 are.0
    text_not_refused (line ∷ lines) head calls (suc n) (inr are) (inr refused) =
        calls_not_refused head lines calls n are.1 (subst (λ (other : H). IsNoCallAt g other lines n) (clear.one_head line refused.0 head refused.1 are.0) refused.2)

    -- one line is the first outside the grammar
    one_refusal : (lines : List (List ℕ)) (m n : ℕ) → IsNoTextAt g lines m → IsNoTextAt g lines n → m ≡ n
    one_refusal [] m n p q = p ∙ sym q
    one_refusal (line ∷ lines) zero zero p q = refl
    one_refusal (line ∷ lines) zero (suc n) p (inl q) = absurd (p.0 q.0)
    one_refusal (line ∷ lines) zero (suc n) p (inr q) = absurd (p.1 q.0 q.1)
    one_refusal (line ∷ lines) (suc m) zero (inl p) q = absurd (q.0 p.0)
    one_refusal (line ∷ lines) (suc m) zero (inr p) q = absurd (q.1 p.0 p.1)
    one_refusal (line ∷ lines) (suc m) (suc n) (inl p) (inl q) = ap suc (one_refusal lines m n p.1 q.1)
    one_refusal (line ∷ lines) (suc m) (suc n) (inl p) (inr q) = absurd (clear.no_head line q.0 p.0 q.1)
    one_refusal (line ∷ lines) (suc m) (suc n) (inr p) (inl q) = absurd (clear.no_head line p.0 q.0 p.1)
    one_refusal (line ∷ lines) (suc m) (suc n) (inr p) (inr q) =
        ap suc (one_no_call p.0 lines m n p.2 (subst (λ (head : H). IsNoCallAt g head lines n) (clear.one_head line q.0 p.0 q.1 p.1) q.2))

    -- a text says one thing at most
    pub law_of_one_text : LawOfOneText g
    law_of_one_text text head other calls more p q = one_text (lines_of text) head other calls more p.lines q.lines

    -- one that says something has no refused line
    pub law_of_none_outside : LawOfNoneOutside g
    law_of_none_outside text head calls number is refused = text_not_refused (lines_of text) head calls refused.before is.lines refused.lines

    -- a text has one refused line at most
    pub law_of_one_outside : LawOfOneOutside g
    law_of_one_outside text number other p q = p.is_next ∙ ap (λ n. n + 1) (one_refusal (lines_of text) p.before q.before p.lines q.lines) ∙ sym q.is_next
