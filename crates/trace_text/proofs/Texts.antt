-- What was read of a text, line by line, by any grammar of its lines.
use Rattle.std.proofs.Common.{◌≡◌, ℕ, suc, ◌+◌, ◌≤◌, List, [], ◌∷◌, ◌++◌, length, refl, sym, subst, inl, inr, arith}
use Rattle.std.proofs.lemmas.List.{append_assoc, append-nil}
use Rattle.trace_text.specs.declared.text.TextFault.{TextFault}
use Rattle.trace_text.specs.declared.text.TextFault.TheVariants.{Memory, BadLine}
use Rattle.trace_text.specs.Texts.{Lines, lines_of, IsPassedOver, AreCalls, AreText, IsNoCallAt, IsNoTextAt, IsFirstOutside, IfBadLine}
use Rattle.trace_text.specs.Lines.{IsBehindHead}

-- what a fault says, it says of less too
pub IfBadLine-weaker : (fault : TextFault) (P Q : ℕ → Type 0) → ((line : ℕ) → P line → Q line) → IfBadLine fault P → IfBadLine fault Q
IfBadLine-weaker (Memory error) P Q less says = tt
IfBadLine-weaker (BadLine line) P Q less says = less line says

module _ {H C : Type 0} (g : Lines H C) where
  -- these many lines were passed over or made these calls, and then come the others
  pub record CallsSoFar (head : H) (lines rest : List (List ℕ)) (calls : List C) (many : ℕ) : Type 0 where
    pub made : (more : List C) → AreCalls g head rest more → AreCalls g head lines (calls ++ more)
    pub refused : (n : ℕ) → IsNoCallAt g head rest n → IsNoCallAt g head lines (many + n)

  -- a line that is passed over makes none of the calls behind it
  call_passed_over : (head : H) (line : List ℕ) (rest : List (List ℕ)) (calls : List C) → IsPassedOver line → AreCalls g head rest calls → AreCalls g head (line ∷ rest) calls
  call_passed_over head line rest [] passed are = (passed, are)
  call_passed_over head line rest (call ∷ calls) passed are = inl (passed, are)

  -- a line further that is passed over
  pub calls_passed_over : {head : H} {lines others rest : List (List ℕ)} {calls : List C} {many : ℕ} {line : List ℕ} → CallsSoFar head lines others calls many → others ≡ line ∷ rest → IsPassedOver line → CallsSoFar head lines rest calls (many + 1)
  calls_passed_over {head} {lines} {others} {rest} {calls} {many} {line} so_far is passed = record {
    made = λ more are. so_far.made more (subst (λ (ls : List (List ℕ)). AreCalls g head ls more) (sym is) (call_passed_over head line rest more passed are));
    refused = λ n no. subst (IsNoCallAt g head lines) (omega arith) (so_far.refused (suc n) (subst (λ (ls : List (List ℕ)). IsNoCallAt g head ls (suc n)) (sym is) (inl passed, no)));
  }

  -- a line further that makes a call
  pub one_more_call : {head : H} {lines others rest : List (List ℕ)} {calls : List C} {many : ℕ} {line : List ℕ} → CallsSoFar head lines others calls many → others ≡ line ∷ rest → (call : C) → g.call head line call → CallsSoFar head lines rest (calls ++ call ∷ []) (many + 1)
  one_more_call {head} {lines} {others} {rest} {calls} {many} {line} so_far is call makes = record {
    made = λ more are. subst (AreCalls g head lines) (sym (append_assoc calls (call ∷ []) more)) (so_far.made (call ∷ more) (subst (λ (ls : List (List ℕ)). AreCalls g head ls (call ∷ more)) (sym is) (inr (makes, are))));
    refused = λ n no. subst (IsNoCallAt g head lines) (omega arith) (so_far.refused (suc n) (subst (λ (ls : List (List ℕ)). IsNoCallAt g head ls (suc n)) (sym is) (inr (call, makes), no)));
  }

  -- all lines are read
  pub all_calls : {head : H} {lines others : List (List ℕ)} {calls : List C} {many : ℕ} → CallsSoFar head lines others calls many → others ≡ [] → AreCalls g head lines calls
  all_calls {head} {lines} {others} {calls} {many} so_far is =
      subst (AreCalls g head lines) (append-nil calls) (so_far.made [] (subst (λ (ls : List (List ℕ)). AreCalls g head ls []) (sym is) refl))

  -- the next line is no call
  pub no_call_here : {head : H} {lines others rest : List (List ℕ)} {calls : List C} {many : ℕ} {line : List ℕ} → CallsSoFar head lines others calls many → others ≡ line ∷ rest → ¬ (IsPassedOver line) → ((call : C) → ¬ (g.call head line call)) → IsNoCallAt g head lines many
  no_call_here {head} {lines} {others} {rest} {calls} {many} {line} so_far is kept none =
      subst (IsNoCallAt g head lines) (omega arith) (so_far.refused 0 (subst (λ (ls : List (List ℕ)). IsNoCallAt g head ls 0) (sym is) (kept, none)))

  -- these many lines were passed over, and then come the others
  pub record PassedSoFar (lines rest : List (List ℕ)) (many : ℕ) : Type 0 where
    pub made : (head : H) (calls : List C) → AreText g rest head calls → AreText g lines head calls
    pub refused : (n : ℕ) → IsNoTextAt g rest n → IsNoTextAt g lines (many + n)

  -- a line further
  pub one_more_passed : {lines others rest : List (List ℕ)} {many : ℕ} {line : List ℕ} → PassedSoFar lines others many → others ≡ line ∷ rest → IsPassedOver line → PassedSoFar lines rest (many + 1)
  one_more_passed {lines} {others} {rest} {many} {line} so_far is passed = record {
    made = λ head calls are. so_far.made head calls (subst (λ (ls : List (List ℕ)). AreText g ls head calls) (sym is) (inl (passed, are)));
    refused = λ n no. subst (IsNoTextAt g lines) (omega arith) (so_far.refused (suc n) (subst (λ (ls : List (List ℕ)). IsNoTextAt g ls (suc n)) (sym is) (inl (passed, no))));
  }

  -- the next line says the head
  pub head_here : {text rest line : List ℕ} {others : List (List ℕ)} {many : ℕ} {head : H} → PassedSoFar (lines_of text) others many → others ≡ line ∷ lines_of rest → g.head line head → many + 1 + length rest ≤ length text → IsBehindHead g text rest head (many + 1)
  head_here {text} {rest} {line} {others} {many} {head} so_far is says within = record {
    line = line;
    says = says;
    made = λ calls are. so_far.made head calls (subst (λ (ls : List (List ℕ)). AreText g ls head calls) (sym is) (inr (says, are)));
    refused = λ n no. subst (IsNoTextAt g (lines_of text)) (omega arith) (so_far.refused (suc n) (subst (λ (ls : List (List ℕ)). IsNoTextAt g ls (suc n)) (sym is) (inr (head, says, no))));
    within = within;
  }

  -- the next line says no head
  pub no_head_here : {text line : List ℕ} {others rest : List (List ℕ)} {many : ℕ} → PassedSoFar (lines_of text) others many → others ≡ line ∷ rest → ¬ (IsPassedOver line) → ((head : H) → ¬ (g.head line head)) → IsFirstOutside g text (many + 1)
  no_head_here {text} {line} {others} {rest} {many} so_far is kept none = record {
    before = many;
    is_next = refl;
    lines = subst (IsNoTextAt g (lines_of text)) (omega arith) (so_far.refused 0 (subst (λ (ls : List (List ℕ)). IsNoTextAt g ls 0) (sym is) (kept, none)));
  }

  -- the text ends with no head
  pub no_head : {text : List ℕ} {others : List (List ℕ)} {many : ℕ} → PassedSoFar (lines_of text) others many → others ≡ [] → IsFirstOutside g text (many + 1)
  no_head {text} {others} {many} so_far is = record {
    before = many;
    is_next = refl;
    lines = subst (IsNoTextAt g (lines_of text)) (omega arith) (so_far.refused 0 (subst (λ (ls : List (List ℕ)). IsNoTextAt g ls 0) (sym is) refl));
  }
