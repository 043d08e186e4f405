-- What is asked settles the answer: mallocs, frees and moves have one reply each, and lead to one state, where a small
-- block that is given has one address.
use Rattle.std.proofs.Common.{◌≡◌, ℕ, Some, refl, sym, ap, ◌∙◌, ⊎_elim}
use Rattle.size_classes.specs.Classes.{IsClassOf}
use Rattle.heap_model.specs.declared.call.Call.{Call}
use Rattle.heap_model.specs.declared.call.Call.TheVariants.{Malloc, Free, Write, Read, Move}
use Rattle.heap_model.specs.declared.call.Reply.{Reply}
use Rattle.heap_model.specs.declared.call.Reply.TheVariants.{Placed, Freed, Moved, Occupied}
use Rattle.heap_model.specs.Machine.{Bounds, Range, Machine, with_key}
use Rattle.heap_model.specs.Slabs.{view_of}
use Rattle.heap_model.specs.Step.{First, IsRefused, HasBlock, IsGrant, forgotten, without_block, with_moved, IsStep}
use Rattle.heap_model.specs.Journal.{IsOfBlock}
use Rattle.heap_model.proofs.Sites.{site_once, site_apart}

-- two answers by one condition go the same way
pub first_once : {C E F G : Type 0} {T U : C → Type 0} → First C T E → First C U F → ((c d : C) → T c → U d → G) → (¬ C → E → F → G) → G
first_once p q both neither = ⊎_elim
    (λ yes. ⊎_elim (λ also. both yes.0 also.0 yes.1 also.1) (λ no. absurd (no.0 yes.0)) q)
    (λ no. ⊎_elim (λ yes. absurd (no.0 yes.0)) (λ also. neither no.0 no.1 also.1) q)
    p

module _ (b : Bounds) (m next last : Machine) (reply other : Reply) where
  -- the two answers, and the two states, are one
  abbrev pub SameAnswer : Type 0
  SameAnswer = (reply ≡ other) × (next ≡ last)

  refused_once : (refusal : Reply) → IsRefused m refusal reply next → IsRefused m refusal other last → SameAnswer
  refused_once refusal one two = (one.0 ∙ sym two.0, one.1 ∙ sym two.1)

  held_once : (root : ℕ) (held another : HasBlock m root) → held.range ≡ another.range
  held_once root held another = let one = held.named in let two = another.named in cc

  occupied_once : (root : ℕ) (held another : HasBlock m root) → IsRefused m (Occupied held.range.at) reply next → IsRefused m (Occupied another.range.at) other last → SameAnswer
  occupied_once root held another one two = (one.0 ∙ ap (λ (r : Range). Occupied r.at) (held_once root held another) ∙ sym two.0, one.1 ∙ sym two.1)

  -- small blocks that are given have one address
  abbrev pub HaveOnePlace : ℕ → Type 0
  HaveOnePlace size = (class at given at' given' : ℕ) → IsClassOf size class → reply ≡ Placed at given → other ≡ Placed at' given' → at ≡ at'

  grant_once : (root size : ℕ) → HaveOnePlace size → IsGrant b m root size reply next → IsGrant b m root size other last → SameAnswer
  grant_once root size place one two =
      let are = site_once (view_of b m) size one.site two.site one.chosen two.chosen (λ class least. place class _ _ _ _ least one.is two.is) in (
        one.is ∙ ap (λ (r : Range). Placed r.at r.size) are.0 ∙ sym two.is,
        one.after ∙ (λ i. record { block = with_key m.block root (Some (are.0 i)); slab = are.1 i; value = forgotten m.value root }) ∙ sym two.after,
      )

  pub step_once : (call : Call) → IsOfBlock call → ((root size : ℕ) → call ≡ Malloc root size → HaveOnePlace size) → IsStep b m call reply next → IsStep b m call other last → SameAnswer
  step_once (Malloc root size) of place one two =
      first_once one two (λ _ _. refused_once _) (λ _ x y.
      first_once x y (occupied_once root) (λ _ x y.
      first_once x y (λ _ _. refused_once _) (λ _ x y.
      first_once x y (λ _ _. refused_once _) (λ _ x y. ⊎_elim
      (λ granted. ⊎_elim (λ also. grant_once root size (place root size refl) granted also) (λ lacking. absurd (site_apart (view_of b m) size granted.site granted.chosen lacking.0)) y)
      (λ lacking. ⊎_elim (λ granted. absurd (site_apart (view_of b m) size granted.site granted.chosen lacking.0)) (λ also. refused_once _ lacking.1 also.1) y)
      x))))
  step_once (Free root) of place one two =
      first_once one two (λ _ _. refused_once _) (λ _ x y.
      first_once x y (λ held another x y.
      let same = held_once root held another in
      (x.0 ∙ ap (λ (r : Range). Freed r.at r.size) same ∙ sym y.0, x.1 ∙ ap (without_block b m root) same ∙ sym y.1)) (λ _. refused_once _))
  step_once (Write root index word) of place one two = absurd of
  step_once (Read root index) of place one two = absurd of
  step_once (Move from to) of place one two =
      first_once one two (λ _ _. refused_once _) (λ _ x y.
      first_once x y (λ held another x y.
      first_once x y (occupied_once to) (λ _ x y.
      let same = held_once from held another in
      (x.0 ∙ ap (λ (r : Range). Moved r.at r.size) same ∙ sym y.0, x.1 ∙ ap (with_moved m from to) same ∙ sym y.1))) (λ _. refused_once _))
