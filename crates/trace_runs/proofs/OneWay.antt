-- From one state a call goes on one way, also where a Read may answer any word.
use Rattle.std.proofs.Common.{◌≡◌, ◌≤◌, ◌/◌, ℕ, List, [], ◌∷◌, Option, Some, None, sym, ap, ◌∙◌, refl, subst, ⊎_elim}
use Rattle.heap_model.specs.declared.call.Call.{Call}
use Rattle.heap_model.specs.declared.call.Call.TheVariants.{Malloc, Free, Write, Read, Move}
use Rattle.heap_model.specs.declared.call.Reply.{Reply}
use Rattle.heap_model.specs.declared.call.Reply.TheVariants.{NoRoot, Empty, OutOfRange}
use Rattle.heap_model.specs.declared.call.Entry.{Entry}
use Rattle.heap_model.specs.Machine.{Bounds, Range, Machine}
use Rattle.heap_model.specs.Placement.{PlacedState, IsPlacedStep}
use Rattle.heap_model.specs.Step.{First, HasBlock, IsRefused, IsOnWord}
use Rattle.heap_model.specs.Journal.{IsOfBlock}
use Rattle.heap_model.proofs.Placements.{law_of_one_journal as one_journal}
use Rattle.arena_core.specs.Events.{call_events, line_after}

-- the events of a call with either reply, the next line, and the state behind it with its stacks are the same
pub record IsOneWay (words : List ℕ) (line : ℕ) (call : Call) (reply other : Reply) (next last : PlacedState) : Type 0 where
  pub events : call_events words line call reply ≡ call_events words line call other
  pub later : line_after line reply ≡ line_after line other
  pub state : next ≡ last

-- of two rows with one condition, both take the same way
first_both : (Condition : Type 0) (Then Too : Condition → Type 0) (Else Other Goal : Type 0) → ((one two : Condition) → Then one → Too two → Goal) → (Else → Other → Goal) →
    First Condition Then Else → First Condition Too Other → Goal
first_both Condition Then Too Else Other Goal here past one two = ⊎_elim
    (λ (x : (holds : Condition) × Then holds). ⊎_elim (λ (y : (holds : Condition) × Too holds). here x.0 y.0 x.1 y.1) (λ (y : ¬ Condition × Other). absurd (y.0 x.0)) two)
    (λ (x : ¬ Condition × Else). ⊎_elim (λ (y : (holds : Condition) × Too holds). absurd (x.0 y.0)) (λ (y : ¬ Condition × Other). past x.1 y.1) two)
    one

-- a root names one block
range_or : Range → Option Range → Range
range_or range None = range
range_or range (Some other) = other

one_block : (m : Machine) (root : ℕ) (held other : HasBlock m root) → held.range ≡ other.range
unfolding range_or
one_block m root held other = ap (range_or held.range) (sym held.named ∙ other.named)

-- two answers on a word of a block, from one state: what holds of two refusals, and of two answers of the word, holds of them
module _ (b : Bounds) (m : Machine) (root index : ℕ) (P : Reply → Machine → Reply → Machine → Type 0) (alike : (reply : Reply) → P reply m reply m) where
  both_refused : (refusal reply other : Reply) (next last : Machine) → IsRefused m refusal reply next → IsRefused m refusal other last → P reply next other last
  both_refused refusal reply other next last one two =
      subst (λ (r : Reply). P r next other last) (sym one.0)
      (subst (λ (n : Machine). P refusal n other last) (sym one.1)
      (subst (λ (r : Reply). P refusal m r last) (sym two.0)
      (subst (λ (n : Machine). P refusal m refusal n) (sym two.1) (alike refusal))))

  -- the block has the word, or not
  abbrev InBlock : Reply → Machine → Type 0 → Range → Type 0
  InBlock reply next Done range = First (range.size / 8 ≤ index) (λ _. IsRefused m OutOfRange reply next) Done

  pub both_on_word : (reply other : Reply) (next last : Machine) (Done Too : Type 0) → (Done → Too → P reply next other last) → IsOnWord b m root index reply next Done → IsOnWord b m root index other last Too → P reply next other last
  both_on_word reply other next last Done Too done one two =
      let Goal : Type 0 = P reply next other last in
      let None' : Type 0 = IsRefused m Empty reply next in
      let Also : Type 0 = IsRefused m Empty other last in
      first_both (b.roots ≤ root) (λ _. IsRefused m NoRoot reply next) (λ _. IsRefused m NoRoot other last)
      (First (HasBlock m root) (λ held. InBlock reply next Done held.range) None') (First (HasBlock m root) (λ held. InBlock other last Too held.range) Also) Goal
      (λ _ _ x y. both_refused NoRoot reply other next last x y)
      (λ x y. first_both (HasBlock m root) (λ held. InBlock reply next Done held.range) (λ held. InBlock other last Too held.range) None' Also Goal
      (λ held too inside within. first_both (held.range.size / 8 ≤ index) (λ _. IsRefused m OutOfRange reply next) (λ _. IsRefused m OutOfRange other last) Done Too Goal
      (λ _ _ past beyond. both_refused OutOfRange reply other next last past beyond) done inside
      (subst (InBlock other last Too) (sym (one_block m root held too)) within))
      (λ bare' also. both_refused Empty reply other next last bare' also) x y)
      one two

-- a call that reads and writes no word
reply_of : Reply → List Entry → Reply
reply_of none [] = none
reply_of none (entry ∷ entries) = entry.reply

entry_of : ℕ → Call → Reply → Entry
entry_of seat call reply = record { seat = seat; call = call; reply = reply }

block_settled : (b : Bounds) (seat : ℕ) (s next last : PlacedState) (call : Call) (reply other : Reply) → IsOfBlock call → IsPlacedStep b seat s call reply next → IsPlacedStep b seat s call other last → (reply ≡ other) × (next ≡ last)
unfolding entry_of reply_of
block_settled b seat s next last call reply other of one two =
    let same = one_journal b s next last (entry_of seat call reply ∷ []) (entry_of seat call other ∷ []) (refl, refl, of, tt) (next, one, refl) (last, two, refl) in
    (ap (reply_of reply) same.0, same.1)

-- of a call that reads or writes a word the stacks stay
same_placed : (s next last : PlacedState) → next.machine ≡ last.machine → next.stacks ≡ s.stacks → last.stacks ≡ s.stacks → next ≡ last
same_placed s next last machine one two = let stacks : next.stacks ≡ last.stacks = one ∙ sym two in λ i. record { machine = machine i; stacks = stacks i }

-- the same reply
IsOneWay-same : (words : List ℕ) (line : ℕ) (call : Call) (reply other : Reply) (next last : PlacedState) → (reply ≡ other) × (next ≡ last) → IsOneWay words line call reply other next last
IsOneWay-same words line call reply other next last same = record { events = ap (λ r. call_events words line call r) same.0; later = ap (line_after line) same.0; state = same.1 }

pub IsOneWay-step : (b : Bounds) (words : List ℕ) (line seat : ℕ) (s next last : PlacedState) (call : Call) (reply other : Reply) → IsPlacedStep b seat s call reply next → IsPlacedStep b seat s call other last →
    IsOneWay words line call reply other next last
IsOneWay-step b words line seat s next last (Malloc root size) reply other one two = IsOneWay-same words line (Malloc root size) reply other next last (block_settled b seat s next last (Malloc root size) reply other tt one two)
IsOneWay-step b words line seat s next last (Free root) reply other one two = IsOneWay-same words line (Free root) reply other next last (block_settled b seat s next last (Free root) reply other tt one two)
IsOneWay-step b words line seat s next last (Write root index word) reply other one two =
    let same : (reply ≡ other) × (next.machine ≡ last.machine) =
    both_on_word b s.machine root index (λ r n k l. (r ≡ k) × (n ≡ l)) (λ r. (refl, refl)) reply other next.machine last.machine _ _ (λ x y. (x.0 ∙ sym y.0, x.1 ∙ sym y.1)) one.step two.step in
    IsOneWay-same words line (Write root index word) reply other next last (same.0, same_placed s next last same.1 one.stacked two.stacked)
IsOneWay-step b words line seat s next last (Read root index) reply other one two =
    let same : (line_after line reply ≡ line_after line other) × (next.machine ≡ last.machine) =
    both_on_word b s.machine root index (λ r n k l. (line_after line r ≡ line_after line k) × (n ≡ l)) (λ r. (refl, refl)) reply other next.machine last.machine _ _
    (λ x y. (ap (line_after line) x.1 ∙ sym (ap (line_after line) y.1), x.3 ∙ sym y.3)) one.step two.step in
    record { events = refl; later = same.0; state = same_placed s next last same.1 one.stacked two.stacked }
IsOneWay-step b words line seat s next last (Move from to) reply other one two = IsOneWay-same words line (Move from to) reply other next last (block_settled b seat s next last (Move from to) reply other tt one two)
