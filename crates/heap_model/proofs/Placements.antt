-- The placement leaves nothing open: each call has one address for a small block, and leads to the same stacks.
use Rattle.std.proofs.Common.{◌≡◌, ◌⊎◌, ℕ, ◌+◌, ◌-◌, List, [], ◌∷◌, refl, sym, ap, ◌∙◌, subst, arith, ⊎_elim}
use Rattle.size_classes.specs.Classes.{class_size, IsClassOf}
use Rattle.size_classes.proofs.Spacing.{class_size-rises}
use Rattle.heap_model.specs.declared.call.Call.{Call}
use Rattle.heap_model.specs.declared.call.Call.TheVariants.{Malloc, Free, Write, Read, Move}
use Rattle.heap_model.specs.declared.call.Reply.{Reply}
use Rattle.heap_model.specs.declared.call.Reply.TheVariants.{Placed, Freed}
use Rattle.heap_model.specs.declared.call.Entry.{Entry}
use Rattle.heap_model.specs.Machine.{Bounds, Range, Machine, slab_block, IsBlockOf, IsFreeGranule}
use Rattle.heap_model.specs.Choice.{View, block_view}
use Rattle.heap_model.specs.Slabs.{view_of}
use Rattle.heap_model.specs.Placement.{Stacks, PlacedState, with_stack, without_slab, without_left, with_class, addresses, IsAvailable, IsNext, AreLowest, IsRefill, HasTop, IsFirstSeat, HasStacked, IsPop, IsMorphRefill, IsNewRefill, IsWay, GaveSmall, IsKeepable, IsReturned, IsStacked, IsPlacedStep}
use Rattle.heap_model.specs.Journal.{Leads, IsEntry, IsPlacedEntry, IsOfBlock, LawOfOneJournal}
use Rattle.heap_model.proofs.Sites.{best_once, class_known, neither_below, class_once, best_slab_once}
use Rattle.heap_model.proofs.Settled.{first_once, step_once}

-- the next number is one
next_once : (Passes : ℕ → Type 0) (low number other : ℕ) → IsNext Passes low number → IsNext Passes low other → number ≡ other
next_once Passes low number other one two = neither_below number other (λ less. two.first number one.from less one.passes) (λ less. one.first other two.from less two.passes)

-- the lowest numbers are one list
lowest_once : (Passes : ℕ → Type 0) (low most : ℕ) (numbers others : List ℕ) → AreLowest Passes low most numbers → AreLowest Passes low most others → numbers ≡ others
lowest_once Passes low most [] [] one two = refl
lowest_once Passes low most [] (other ∷ others) one two = absurd (⊎_elim (λ none. omega (arith, none, two.0)) (λ none. none other two.1.from two.1.passes) one)
lowest_once Passes low most (number ∷ numbers) [] one two = absurd (⊎_elim (λ none. omega (arith, none, one.0)) (λ none. none number one.1.from one.1.passes) two)
lowest_once Passes low most (number ∷ numbers) (other ∷ others) one two =
    let same = next_once Passes low number other one.1 two.1 in
    let rest = lowest_once Passes (number + 1) (most - 1) numbers others one.2 (subst (λ (n : ℕ). AreLowest Passes (n + 1) (most - 1) others) (sym same) two.2) in
    λ i. same i ∷ rest i

-- an address and the stacks behind it are one
abbrev AreOne : ℕ → ℕ → Stacks → Stacks → Type 0
AreOne at other after later = (at ≡ other) × (after ≡ later)

-- the list behind the first of a list
tail_of : List ℕ → List ℕ
tail_of [] = []
tail_of (top ∷ rest) = rest

head_of : List ℕ → ℕ
head_of [] = 0
head_of (top ∷ rest) = top

refill_once : (v : View) (stacks : Stacks) (seat class at other : ℕ) (after later : Stacks) → IsRefill (block_view v) stacks seat class at after → IsRefill (block_view v) stacks seat class other later → AreOne at other after later
unfolding head_of tail_of
refill_once v stacks seat class at other after later one two =
    let start = neither_below one.start two.start (λ less. two.lowest one.start one.number less one.slab one.taken.1.passes) (λ less. one.lowest two.start two.number less two.slab two.taken.1.passes) in
    let taken : AreLowest (IsAvailable (block_view v) stacks one.start class) 0 8 (two.number ∷ two.rest) = subst (λ (s : ℕ). AreLowest (IsAvailable (block_view v) stacks s class) 0 8 (two.number ∷ two.rest)) (sym start) two.taken in
    let same = lowest_once (IsAvailable (block_view v) stacks one.start class) 0 8 (one.number ∷ one.rest) (two.number ∷ two.rest) one.taken taken in (
      one.is ∙ (λ i. (slab_block (start i) class (head_of (same i))).at) ∙ sym two.is,
      one.after_is ∙ (λ i. with_stack stacks seat class (addresses (start i) class (tail_of (same i)))) ∙ sym two.after_is,
    )

-- a stack gives one top
pop_once : {stacks : Stacks} {seat class : ℕ} (one two : HasTop stacks seat class) (at other : ℕ) (after later : Stacks) → IsPop one at after → IsPop two other later → AreOne at other after later
unfolding head_of tail_of
pop_once {stacks} {seat} {class} one two at other after later gives too =
    let same = sym one.is ∙ two.is in (
      gives.0 ∙ (λ i. head_of (same i)) ∙ sym too.0,
      gives.1 ∙ (λ i. with_stack stacks seat class (tail_of (same i))) ∙ sym too.1,
    )

-- the first seat is one
seat_once : (stacks : Stacks) (class seat other : ℕ) → IsFirstSeat stacks class seat → IsFirstSeat stacks class other → seat ≡ other
seat_once stacks class seat other one two = neither_below seat other (λ less. two.first seat less one.top) (λ less. one.first other less two.top)

stacked_once : (stacks : Stacks) (class : ℕ) (one two : HasStacked stacks class) (at other : ℕ) (after later : Stacks) → IsPop one.first.top at after → IsPop two.first.top other later → AreOne at other after later
stacked_once stacks class one two at other after later gives too =
    let Gives : ℕ → Type 0 = λ seat. (top : HasTop stacks seat class) × IsPop top other later in
    let here = subst Gives (sym (seat_once stacks class one.seat two.seat one.first two.first)) (two.first.top, too) in
    pop_once one.first.top here.0 at other after later gives here.1

module _ (b : Bounds) (was : PlacedState) (seat class : ℕ) where
  -- a slab takes a class, or is made, in one way
  taken_once : (at other : ℕ) (after later : Stacks) → IsMorphRefill b was seat class at after ⊎ IsNewRefill b was seat class at after →
      IsMorphRefill b was seat class other later ⊎ IsNewRefill b was seat class other later → AreOne at other after later
  taken_once at other after later one two = ⊎_elim
      (λ (morph : IsMorphRefill b was seat class at after). ⊎_elim
      (λ (also : IsMorphRefill b was seat class other later).
      let start = best_slab_once (view_of b was.machine) class also.start morph.start also.best morph.best in
      refill_once (view_of b (with_class was.machine morph.start class)) (without_slab was.stacks morph.start) seat class at other after later morph.refill
      (subst (λ (s : ℕ). IsRefill (block_view (view_of b (with_class was.machine s class))) (without_slab was.stacks s) seat class other later) start also.refill))
      (λ (new : IsNewRefill b was seat class other later). absurd (new.no_fit.none morph.start morph.best.fit))
      two)
      (λ (new : IsNewRefill b was seat class at after). ⊎_elim
      (λ (morph : IsMorphRefill b was seat class other later). absurd (new.no_fit.none morph.start morph.best.fit))
      (λ (also : IsNewRefill b was seat class other later).
      let start = best_once (IsFreeGranule b was.machine) 4 also.start new.start also.fit new.fit in
      refill_once (view_of b (with_class was.machine new.start class)) was.stacks seat class at other after later new.refill
      (subst (λ (s : ℕ). IsRefill (block_view (view_of b (with_class was.machine s class))) was.stacks seat class other later) start also.refill))
      two)
      one

  way_once : (at other : ℕ) (after later : Stacks) → IsWay b was seat class at after → IsWay b was seat class other later → AreOne at other after later
  way_once at other after later one two =
      first_once one two (λ top also x y. pop_once top also at other after later x y) (λ _ x y.
      first_once x y (λ _ _. refill_once (view_of b was.machine) was.stacks seat class at other after later) (λ _ x y.
      first_once x y (λ stacked also x y. stacked_once was.stacks class stacked also at other after later x y) (λ _. taken_once at other after later)))

-- a block is of one class
block_class : (range : Range) (s t c d : ℕ) → IsBlockOf s c range → IsBlockOf t d range → c ≡ d
block_class range s t c d one two =
    let size : class_size c ≡ class_size d = sym (ap (λ (r : Range). r.size) one.is) ∙ ap (λ (r : Range). r.size) two.is in
    neither_below c d (λ less. omega (arith, size, class_size-rises c d less (class_known d two.number two.within))) (λ less. omega (arith, size, class_size-rises d c less (class_known c one.number one.within)))

-- a freed block goes on one stack
returned_once : (m : Machine) (stacks : Stacks) (seat : ℕ) (range : Range) (after later : Stacks) → IsReturned m stacks seat range after → IsReturned m stacks seat range later → after ≡ later
returned_once m stacks seat range after later one two =
    first_once one two (λ (keep also : IsKeepable m stacks seat range) x y. x ∙ ap (λ c. with_stack stacks seat c (range.at ∷ stacks seat c)) (block_class range keep.start also.start keep.class also.class keep.block also.block) ∙ sym y) (λ _ x y. x ∙ sym y)

-- two places of one state are one
place_once : (one two : PlacedState) → one.machine ≡ two.machine → one.stacks ≡ two.stacks → one ≡ two
place_once one two machine stacks = λ i. record { machine = machine i; stacks = stacks i }

module _ (b : Bounds) (seat : ℕ) (was next last : PlacedState) where
  -- two mallocs of one size that gave small blocks gave one, and left the same stacks
  gave_once : (size : ℕ) (reply other : Reply) (gave : GaveSmall size reply) (also : GaveSmall size other) → IsWay b was seat gave.class gave.at next.stacks → IsWay b was seat also.class also.at last.stacks →
      AreOne gave.at also.at next.stacks last.stacks
  gave_once size reply other gave also one two =
      way_once b was seat gave.class gave.at also.at next.stacks last.stacks one
      (subst (λ (c : ℕ). IsWay b was seat c also.at last.stacks) (class_once size also.class gave.class also.least gave.least) two)

  malloc_place : (root size : ℕ) (reply other : Reply) → IsStacked b seat was (Malloc root size) reply next → IsStacked b seat was (Malloc root size) other last →
      (class at given at' given' : ℕ) → IsClassOf size class → reply ≡ Placed at given → other ≡ Placed at' given' → at ≡ at'
  malloc_place root size reply other one two class at given at' given' least is too = ⊎_elim
      (λ gave. ⊎_elim
      (λ also. let same = (gave_once size reply other gave.0 also.0 gave.1 also.1).0 in let first = gave.0.is in let second = also.0.is in cc)
      (λ none. absurd (none.0 (record { class = class; least = least; at = at'; given = given'; is = too })))
      two)
      (λ none. absurd (none.0 (record { class = class; least = least; at = at; given = given; is = is })))
      one

  -- calls with one reply that lead to one state leave the same stacks
  stacks_once : (call : Call) (reply : Reply) → IsOfBlock call → IsStacked b seat was call reply next → IsStacked b seat was call reply last → next.machine ≡ last.machine → next.stacks ≡ last.stacks
  stacks_once (Malloc root size) reply of one two same = first_once one two (λ gave also x y. (gave_once size reply reply gave also x y).1) (λ _ x y. x ∙ sym y)
  stacks_once (Free root) reply of one two same =
      first_once one two
      (λ took also x y.
      let both : Freed also.range.at also.range.size ≡ Freed took.range.at took.range.size = sym also.is ∙ took.is in
      let at : also.range.at ≡ took.range.at = cc in
      let size : also.range.size ≡ took.range.size = cc in
      let range : also.range ≡ took.range = (λ i. record { at = at i; size = size i }) in
      returned_once next.machine (without_left b was.machine next.machine was.stacks) seat took.range next.stacks last.stacks x
      (subst (λ (m : Machine). IsReturned m (without_left b was.machine m was.stacks) seat took.range last.stacks) (sym same)
      (subst (λ (r : Range). IsReturned last.machine (without_left b was.machine last.machine was.stacks) seat r last.stacks) range y)))
      (λ _ x y. x ∙ sym y)
  stacks_once (Write root index word) reply of one two same = absurd of
  stacks_once (Read root index) reply of one two same = absurd of
  stacks_once (Move from to) reply of one two same = one ∙ sym two

  placed_once : (call : Call) (reply other : Reply) → IsOfBlock call → IsPlacedStep b seat was call reply next → IsPlacedStep b seat was call other last → (reply ≡ other) × (next ≡ last)
  placed_once call reply other of one two =
      let same = step_once b was.machine next.machine last.machine reply other call of (λ root size is. place call one two root size is) one.step two.step in
      let stacked : IsStacked b seat was call reply last = subst (λ (r : Reply). IsStacked b seat was call r last) (sym same.0) two.stacked in
      (same.0, place_once next last same.1 (stacks_once call reply of one.stacked stacked same.1))
    where
      place : (call : Call) → IsPlacedStep b seat was call reply next → IsPlacedStep b seat was call other last → (root size : ℕ) → call ≡ Malloc root size →
          (class at given at' given' : ℕ) → IsClassOf size class → reply ≡ Placed at given → other ≡ Placed at' given' → at ≡ at'
      place call one two root size is = malloc_place root size reply other (subst (λ (c : Call). IsStacked b seat was c reply next) is one.stacked) (subst (λ (c : Call). IsStacked b seat was c other last) is two.stacked)

-- entries of the same seat, call and reply are one
entry_once : (entry other : Entry) → entry.seat ≡ other.seat → entry.call ≡ other.call → entry.reply ≡ other.reply → entry ≡ other
entry_once entry other seat call reply = λ i. record { seat = seat i; call = call i; reply = reply i }

pub law_of_one_journal : LawOfOneJournal
law_of_one_journal b s last other [] [] same first second = (refl, first ∙ sym second)
law_of_one_journal b s last other [] (entry ∷ others) same first second = absurd same
law_of_one_journal b s last other (entry ∷ entries) [] same first second = absurd same
law_of_one_journal b s last other (entry ∷ entries) (another ∷ others) same first second =
    let seat : IsPlacedStep b entry.seat s another.call another.reply second.0 = subst (λ (t : ℕ). IsPlacedStep b t s another.call another.reply second.0) (sym same.0) second.1 in
    let again : IsPlacedStep b entry.seat s entry.call another.reply second.0 = subst (λ (c : Call). IsPlacedStep b entry.seat s c another.reply second.0) (sym same.1) seat in
    let step = placed_once b entry.seat s first.0 second.0 entry.call entry.reply another.reply same.2 first.1 again in
    let rest = law_of_one_journal b first.0 last other entries others same.3 first.2 (subst (λ (n : PlacedState). Leads (IsPlacedEntry b) n others other) (sym step.1) second.2) in
    (λ i. entry_once entry another same.0 same.1 step.0 i ∷ rest.0 i, rest.1)

-- a journal of the placement is one of the machine
pub Leads-machine : (b : Bounds) (s last : PlacedState) (entries : List Entry) → Leads (IsPlacedEntry b) s entries last → Leads (IsEntry b) s.machine entries last.machine
Leads-machine b s last [] leads = ap (λ (t : PlacedState). t.machine) leads
Leads-machine b s last (entry ∷ entries) leads = (leads.0.machine, leads.1.step, Leads-machine b leads.0 last entries leads.2)
