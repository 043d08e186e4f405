-- What the calls of a script settle: from one place each makes one turn, and leads to one place.
use Rattle.std.proofs.Common.{◌≡◌, ◌⊎◌, ℕ, ◌*◌, List, [], ◌∷◌, ◌++◌, length, None, inl, inr, refl, sym, ap, ◌∙◌, subst, ⊎_elim, arith}
use Rattle.pmem_lines.specs.Words.{zeros}
use Rattle.dict_runs.proofs.Common.{Call, Reply, Bounds, Machine, no_heap, HasState, Stage, words_after, Pair, stage, bytes_for, HasSome, value_of, IsDict, IsNextNumber, IsFreeRoot, IsFull, Counts, block_words, Idle, IsStale, counts_once, value_counts, law_of_dicts, DictReply, Stored, Full, NoSpace, Value, Absent, Removed, dict_run_text, DictCall, Put, Get, Del, IsDictSize}
use Rattle.pmem_lines.proofs.Words.{AreZeros-zeros, length-zeros}
use Rattle.pool_layout.specs.declared.header.PoolHeader.{PoolHeader}
use Rattle.pool_layout.specs.Layout.{all_granules}
use Rattle.pool_layout.specs.Header.{IsPoolHeader}
use Rattle.heap_model.specs.declared.call.Call.TheVariants as calls
use Rattle.heap_model.specs.declared.call.Entry.{Entry}
use Rattle.heap_model.specs.declared.call.Reply.TheVariants as replies
use Rattle.heap_model.specs.Placement.{PlacedState, IsPlacedStep}
use Rattle.heap_model.specs.Journal.{IsOfBlock}
use Rattle.heap_model.proofs.Placements.{law_of_one_journal as one_journal}
use Rattle.heap_model.proofs.Sites.{neither_below}
use Rattle.image_defects.proofs.LeastNumbers.{least_once}
use Rattle.heap_check.proofs.Formatted.{law_of_formatted}
use Rattle.arena_core.specs.Events.{line_after}
use Rattle.arena_core.specs.Payload.{with_values, IsWriteOf}
use Rattle.pool_layout.specs.declared.header.PoolVariant.TheVariants.{Log}
use Rattle.arena_core.proofs.HeaderLines.{written, reading-line, formatted-written}
use Rattle.trace_runs.specs.Arenas.{bounds_for, formatted}
use Rattle.attach_dict.proofs.Room.{next_once}
use Rattle.dict_runs.specs.Acts.{Act, Ask, Fill, act_events, Standing, Leads}
use Rattle.dict_runs.specs.Laws.{LawOfOneRun, LawOfOneReport}
use Rattle.dict_runs.specs.Scripts.{IsIdle, IsFreed, IsTidied, IsStored, IsUnstored, IsRemoved, IsDone, Turn, replies_of, IsTurn, IsRun, header_of, beginning}
use Rattle.dict_runs.proofs.Runs.{empty_dict}
use Rattle.dict_runs.proofs.Sizes.{few_granules}

-- one call of the arena

entry_of : Call → Reply → Entry
entry_of call reply = record { seat = 0; call = call; reply = reply }

-- the reply of the first entry
first_reply : Reply → List Entry → Reply
first_reply reply [] = reply
first_reply reply (entry ∷ entries) = entry.reply

-- a malloc, a free or a move has one reply, and leads to one state
step_once : (b : Bounds) (s next last : PlacedState) (call : Call) (reply other : Reply) → IsOfBlock call → IsPlacedStep b 0 s call reply next → IsPlacedStep b 0 s call other last → (reply ≡ other) × (next ≡ last)
unfolding entry_of first_reply
step_once b s next last call reply other of one two =
    let same = one_journal b s next last (entry_of call reply ∷ []) (entry_of call other ∷ []) (refl, refl, of, tt) (next, one, refl) (last, two, refl) in
    (ap (first_reply reply) same.0, same.1)

-- calls of one reply that lead to one state make one stage, and lead to one place
led_once : (b : Bounds) (from : Standing) (act : Act) (reply other : Reply) (one two : Stage) (to too : Standing) → reply ≡ other → to.placed ≡ too.placed → Leads b from act reply one to → Leads b from act other two too → (one ≡ two) × (to ≡ too)
led_once b from act reply other one two to too replied placed led also =
    let begins : one.words ≡ two.words = led.begins ∙ sym also.begins in
    let events : one.events ≡ two.events = led.events ∙ (ap (act_events from.words from.line act) replied ∙ sym also.events) in
    let same : one ≡ two = λ i. record { words = begins i; events = events i } in
    let words : to.words ≡ too.words = led.words ∙ (ap words_after same ∙ sym also.words) in
    let line : to.line ≡ too.line = led.line ∙ (ap (line_after from.line) replied ∙ sym also.line) in
    (same, λ i. record { words = words i; line = line i; placed = placed i })

asked_once : (b : Bounds) (from : Standing) (call : Call) (reply other : Reply) (one two : Stage) (to too : Standing) → IsOfBlock call → Leads b from (Ask call) reply one to → Leads b from (Ask call) other two too → (reply ≡ other) × (one ≡ two) × (to ≡ too)
asked_once b from call reply other one two to too of led also =
    let same = step_once b from.placed to.placed too.placed call reply other of led.step also.step in
    let place = led_once b from (Ask call) reply other one two to too same.0 same.1 led also in
    (same.0, place.0, place.1)

-- words that were written lead to one state
wrote : (b : Bounds) (m next : Machine) (root from : ℕ) (words : List ℕ) → IsWriteOf b m root from words replies.Wrote next → next ≡ with_values m root from words
wrote b m next root from words is = ⊎_elim
    (λ none. absurd (cc (none.1.0)))
    (λ there. ⊎_elim (λ held. ⊎_elim (λ outside. absurd (cc (outside.1.0))) (λ done. done.1.1) held.1) (λ empty. absurd (cc (empty.1.0))) there.1)
    is

filled_once : (b : Bounds) (from : Standing) (root : ℕ) (words : List ℕ) (one two : Stage) (to too : Standing) → Leads b from (Fill root words) replies.Wrote one to → Leads b from (Fill root words) replies.Wrote two too → (one ≡ two) × (to ≡ too)
filled_once b from root words one two to too led also =
    let machine : to.placed.machine ≡ too.placed.machine = wrote b from.placed.machine to.placed.machine root 0 words led.step.0 ∙ sym (wrote b from.placed.machine too.placed.machine root 0 words also.step.0) in
    let stacks : to.placed.stacks ≡ too.placed.stacks = led.step.1 ∙ sym also.step.1 in
    led_once b from (Fill root words) replies.Wrote replies.Wrote one two to too refl (λ i. record { machine = machine i; stacks = stacks i }) led also

-- one call of a script

idle_once : (from : Standing) (stages others : List Stage) (to too : Standing) → IsIdle from stages to → IsIdle from others too → (stages ≡ others) × (to ≡ too)
idle_once from stages others to too one two = (one.0 ∙ sym two.0, one.1 ∙ sym two.1)

-- the lowest free root is one
free_once : (words : List ℕ) (root other : ℕ) → IsFreeRoot words root → IsFreeRoot words other → root ≡ other
free_once words root other one two = neither_below root other (λ less. taken root one (two.least root one.low less)) (λ less. taken other two (one.least other two.low less))
  where
    taken : (r : ℕ) → IsFreeRoot words r → HasSome words r → ⊥
    taken r free some = let none = free.none in let named = some.named in absurd (cc (none, named))

module _ (b : Bounds) (from : Standing) (stages others : List Stage) (to too : Standing) where
  freed_once : IsFreed b from stages to → IsFreed b from others too → (stages ≡ others) × (to ≡ too)
  freed_once one two =
      let root = least_once (IsStale from.words Idle) two.root one.root two.stale one.stale in
      let free : Leads b from (Ask (calls.Free one.root)) (replies.Freed two.at two.size) two.freed too = subst (λ (r : ℕ). Leads b from (Ask (calls.Free r)) (replies.Freed two.at two.size) two.freed too) root two.free in
      let same = asked_once b from (calls.Free one.root) (replies.Freed one.at one.size) (replies.Freed two.at two.size) one.freed two.freed to too tt one.free free in
      (one.are ∙ (ap (λ (s : Stage). s ∷ []) same.1 ∙ sym two.are), same.2)

  tidied_once : IsTidied b from stages to → IsTidied b from others too → (stages ≡ others) × (to ≡ too)
  tidied_once one two = ⊎_elim
      (λ idle. ⊎_elim (λ also. idle_once from stages others to too idle.1 also.1) (λ freed. absurd (idle.0 freed.root freed.stale.here)) two)
      (λ freed. ⊎_elim (λ idle. absurd (idle.0 freed.root freed.stale.here)) (λ also. freed_once freed also) two)
      one

  removed_once : (key : ℕ) (pairs : List Pair) → IsDict from.words pairs → IsRemoved b from key stages to → IsRemoved b from key others too → (stages ≡ others) × (to ≡ too)
  removed_once key pairs dict one two =
      let root = (counts_once from.words dict.fit two.root one.root key two.value one.value two.counts one.counts).0 in
      let free : Leads b from (Ask (calls.Free one.root)) (replies.Freed two.at two.size) two.freed too = subst (λ (r : ℕ). Leads b from (Ask (calls.Free r)) (replies.Freed two.at two.size) two.freed too) root two.free in
      let same = asked_once b from (calls.Free one.root) (replies.Freed one.at one.size) (replies.Freed two.at two.size) one.freed two.freed to too tt one.free free in
      (one.are ∙ (ap (λ (s : Stage). s ∷ []) same.1 ∙ sym two.are), same.2)

  unstored_once : (value : List ℕ) → IsUnstored b from value stages to → IsUnstored b from value others too → (stages ≡ others) × (to ≡ too)
  unstored_once value one two =
      let same = asked_once b from (calls.Malloc stage (bytes_for (length value))) replies.NoSpace replies.NoSpace one.asked two.asked to too tt one.take two.take in
      (one.are ∙ (ap (λ (s : Stage). s ∷ []) same.1 ∙ sym two.are), same.2)

-- the steps of two puts that were stored, one by one
module _ (b : Bounds) (from : Standing) (key : ℕ) (value : List ℕ) (stages others : List Stage) (to too : Standing) (one : IsStored b from key value stages to) (two : IsStored b from key value others too) where
  staged_same : (replies.Placed one.at one.size ≡ replies.Placed two.at two.size) × (one.first ≡ two.first) × (one.staged ≡ two.staged)
  staged_same = asked_once b from (calls.Malloc stage (bytes_for (length value))) (replies.Placed one.at one.size) (replies.Placed two.at two.size) one.first two.first one.staged two.staged tt one.take two.take

  number_same : two.number ≡ one.number
  number_same = next_once two.staged.words two.number one.number two.numbered (subst (λ (s : Standing). IsNextNumber s.words one.number) staged_same.2 one.numbered)

  filled_same : (one.second ≡ two.second) × (one.filled ≡ two.filled)
  filled_same = filled_once b one.staged stage (block_words key one.number value) one.second two.second one.filled two.filled one.fill
      (subst (λ (s : Standing). Leads b s (Fill stage (block_words key one.number value)) replies.Wrote two.second two.filled) (sym staged_same.2)
      (subst (λ (n : ℕ). Leads b two.staged (Fill stage (block_words key n value)) replies.Wrote two.second two.filled) number_same two.fill))

  root_same : two.root ≡ one.root
  root_same = free_once two.filled.words two.root one.root two.free (subst (λ (s : Standing). IsFreeRoot s.words one.root) filled_same.1 one.free)

  shown_same : (replies.Moved one.shown_at one.shown_size ≡ replies.Moved two.shown_at two.shown_size) × (one.third ≡ two.third) × (one.shown ≡ two.shown)
  shown_same = asked_once b one.filled (calls.Move stage one.root) (replies.Moved one.shown_at one.shown_size) (replies.Moved two.shown_at two.shown_size) one.third two.third one.shown two.shown tt one.show
      (subst (λ (s : Standing). Leads b s (Ask (calls.Move stage one.root)) (replies.Moved two.shown_at two.shown_size) two.third two.shown) (sym filled_same.1)
      (subst (λ (r : ℕ). Leads b two.filled (Ask (calls.Move stage r)) (replies.Moved two.shown_at two.shown_size) two.third two.shown) root_same two.show))

  tidied_same : (one.rest ≡ two.rest) × (to ≡ too)
  tidied_same = tidied_once b one.shown one.rest two.rest to too one.tidy (subst (λ (s : Standing). IsTidied b s two.rest too) (sym shown_same.2) two.tidy)

  stored_once : (stages ≡ others) × (to ≡ too)
  stored_once =
      let all : one.first ∷ one.second ∷ one.third ∷ one.rest ≡ two.first ∷ two.second ∷ two.third ∷ two.rest =
      λ i. staged_same.1 i ∷ filled_same.0 i ∷ shown_same.1 i ∷ tidied_same.0 i in
      (one.are ∙ (all ∙ sym two.are), tidied_same.1)

-- what a put and a removal come to, one way or another
abbrev PutWay : Bounds → Standing → ℕ → List ℕ → DictReply → List Stage → Standing → Type 0
PutWay b from key value reply stages to =
    ((reply ≡ Stored) × IsStored b from key value stages to) ⊎ (((reply ≡ Full) × IsFull from.words × IsIdle from stages to) ⊎ ((reply ≡ NoSpace) × IsUnstored b from value stages to))

put_way : (b : Bounds) (from : Standing) (pairs : List Pair) (key : ℕ) (value : List ℕ) (reply : DictReply) (stages : List Stage) (to : Standing) → IsDone b from pairs (Put key value) reply stages to → PutWay b from key value reply stages to
put_way b from pairs key value Stored stages to done = inl (refl, done)
put_way b from pairs key value Full stages to done = inr (inl (refl, done.0, done.1))
put_way b from pairs key value NoSpace stages to done = inr (inr (refl, done))
put_way b from pairs key value (Value words) stages to done = absurd done
put_way b from pairs key value Absent stages to done = absurd done
put_way b from pairs key value Removed stages to done = absurd done

abbrev DelWay : Bounds → Standing → List Pair → ℕ → DictReply → List Stage → Standing → Type 0
DelWay b from pairs key reply stages to = ((reply ≡ Removed) × IsRemoved b from key stages to) ⊎ ((reply ≡ Absent) × (value_of pairs key ≡ None) × IsIdle from stages to)

del_way : (b : Bounds) (from : Standing) (pairs : List Pair) (key : ℕ) (reply : DictReply) (stages : List Stage) (to : Standing) → IsDone b from pairs (Del key) reply stages to → DelWay b from pairs key reply stages to
del_way b from pairs key Stored stages to done = absurd done
del_way b from pairs key Full stages to done = absurd done
del_way b from pairs key NoSpace stages to done = absurd done
del_way b from pairs key (Value words) stages to done = absurd done
del_way b from pairs key Absent stages to done = inr (refl, done.0, done.1)
del_way b from pairs key Removed stages to done = inl (refl, done)

module _ (b : Bounds) (from : Standing) (pairs : List Pair) (dict : IsDict from.words pairs) (reply other : DictReply) (stages others : List Stage) (to too : Standing) where
  -- the replies, the calls of the arena and the places are the same
  abbrev AreOne : Type 0
  AreOne = (reply ≡ other) × (stages ≡ others) × (to ≡ too)

  -- a place for a pair, and none
  apart : (value : List ℕ) (key : ℕ) {one two : List Stage} {there here : Standing} → IsStored b from key value one there → IsUnstored b from value two here → ⊥
  apart value key {one} {two} {there} {here} stored not =
      let same = (asked_once b from (calls.Malloc stage (bytes_for (length value))) (replies.Placed stored.at stored.size) replies.NoSpace stored.first not.asked stored.staged here tt stored.take not.take).0 in
      absurd (cc same)

  put_once : (key : ℕ) (value : List ℕ) → PutWay b from key value reply stages to → PutWay b from key value other others too → AreOne
  put_once key value one two = ⊎_elim
      (λ stored. ⊎_elim
      (λ also. let same = stored_once b from key value stages others to too stored.1 also.1 in (stored.0 ∙ sym also.0, same.0, same.1))
      (λ rest. ⊎_elim (λ full. absurd (stored.1.room full.1)) (λ not. absurd (apart value key stored.1 not.1)) rest)
      two)
      (λ rest. ⊎_elim
      (λ full. ⊎_elim
      (λ stored. absurd (stored.1.room full.1))
      (λ rest. ⊎_elim (λ also. let same = idle_once from stages others to too full.2 also.2 in (full.0 ∙ sym also.0, same.0, same.1)) (λ not. absurd (not.1.room full.1)) rest)
      two)
      (λ not. ⊎_elim
      (λ stored. absurd (apart value key stored.1 not.1))
      (λ rest. ⊎_elim (λ full. absurd (not.1.room full.1)) (λ also. let same = unstored_once b from stages others to too value not.1 also.1 in (not.0 ∙ sym also.0, same.0, same.1)) rest)
      two)
      rest)
      one

  -- a key that a pair counts for is there
  there : (key root : ℕ) (value : List ℕ) → Counts from.words root key value → value_of pairs key ≡ None → ⊥
  there key root value counts none = value_counts from.words pairs dict key None none root counts.number value counts.pair

  del_once : (key : ℕ) → DelWay b from pairs key reply stages to → DelWay b from pairs key other others too → AreOne
  del_once key one two = ⊎_elim
      (λ gone. ⊎_elim
      (λ also. let same = removed_once b from stages others to too key pairs dict gone.1 also.1 in (gone.0 ∙ sym also.0, same.0, same.1))
      (λ not. absurd (there key gone.1.root gone.1.value gone.1.counts not.1))
      two)
      (λ not. ⊎_elim
      (λ gone. absurd (there key gone.1.root gone.1.value gone.1.counts not.1))
      (λ also. let same = idle_once from stages others to too not.2 also.2 in (not.0 ∙ sym also.0, same.0, same.1))
      two)
      one

done_once : (b : Bounds) (from : Standing) (pairs : List Pair) (call : DictCall) (reply other : DictReply) (stages others : List Stage) (to too : Standing) → IsDict from.words pairs →
    IsDone b from pairs call reply stages to → IsDone b from pairs call other others too → (reply ≡ other) × (stages ≡ others) × (to ≡ too)
done_once b from pairs (Put key value) reply other stages others to too dict one two =
    put_once b from pairs dict reply other stages others to too key value (put_way b from pairs key value reply stages to one) (put_way b from pairs key value other others too two)
done_once b from pairs (Get key) reply other stages others to too dict one two =
    let same = idle_once from stages others to too one.1 two.1 in (one.0 ∙ sym two.0, same.0, same.1)
done_once b from pairs (Del key) reply other stages others to too dict one two =
    del_once b from pairs dict reply other stages others to too key (del_way b from pairs key reply stages to one) (del_way b from pairs key other others too two)

turn_once : (b : Bounds) (from : Standing) (pairs : List Pair) (call : DictCall) (turn other : Turn) (to too : Standing) → IsDict from.words pairs → IsTurn b from pairs call turn to → IsTurn b from pairs call other too → (turn ≡ other) × (to ≡ too)
turn_once b from pairs call turn other to too dict one two =
    let same = done_once b from pairs call turn.reply other.reply turn.stages other.stages to too dict one.done two.done in
    let before : turn.before ≡ other.before = one.before ∙ sym two.before in
    let behind : turn.behind ≡ other.behind = law_of_dicts to.words turn.behind other.behind one.behind (subst (λ (s : Standing). IsDict s.words other.behind) (sym same.2) two.behind) in
    (λ i. record { reply = same.0 i; stages = same.1 i; before = before i; behind = behind i }, same.2)

-- all calls

run_once : (b : Bounds) (from : Standing) (pairs : List Pair) (calls : List DictCall) (turns others : List Turn) (to too : Standing) (last also : List Pair) → IsDict from.words pairs → IsRun b from pairs calls turns to last → IsRun b from pairs calls others too also →
    (turns ≡ others) × (to ≡ too) × (last ≡ also)
run_once b from pairs [] turns others to too last also dict one two = (one.0 ∙ sym two.0, one.1 ∙ sym two.1, one.2 ∙ sym two.2)
run_once b from pairs (call ∷ calls) [] others to too last also dict one two = absurd one
run_once b from pairs (call ∷ calls) (turn ∷ turns) [] to too last also dict one two = absurd two
run_once b from pairs (call ∷ calls) (turn ∷ turns) (other ∷ others) to too last also dict one two =
    let same = turn_once b from pairs call turn other one.0 two.0 dict one.1 two.1 in
    let there : IsRun b one.0 turn.behind calls others too also =
    subst (λ (s : Standing). IsRun b s turn.behind calls others too also) (sym same.1) (subst (λ (t : Turn). IsRun b two.0 t.behind calls others too also) (sym same.0) two.2) in
    let rest = run_once b one.0 turn.behind calls turns others to too last also one.1.behind one.2 there in
    (λ i. same.0 i ∷ rest.0 i, rest.1, rest.2)

-- an arena that was formatted just now has no block
formatted_empty : (header : PoolHeader) → IsPoolHeader header → HasState (formatted header) no_heap
unfolding formatted
formatted_empty header valid =
    let blank = zeros (2048 * header.granules) in
    subst (λ (words : List ℕ). HasState words no_heap) (sym (reading-line Log blank header))
    (law_of_formatted (written Log blank header) header (formatted-written Log blank header (AreZeros-zeros (2048 * header.granules)) valid (length-zeros (2048 * header.granules)))).1

script_header : (granules : ℕ) → IsDictSize granules → IsPoolHeader (header_of granules)
unfolding all_granules
script_header granules size = record {
  version = record { some = omega arith; most = omega arith };
  some = omega arith;
  most = omega arith;
  number = omega arith;
  least = size.least;
  greatest = size.most;
  together = let few = few_granules granules size in omega (arith, few);
}

pub law_of_one_run : LawOfOneRun
law_of_one_run granules calls turns others to too last also size one two =
    run_once (bounds_for (header_of granules)) (beginning granules) [] calls turns others to too last also (empty_dict (formatted (header_of granules)) (formatted_empty (header_of granules) (script_header granules size))) one two

pub law_of_one_report : LawOfOneReport
law_of_one_report granules calls device other old new also size one two =
    let same = law_of_one_run granules calls one.turns two.turns one.behind.to two.behind.to one.pairs two.pairs size one.behind.run two.behind.run in
    (one.text ∙ ((λ i. old ++ dict_run_text (replies_of (same.0 i)) (same.2 i)) ∙ sym two.text), one.behind.words ∙ (ap (λ (s : Standing). s.words) same.1 ∙ sym two.behind.words))
