use Rattle.std.proofs.Common.{refl}
use Rattle.pmem_lines.specs.Pmem.{PmemState, words_of, began}
use Rattle.pmem_lines.specs.Steps.{IsQuietStep}
use Rattle.pmem_lines.proofs.Steps.{step_by, step_end}
use Rattle.heap_model.specs.Machine.{Range}
use Rattle.heap_check.specs.Image.{bounds_of}
use Rattle.arena_core.specs.Call.{IsReady}
use Rattle.gc_check.specs.State.{IsEitherGcHeap}
use Rattle.gc_heap.specs.Arena.{state_in, IsGcArena}
use Rattle.gc_heap.specs.Events.{freed_events}
use Rattle.gc_heap.specs.Plan.{HasGivenAs, IsFreedWords, given_events}
use Rattle.gc_heap.proofs.Answering.{IsGcArena-began, at_begin, answered_call, answered_none}
use Rattle.gc_heap.proofs.Frees.{given_as, given_are, freed_step, freed_arena, refused_events, refused_free}
use Rattle.gc_heap.proofs.Places.{apart}
use Rattle.gc_heap.proofs.Sizes.{version_first, ready_after}
use Rattle.gc_heap.proofs.arena.GcArena.free_from.Given as given
use Rattle.gc_heap.proofs.arena.GcArena.free_from.Goals as goal

pub give_back-given-requires-clause-live : goal.give_back-given-requires-clause-live
give_back-given-requires-clause-live g c =
    let words = words_of (g.P.Pmem.state c.self.inside.device) in
    record { bounds = bounds_of words; machine = state_in words; root = c.args.root; apart = apart c.self.invariant.exact; are = c.self.invariant.are; named = c.in-Ok.ensures.named }

pub carry_out_given-requires-clause-given : goal.carry_out_given-requires-clause-given
carry_out_given-requires-clause-given g c =
    let range : Range = record { at = c.in-Ok.block.at; size = c.in-Ok.block.size } in
    let has = given_as c.self.invariant.exact c.in-Ok.ensures.rooted c.in-Ok.ensures.named c.self.invariant.are c.give_back-given.ensures in
    rw c.begin.ensures.state (range, has)

-- what was done behind the begin

module _ (g : given.Over) (c : goal.After-carry_out_given g) where
  abbrev device : PmemState
  device = g.P.Pmem.state c.self.inside.device

  abbrev new : PmemState
  new = g.P.Pmem.state c.carry_out_given.new.device

  abbrev range : Range
  range = record { at = c.in-Ok.block.at; size = c.in-Ok.block.size }

  has : HasGivenAs (words_of device) c.args.root range c.give_back-given.result
  has = given_as c.self.invariant.exact c.in-Ok.ensures.rooted c.in-Ok.ensures.named c.self.invariant.are c.give_back-given.ensures

  did : IsQuietStep (began device) new (given_events (words_of device) c.args.root c.give_back-given.result) (IsEitherGcHeap (words_of device) (words_of new))
  did = at_begin device (λ s. IsQuietStep s new (given_events (words_of s) c.args.root c.give_back-given.result) (IsEitherGcHeap (words_of s) (words_of new))) c.begin.ensures.state c.carry_out_given.ensures.step

  freed : IsFreedWords (words_of device) c.args.root range (words_of new)
  freed = at_begin device (λ s. (r : Range) → HasGivenAs (words_of s) c.args.root r c.give_back-given.result → IsFreedWords (words_of s) c.args.root r (words_of new)) c.begin.ensures.state c.carry_out_given.ensures.freed range has

  ready : IsReady new
  ready = ready_after (IsGcArena-began c.self.invariant).ready did.appends.room did.quiet (version_first (words_of device) c.self.invariant.exact.formed) (version_first (words_of new) freed.image.formed)

  arena : IsGcArena new c.carry_out_given.new.log c.give_back-given.new.self
  arena = freed_arena c.self.invariant.exact has c.self.invariant.are c.give_back-given.ensures freed (step_end did).words c.carry_out_given.new.log refl ready c.carry_out_given.ensures.book c.requires c.self.invariant.sound

pub invariant_of-self : goal.invariant_of-self
invariant_of-self g c = arena g c

pub returns-in-Ok : goal.returns-in-Ok
returns-in-Ok g c =
    let words = words_of (device g c) in
    answered_call (device g c) c.self.inside.indexes c.self.view_is c.self.invariant.exact
    (step_by (given_events words c.args.root c.give_back-given.result) (freed_events words c.args.root c.in-Ok.block.at c.in-Ok.block.size) (given_are c.give_back-given.result c.self.invariant.exact (has g c)) (did g c))
    (arena g c) (freed_step c.self.invariant.exact (has g c) c.self.invariant.are c.give_back-given.ensures (freed g c) (step_end (did g c)).words)

pub returns-in-Err : goal.returns-in-Err
returns-in-Err g c =
    let words = words_of (g.P.Pmem.state c.self.inside.device) in
    answered_none (g.P.Pmem.state c.self.inside.device) c.self.inside.indexes c.self.view_is c.begin.ensures.state c.self.invariant.exact (refused_events words c.args.root c.in-Err.refusal)
    (IsGcArena-began c.self.invariant) refl (refused_free words c.args.seat c.args.root c.in-Err.refusal c.in-Err.ensures)
