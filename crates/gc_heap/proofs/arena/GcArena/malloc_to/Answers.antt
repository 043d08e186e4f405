use Rattle.std.proofs.Common.{◌≡◌, ◌++◌, ◌∙◌, refl, sym, ap, subst}
use Rattle.pmem_lines.specs.Pmem.{PmemState, words_of, began}
use Rattle.pmem_lines.specs.Steps.{IsQuietStep}
use Rattle.pmem_lines.proofs.Steps.{step_by, step_end}
use Rattle.heap_model.specs.declared.call.Call.TheVariants as calls
use Rattle.heap_model.specs.declared.call.Reply.TheVariants as replies
use Rattle.heap_model.specs.Choice.{range_of}
use Rattle.block_supply.specs.Supply.{Supply}
use Rattle.thread_cache.specs.Stacks.{stacks_of}
use Rattle.heap_indexes.specs.Steps.{site_of}
use Rattle.arena_core.specs.Call.{IsReady}
use Rattle.gc_check.specs.State.{IsEitherGcHeap}
use Rattle.gc_steps.specs.Roots.{root_events}
use Rattle.gc_heap.specs.Answered.{IsGcStepOf}
use Rattle.gc_heap.specs.Arena.{IsGcArena}
use Rattle.gc_heap.specs.Events.{gc_call_events}
use Rattle.gc_heap.specs.Plan.{IsPlacedWords, word_of_place, prepare_events}
use Rattle.gc_heap.proofs.Answering.{IsGcArena-began, at_begin, answered_call, answered_none}
use Rattle.gc_heap.proofs.Mallocs.{place_for, placed_are, placed_step, placed_arena, refused_events, refused_malloc, refused_supply, refused_arena}
use Rattle.gc_heap.proofs.Sizes.{version_first, ready_after}
use Rattle.gc_heap.proofs.arena.GcArena.malloc_to.Given as given
use Rattle.gc_heap.proofs.arena.GcArena.malloc_to.Goals as goal

pub carry_out_place-requires-clause-place : goal.carry_out_place-requires-clause-place
carry_out_place-requires-clause-place g c = rw c.begin.ensures.state (place_for c.in-Ok.ensures.1)

-- what was done behind the begin

module _ (g : given.Over) (c : goal.After-carry_out_place g) where
  abbrev device : PmemState
  device = g.P.Pmem.state c.self.inside.device

  abbrev new : PmemState
  new = g.P.Pmem.state c.carry_out_place.new.device

  did : IsQuietStep (began device) new (prepare_events (words_of device) c.in-Ok.place ++ root_events c.args.root (word_of_place c.in-Ok.place)) (IsEitherGcHeap (words_of device) (words_of new))
  did = at_begin device (λ s. IsQuietStep s new (prepare_events (words_of s) c.in-Ok.place ++ root_events c.args.root (word_of_place c.in-Ok.place)) (IsEitherGcHeap (words_of s) (words_of new))) c.begin.ensures.state c.carry_out_place.ensures.step

  placed : IsPlacedWords (words_of device) c.args.root c.in-Ok.place (words_of new)
  placed = at_begin device (λ s. IsPlacedWords (words_of s) c.args.root c.in-Ok.place (words_of new)) c.begin.ensures.state c.carry_out_place.ensures.placed

  ready : IsReady new
  ready = ready_after (IsGcArena-began c.self.invariant).ready did.appends.room did.quiet (version_first (words_of device) c.self.invariant.exact.formed) (version_first (words_of new) placed.image.formed)

  arena : IsGcArena new c.carry_out_place.new.log c.plan_malloc-plan.new.indexes
  arena = placed_arena c.self.invariant.exact c.in-Ok.ensures.0 c.in-Ok.ensures.1 placed (step_end did).words c.carry_out_place.new.log refl ready c.carry_out_place.ensures.book c.requires c.self.invariant.sound

  -- the reply names the block
  reply_is : replies.Placed (range_of (site_of c.in-Ok.place)).at (range_of (site_of c.in-Ok.place)).size ≡ replies.Placed c.carry_out_place.result.at c.carry_out_place.result.size
  reply_is = λ i. replies.Placed (sym c.carry_out_place.ensures.at i) (sym c.carry_out_place.ensures.size i)

pub invariant_of-self : goal.invariant_of-self
invariant_of-self g c = arena g c

pub returns-in-Ok : goal.returns-in-Ok
returns-in-Ok g c =
    let words = words_of (device g c) in
    let place = c.in-Ok.place in
    let call = calls.Malloc c.args.root c.args.size in
    let to = placed_step c.self.invariant.exact c.in-Ok.ensures.0 c.in-Ok.ensures.1 (placed g c) (step_end (did g c)).words in
    let events = placed_are place c.args.root c.self.invariant.exact c.self.invariant.sound c.in-Ok.ensures.1 in
    answered_call (device g c) c.self.inside.indexes c.self.view_is c.self.invariant.exact
    (step_by (prepare_events words place ++ root_events c.args.root (word_of_place place)) (gc_call_events words call (replies.Placed c.carry_out_place.result.at c.carry_out_place.result.size)) (events ∙ ap (gc_call_events words call) (reply_is g c)) (did g c))
    (arena g c)
    (subst (λ reply. IsGcStepOf c.args.seat words (stacks_of c.self.inside.indexes.supply.stacks) (words_of (new g c)) (stacks_of c.plan_malloc-plan.new.indexes.supply.stacks) call reply) (reply_is g c) to)

pub returns-in-Err : goal.returns-in-Err
returns-in-Err g c =
    let words = words_of (g.P.Pmem.state c.self.inside.device) in
    let old = c.self.inside.indexes in
    let left = c.plan_malloc-plan.new.indexes in
    answered_none (g.P.Pmem.state c.self.inside.device) c.self.inside.indexes c.self.view_is c.begin.ensures.state c.self.invariant.exact (refused_events words c.args.root c.args.size c.in-Err.refusal)
    (refused_arena words c.args.seat c.args.root c.args.size old left c.in-Err.refusal refl c.in-Err.ensures (IsGcArena-began c.self.invariant)) (ap (λ (s : Supply). stacks_of s.stacks) (refused_supply words c.args.seat c.args.root c.args.size old left c.in-Err.refusal c.in-Err.ensures)) (refused_malloc words c.args.seat c.args.root c.args.size old left c.in-Err.refusal c.in-Err.ensures)
