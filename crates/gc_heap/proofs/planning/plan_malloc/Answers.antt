use Rattle.pmem_lines.specs.Pmem.{words_of}
use Rattle.heap_check.specs.Image.{bounds_of}
use Rattle.gc_check.proofs.ExactStates.{law_of_exact_gc_state}
use Rattle.gc_heap.proofs.States.{indexes_of, have_state}
use Rattle.gc_heap.proofs.planning.plan_malloc.Goals as goal

pub place-requires-clause-state : goal.place-requires-clause-state
place-requires-clause-state g c = have_state (words_of (g.P.Pmem.state c.args.device.now)) c.args.indexes.now c.requires.exact c.requires.are

pub returns-in-Some : goal.returns-in-Some
returns-in-Some g c =
    let words = words_of (g.P.Pmem.state c.args.device.now) in
    (c.in-Ok.ensures, λ m state. c.in-Some.ensures (bounds_of words) m (law_of_exact_gc_state words m c.requires.exact state) (indexes_of state c.args.indexes.now c.requires.are))

pub returns-in-None : goal.returns-in-None
returns-in-None g c =
    let words = words_of (g.P.Pmem.state c.args.device.now) in
    (c.in-Ok.ensures, λ m state. c.in-None.ensures (bounds_of words) m (law_of_exact_gc_state words m c.requires.exact state) (indexes_of state c.args.indexes.now c.requires.are))
