use Rattle.std.proofs.Common.{sym, ap, subst, ◌∙◌}
use Rattle.pmem_lines.specs.Pmem.{words_of}
use Rattle.heap_model.specs.Machine.{Bounds}
use Rattle.heap_indexes.specs.Adopting.{IsAdoptable, AreAdopted}
use Rattle.gc_heap.specs.Arena.{gc_bounds, state_in}
use Rattle.gc_heap.proofs.Sizes.{bounds_first}
use Rattle.gc_heap.proofs.Adopted.{adoptable, chunks_inside}
use Rattle.gc_heap.proofs.arena.GcArena.adopt.Goals as goal

pub load-requires-clause-inside : goal.load-requires-clause-inside
load-requires-clause-inside g c = chunks_inside (words_of (g.P.Pmem.state c.args.p)) c.requires.exact

pub read_image-requires-clause-none : goal.read_image-requires-clause-none
read_image-requires-clause-none g c =
    let words = words_of (g.P.Pmem.state c.args.p) in
    let same = bounds_first words c.requires.exact.formed ∙ ap gc_bounds (c.requires.size ∙ sym c.space.view_is) in
    subst (λ (b : Bounds). AreAdopted b (state_in words) 0 0 c.space.inside.indexes) (sym same)
    (c.space.invariant.adopted (state_in words) (subst (λ (b : Bounds). IsAdoptable b (state_in words)) same (adoptable words c.requires.exact)))
