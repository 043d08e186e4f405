use Rattle.std.proofs.Common.{sym, subst}
use Rattle.heap_indexes.specs.Indexes.{HaveState}
use Rattle.heap_indexes.proofs.Placed.{slab_of, units_within, count_fits, taken_indexes}
use Rattle.heap_indexes.proofs.indexes.HeapIndexes.take_block.Goals as goal

pub mark-requires : goal.mark-requires
mark-requires c =
    let state = subst HaveState (sym c.self.view_is) c.requires.state in
    let took = c.in-Some.ensures in
    units_within state.apart state.are c.in-Some.block.start c.args.class c.in-Some.block.number c.address_of-at.result c.size_of_class.result took.slab took.within c.address_of-at.ensures c.size_of_class.ensures.size

pub raise-requires-clause-few : goal.raise-requires-clause-few
raise-requires-clause-few c =
    let state = subst HaveState (sym c.self.view_is) c.requires.state in
    let took = c.in-Some.ensures in
    count_fits state.apart state.are c.in-Some.block.start c.args.class (slab_of state.apart state.are c.in-Some.block.start c.args.class took.slab).slab

pub returns-in-Some : goal.returns-in-Some
returns-in-Some c =
    let took = c.in-Some.ensures in
    let marked = rw (c.address_of-at.ensures, c.size_of_class.ensures.size) at c.mark.ensures in
    rw (sym c.self.view_is) (record {
      took = took;
      indexes = λ b m apart are root below none. taken_indexes apart are c.take.new.self c.raise.new.self c.mark.new.self c.args.seat c.args.class c.in-Some.block root below none took marked c.raise.ensures.unfit c.raise.ensures.size c.raise.ensures.counts c.raise.ensures.normal;
    })
