use Rattle.std.proofs.Common.{sym, ap, subst, length, arith}
use Rattle.pmem_lines.specs.Pmem.{words_of}
use Rattle.pmem_lines.specs.Steps.{IsQuietStep}
use Rattle.gc_check.specs.State.{IsEitherGcHeap}
use Rattle.gc_heap.specs.Plan.{HasGivenAs, given_events}
use Rattle.gc_heap.proofs.Sizes.{call_room, most_first}
use Rattle.gc_heap.proofs.Books.{book_root}
use Rattle.gc_heap.proofs.Carried.{gone_step}
use Rattle.gc_heap.proofs.Freed.{drops_large, drops_slab, freed_large, freed_slab, freed_block}
use Rattle.gc_heap.proofs.carrying.carry_out_given.Goals as goal

pub detach-requires-clause-room : goal.detach-requires-clause-room
detach-requires-clause-room g c = omega (arith, ap length c.requires.fresh, call_room c.requires.ready)

pub drop_extent-requires-clause-droppable : goal.drop_extent-requires-clause-droppable
drop_extent-requires-clause-droppable g c =
    let has = subst (HasGivenAs (words_of (g.P.Pmem.state c.args.device.now)) c.args.root c.requires.given.0) c.in-Granules.is c.requires.given.1 in
    drops_large c.requires.exact c.detach.ensures.words c.detach.ensures.detached c.requires.given.0 c.in-Granules.start has

pub drop_extent-requires-clause-book : goal.drop_extent-requires-clause-book
drop_extent-requires-clause-book g c = book_root c.args.log.now (words_of (g.P.Pmem.state c.args.device.now)) _ c.args.root 0 c.detach.ensures.words c.requires.given.1.rooted c.requires.book

pub drop_extent-requires-clause-room : goal.drop_extent-requires-clause-room
drop_extent-requires-clause-room g c =
    let has = subst (HasGivenAs (words_of (g.P.Pmem.state c.args.device.now)) c.args.root c.requires.given.0) c.in-Granules.is c.requires.given.1 in
    let may = drops_large c.requires.exact c.detach.ensures.words c.detach.ensures.detached c.requires.given.0 c.in-Granules.start has in
    omega (arith, ap length c.requires.fresh, call_room c.requires.ready, most_first _ may.image.formed, c.detach.ensures.step.appends.count, c.detach.ensures.step.appends.room)

pub drop_extent-requires-in-Slab-clause-droppable : goal.drop_extent-requires-in-Slab-clause-droppable
drop_extent-requires-in-Slab-clause-droppable g c =
    let has = subst (HasGivenAs (words_of (g.P.Pmem.state c.args.device.now)) c.args.root c.requires.given.0) c.in-Slab.is c.requires.given.1 in
    drops_slab c.requires.exact c.detach.ensures.words c.detach.ensures.detached c.requires.given.0 c.in-Slab.start has

pub drop_extent-requires-in-Slab-clause-book : goal.drop_extent-requires-in-Slab-clause-book
drop_extent-requires-in-Slab-clause-book g c = book_root c.args.log.now (words_of (g.P.Pmem.state c.args.device.now)) _ c.args.root 0 c.detach.ensures.words c.requires.given.1.rooted c.requires.book

pub drop_extent-requires-in-Slab-clause-room : goal.drop_extent-requires-in-Slab-clause-room
drop_extent-requires-in-Slab-clause-room g c =
    let has = subst (HasGivenAs (words_of (g.P.Pmem.state c.args.device.now)) c.args.root c.requires.given.0) c.in-Slab.is c.requires.given.1 in
    let may = drops_slab c.requires.exact c.detach.ensures.words c.detach.ensures.detached c.requires.given.0 c.in-Slab.start has in
    omega (arith, ap length c.requires.fresh, call_room c.requires.ready, most_first _ may.image.formed, c.detach.ensures.step.appends.count, c.detach.ensures.step.appends.room)

pub returns-in-Granules-clause-step : goal.returns-in-Granules-clause-step
returns-in-Granules-clause-step g c =
    let state = g.P.Pmem.state in
    let words = words_of (state c.args.device.now) in
    subst (λ what. IsQuietStep (state c.args.device.now) (state c.drop_extent.new.p) (given_events words c.args.root what) (IsEitherGcHeap words (words_of (state c.drop_extent.new.p)))) (sym c.in-Granules.is)
    (gone_step c.args.root c.in-Granules.start c.detach.ensures.detached.change.bounds c.drop_extent.ensures.dropped.heap c.detach.ensures.step c.drop_extent.ensures.step)

pub returns-in-Granules-clause-freed : goal.returns-in-Granules-clause-freed
returns-in-Granules-clause-freed g c = λ range has.
    freed_large c.requires.exact c.detach.ensures.words c.detach.ensures.detached range c.in-Granules.start _ (subst (HasGivenAs (words_of (g.P.Pmem.state c.args.device.now)) c.args.root range) c.in-Granules.is has) c.drop_extent.ensures.dropped

pub returns-in-Slab-clause-step : goal.returns-in-Slab-clause-step
returns-in-Slab-clause-step g c =
    let state = g.P.Pmem.state in
    let words = words_of (state c.args.device.now) in
    subst (λ what. IsQuietStep (state c.args.device.now) (state c.drop_extent-in-Slab.new.p) (given_events words c.args.root what) (IsEitherGcHeap words (words_of (state c.drop_extent-in-Slab.new.p)))) (sym c.in-Slab.is)
    (gone_step c.args.root c.in-Slab.start c.detach.ensures.detached.change.bounds c.drop_extent-in-Slab.ensures.dropped.heap c.detach.ensures.step c.drop_extent-in-Slab.ensures.step)

pub returns-in-Slab-clause-freed : goal.returns-in-Slab-clause-freed
returns-in-Slab-clause-freed g c = λ range has.
    freed_slab c.requires.exact c.detach.ensures.words c.detach.ensures.detached range c.in-Slab.start _ (subst (HasGivenAs (words_of (g.P.Pmem.state c.args.device.now)) c.args.root range) c.in-Slab.is has) c.drop_extent-in-Slab.ensures.dropped

pub returns-in-Block-clause-freed : goal.returns-in-Block-clause-freed
returns-in-Block-clause-freed g c = λ range has.
    freed_block c.requires.exact c.detach.ensures.words c.detach.ensures.detached range (subst (HasGivenAs (words_of (g.P.Pmem.state c.args.device.now)) c.args.root range) c.in-Block.is has)

pub returns-in-Block-clause-book : goal.returns-in-Block-clause-book
returns-in-Block-clause-book g c = book_root c.args.log.now (words_of (g.P.Pmem.state c.args.device.now)) _ c.args.root 0 c.detach.ensures.words c.requires.given.1.rooted c.requires.book
