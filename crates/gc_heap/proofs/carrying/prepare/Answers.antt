use Rattle.std.proofs.Common.{sym, ap, subst, length, arith}
use Rattle.pmem_lines.specs.Pmem.{words_of}
use Rattle.heap_indexes.specs.declared.answer.Place.TheVariants.{Granules, InMorph, InNewSlab}
use Rattle.gc_heap.specs.Plan.{HasPlaceFor, IsPrepared}
use Rattle.gc_heap.proofs.Sizes.{call_room, most_first}
use Rattle.gc_heap.proofs.Books.{book_class}
use Rattle.gc_heap.proofs.Places.{slab_of_words, fit_creatable, prepared_large, prepared_morph, prepared_new}
use Rattle.gc_heap.proofs.carrying.prepare.Goals as goal

pub create_large-requires-clause-creatable : goal.create_large-requires-clause-creatable
create_large-requires-clause-creatable g c =
    let has : HasPlaceFor (words_of (g.P.Pmem.state c.args.device.now)) (Granules c.in-Granules.start c.in-Granules.granules) = subst (HasPlaceFor (words_of (g.P.Pmem.state c.args.device.now))) c.in-Granules.is c.requires.place in
    fit_creatable c.requires.exact c.in-Granules.start c.in-Granules.granules has.chosen.fit

pub create_large-requires-clause-room : goal.create_large-requires-clause-room
create_large-requires-clause-room g c = omega (arith, ap length c.requires.fresh, call_room c.requires.ready, most_first _ c.requires.exact.formed)

pub put_class-requires-clause-slab : goal.put_class-requires-clause-slab
put_class-requires-clause-slab g c =
    let words = words_of (g.P.Pmem.state c.args.device.now) in
    let has : HasPlaceFor words (InMorph c.in-InMorph.start c.in-InMorph.class c.in-InMorph.number) = subst (HasPlaceFor words) c.in-InMorph.is c.requires.place in
    slab_of_words words c.in-InMorph.start has.chosen.best.fit.class has.chosen.best.fit.slab

pub put_class-requires-clause-room : goal.put_class-requires-clause-room
put_class-requires-clause-room g c = omega (arith, ap length c.requires.fresh, call_room c.requires.ready)

pub create_slab-requires-clause-creatable : goal.create_slab-requires-clause-creatable
create_slab-requires-clause-creatable g c =
    let words = words_of (g.P.Pmem.state c.args.device.now) in
    let has : HasPlaceFor words (InNewSlab c.in-InNewSlab.start c.in-InNewSlab.class c.in-InNewSlab.number) = subst (HasPlaceFor words) c.in-InNewSlab.is c.requires.place in
    fit_creatable c.requires.exact c.in-InNewSlab.start 4 has.chosen.fit

pub create_slab-requires-clause-room : goal.create_slab-requires-clause-room
create_slab-requires-clause-room g c = omega (arith, ap length c.requires.fresh, call_room c.requires.ready, most_first _ c.requires.exact.formed)

pub returns-in-Granules-clause-prepared : goal.returns-in-Granules-clause-prepared
returns-in-Granules-clause-prepared g c =
    let state = g.P.Pmem.state in
    subst (λ p. IsPrepared (words_of (state c.args.device.now)) p (words_of (state c.create_large.new.p))) (sym c.in-Granules.is) (prepared_large c.create_large.ensures.created)

pub returns-in-Granules-clause-room : goal.returns-in-Granules-clause-room
returns-in-Granules-clause-room g c = omega (arith, ap length c.requires.fresh, call_room c.requires.ready, most_first _ c.requires.exact.formed, c.create_large.ensures.most, c.create_large.ensures.step.appends.room)

pub returns-in-InSlab-clause-room : goal.returns-in-InSlab-clause-room
returns-in-InSlab-clause-room g c = omega (arith, ap length c.requires.fresh, call_room c.requires.ready)

pub returns-in-InMorph-clause-prepared : goal.returns-in-InMorph-clause-prepared
returns-in-InMorph-clause-prepared g c =
    let state = g.P.Pmem.state in
    subst (λ p. IsPrepared (words_of (state c.args.device.now)) p (words_of (state c.put_class.new.p))) (sym c.in-InMorph.is) (prepared_morph c.in-InMorph.number c.put_class.ensures.put)

pub returns-in-InMorph-clause-book : goal.returns-in-InMorph-clause-book
returns-in-InMorph-clause-book g c =
    let words = words_of (g.P.Pmem.state c.args.device.now) in
    let has : HasPlaceFor words (InMorph c.in-InMorph.start c.in-InMorph.class c.in-InMorph.number) = subst (HasPlaceFor words) c.in-InMorph.is c.requires.place in
    book_class c.args.log.now words _ c.in-InMorph.start _ c.put_class.ensures.words c.requires.exact (slab_of_words words c.in-InMorph.start has.chosen.best.fit.class has.chosen.best.fit.slab) c.requires.book

pub returns-in-InMorph-clause-room : goal.returns-in-InMorph-clause-room
returns-in-InMorph-clause-room g c = omega (arith, ap length c.requires.fresh, call_room c.requires.ready, c.put_class.ensures.step.appends.count, c.put_class.ensures.step.appends.room)

pub returns-in-InNewSlab-clause-prepared : goal.returns-in-InNewSlab-clause-prepared
returns-in-InNewSlab-clause-prepared g c =
    let state = g.P.Pmem.state in
    subst (λ p. IsPrepared (words_of (state c.args.device.now)) p (words_of (state c.create_slab.new.p))) (sym c.in-InNewSlab.is) (prepared_new c.in-InNewSlab.number c.create_slab.ensures.created)

pub returns-in-InNewSlab-clause-room : goal.returns-in-InNewSlab-clause-room
returns-in-InNewSlab-clause-room g c = omega (arith, ap length c.requires.fresh, call_room c.requires.ready, most_first _ c.requires.exact.formed, c.create_slab.ensures.most, c.create_slab.ensures.step.appends.room)
