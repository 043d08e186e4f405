use Rattle.std.proofs.Common.{sym, ap, subst, arith}
use Rattle.pmem_lines.specs.Pmem.{words_of}
use Rattle.heap_model.specs.Machine.{Bounds}
use Rattle.gc_steps.specs.Roots.{IsAttachable, IsAttached}
use Rattle.gc_heap.proofs.Books.{book_root}
use Rattle.gc_heap.proofs.Carried.{place_step}
use Rattle.gc_heap.proofs.Places.{in_reach, attachable, placed_words}
use Rattle.gc_heap.proofs.carrying.carry_out_place.Goals as goal

pub placed_of-placed-requires : goal.placed_of-placed-requires
placed_of-placed-requires g c = in_reach c.requires.exact c.args.place c.requires.place

pub word_of-word-requires-clause-reach : goal.word_of-word-requires-clause-reach
word_of-word-requires-clause-reach g c = in_reach c.requires.exact c.args.place c.requires.place

pub attach-requires-clause-attachable : goal.attach-requires-clause-attachable
attach-requires-clause-attachable g c =
    let new = words_of (g.P.Pmem.state c.prepare.new.device) in
    subst (IsAttachable new c.args.root) (sym c.word_of-word.ensures) (attachable c.requires.exact new c.args.place c.args.root c.requires.place c.prepare.ensures.prepared c.requires.rooted c.requires.none)

pub returns-clause-step : goal.returns-clause-step
returns-clause-step g c = place_step c.args.place c.args.root c.word_of-word.result c.word_of-word.ensures c.prepare.ensures.prepared c.prepare.ensures.step c.attach.ensures.step

pub returns-clause-placed : goal.returns-clause-placed
returns-clause-placed g c =
    let state = g.P.Pmem.state in
    let made = words_of (state c.prepare.new.device) in
    let last = words_of (state c.attach.new.p) in
    placed_words c.requires.exact made c.args.place c.args.root last c.requires.place c.prepare.ensures.prepared (subst (λ w. IsAttached made c.args.root w last) c.word_of-word.ensures c.attach.ensures.attached)

pub returns-clause-book : goal.returns-clause-book
returns-clause-book g c =
    let made = words_of (g.P.Pmem.state c.prepare.new.device) in
    book_root c.prepare.new.log made _ c.args.root _ c.attach.ensures.words (omega (arith, c.requires.rooted, ap (λ (b : Bounds). b.roots) c.prepare.ensures.prepared.bounds)) c.prepare.ensures.book
