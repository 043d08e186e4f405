use Rattle.std.proofs.Common.{ℕ, List, [], Option, refl}
use Rattle.nvheap.specs.Outside.{told_by}
use Rattle.nvheap.specs.Generating.{generating}
use Rattle.nvheap.proofs.Endings.{ends_written, counts_kept}
use Rattle.nvheap.proofs.running.run_gen.Goals as goal

pub returns-in-Ok-clause-ends : goal.returns-in-Ok-clause-ends
returns-in-Ok-clause-ends g c left =
    let told = told_by (λ (l : Option (List ℕ)). l) g.K.Sink.taken g.H.Shelf.places g.H.Shelf.images in
    let images = g.H.Shelf.images in
    ends_written (generating c.args.count c.args.seed) (told left c.args.sink.now c.args.shelf.now) (told left c.write_answer.new.sink c.gen_answer.new.shelf) []
    c.in-Ok.answer c.write_answer.result (refl, refl) c.in-Ok.ensures.answer
    (counts_kept (generating c.args.count c.args.seed) [] (images c.args.shelf.now) (images c.gen_answer.new.shelf) c.in-Ok.answer (λ same. same) c.in-Ok.ensures.images)
    c.write_answer.ensures.written
