use Rattle.std.proofs.Common.{ℕ, List, subst}
use Rattle.program_io.specs.declared.input.Input.TheVariants.{Text}
use Rattle.nvheap.specs.Outside.{told_by}
use Rattle.program_io.specs.Inputs.{limit_of, IsRead}
use Rattle.nvheap.specs.Meaning.{Meaning}
use Rattle.nvheap.specs.Reporting.{reporting, seats_of}
use Rattle.nvheap.specs.Ends.{IsAnswer}
use Rattle.nvheap.proofs.Endings.{ends_written, counts_kept}
use Rattle.nvheap.proofs.running.run_report.Goals as goal

pub returns-in-Ok-clause-ends : goal.returns-in-Ok-clause-ends
returns-in-Ok-clause-ends g c =
    let meaning : Meaning = reporting (seats_of c.args.crew) in
    let told = told_by g.S.Source.left g.K.Sink.taken g.H.Shelf.places g.H.Shelf.images in
    let places = g.H.Shelf.places in
    let images = g.H.Shelf.images in
    let read : IsRead (limit_of meaning.reads) (g.S.Source.left c.args.source.now) (g.S.Source.left c.input_of.new.source) (Text c.in-Ok-Text.text) = rw c.in-Ok-Text.field-0-is at c.in-Ok-Text.ensures.read in
    ends_written meaning (told c.args.source.now c.args.sink.now c.args.shelf.now) (told c.input_of.new.source c.write_answer.new.sink c.report_answer.new.shelf) read.bytes
    c.in-Ok.answer c.write_answer.result read.read
    (subst (λ (bytes : List ℕ). IsAnswer meaning bytes (places c.args.shelf.now) (places c.report_answer.new.shelf) c.in-Ok.answer) read.has c.in-Ok.ensures.answer)
    (counts_kept meaning read.bytes (images c.args.shelf.now) (images c.report_answer.new.shelf) c.in-Ok.answer (λ same. same) c.in-Ok.ensures.images)
    c.write_answer.ensures.written
