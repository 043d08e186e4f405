use Rattle.std.proofs.Common.{List, ℕ}
use Rattle.pool_layout.specs.Image.{AreWordsOf}
use Rattle.nvheap.specs.declared.cause.Cause.TheVariants.{Image}
use Rattle.nvheap.specs.Recovering.{recovering}
use Rattle.nvheap.specs.Ends.{IsAnswer, IsFaultLine}
use Rattle.nvheap.proofs.Answering.{IfOk-more, IsAnswer-refused}
use Rattle.nvheap.proofs.recovering.recover_answer.Goals as goal

pub returns-in-Err-Defect-clause-answer : goal.returns-in-Err-Defect-clause-answer
returns-in-Err-Defect-clause-answer g c =
    let places = g.H.Shelf.places c.args.shelf.now in
    let cause = Image c.in-Err-Defect.arena c.in-Err-Defect.defect in
    rw c.in-Err-Defect.ensures.kept
    (IfOk-more c.fault_line.result (IsFaultLine cause) (λ answer. (image : List ℕ) → AreWordsOf c.args.words.now c.args.bytes image → IsAnswer recovering image places places answer)
    (λ answer line image are. IsAnswer-refused recovering image places cause answer ((rw c.in-Err-Defect.field-0-is at c.in-Err-Defect.ensures.defect) image are) line) c.fault_line.ensures)
