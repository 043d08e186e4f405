use Rattle.nvpool.specs.declared.cause.Cause.TheVariants.{Image}
use Rattle.nvpool.specs.Telling.{telling_by}
use Rattle.nvpool.proofs.Answering.{refused_image}
use Rattle.nvpool.proofs.telling.told_by.Goals as goal

pub returns-in-Err-Defect : goal.returns-in-Err-Defect
returns-in-Err-Defect g c =
    refused_image (telling_by g.V.Variant.rules c.args.form) c.args.words.now c.args.bytes (Image c.in-Err-Defect.arena c.in-Err-Defect.defect) c.fault_line.result (rw c.in-Err-Defect.field-0-is at c.in-Err-Defect.ensures.defect) c.fault_line.ensures
