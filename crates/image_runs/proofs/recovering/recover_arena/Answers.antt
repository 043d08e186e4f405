use Rattle.std.proofs.Common.{◌++◌, ◌∙◌, List, ap, sym, subst}
use Rattle.pmem_lines.specs.Pmem.{words_of}
use Rattle.pool_layout.specs.declared.image.ImageFault.{ImageFault}
use Rattle.pool_layout.specs.Image.{IfDefect}
use Rattle.heap_model.specs.declared.block.Block.{Block}
use Rattle.trace_text.specs.ImageReport.{recovered_text}
use Rattle.image_runs.specs.Checks.{IsOwnDefect}
use Rattle.image_runs.proofs.Faults.{own_defect}
use Rattle.image_runs.proofs.recovering.recover_arena.Goals as goal

pub returns-in-Err-clause-defect : goal.returns-in-Err-clause-defect
returns-in-Err-clause-defect g c =
    let words = words_of (g.P.Pmem.state c.args.device) in
    subst (λ (f : ImageFault). IfDefect f (IsOwnDefect words c.args.arena)) (sym c.fault_at.ensures) (own_defect words c.args.arena c.in-Err.fault c.in-Err.ensures.defect)

pub returns-in-Ok-write_recovered-clause-text : goal.returns-in-Ok-write_recovered-clause-text
returns-in-Ok-write_recovered-clause-text g c =
    c.in-Ok-write_recovered.ensures.text
    ∙ ap (λ (bs : List Block). c.args.text.now.items ++ recovered_text c.args.arena bs) (c.deref.ensures.value ∙ c.in-Ok.ensures.heap)
