use Rattle.std.proofs.Common.{ℕ, List, inr}
use Rattle.pool_layout.specs.declared.image.ImageFault.{ImageFault}
use Rattle.pool_layout.specs.Image.{AreWordsOf, IfDefect}
use Rattle.image_runs.proofs.Faults.{wider}
use Rattle.nvpool.specs.Telling.{HasUnsound, IsPoolDefect}
use Rattle.nvpool.specs.Repairing.{ArePartsRepaired, AnswersRepair}
use Rattle.nvpool.proofs.Answering.{ok_more, err_more}
use Rattle.nvpool.proofs.repairing.repair_pool.Goals as goal

pub returns-clause-repaired : goal.returns-clause-repaired
returns-clause-repaired g c =
    let rules = g.V.Variant.rules in
    let words = c.args.words.now in
    let header = c.in_ok-header.header in
    ok_more c.repair_arenas.result (λ new. ArePartsRepaired rules words header new.items) (λ new. (image : List ℕ) → AreWordsOf words c.args.bytes image → AnswersRepair rules image new.items)
    (λ new parts image are.
    let own = c.in_ok-header.ensures.image image are in
    record { words = words; header = header; image = own; repaired = record { new = parts.new; image = c.requires.keeps image words new.items header own parts; each = parts.each } })
    c.repair_arenas.ensures.repaired

pub returns-clause-defect : goal.returns-clause-defect
returns-clause-defect g c =
    let rules = g.V.Variant.rules in
    let words = c.args.words.now in
    let header = c.in_ok-header.header in
    err_more c.repair_arenas.result (λ fault. IfDefect fault (HasUnsound rules words header)) (λ fault. (image : List ℕ) → AreWordsOf words c.args.bytes image → IfDefect fault (IsPoolDefect rules image))
    (λ (fault : ImageFault) unsound image are. wider fault (HasUnsound rules words header) (IsPoolDefect rules image)
    (λ arena defect own. inr (record { words = words; header = header; image = c.in_ok-header.ensures.image image are; unsound = own }))
    unsound)
    c.repair_arenas.ensures.unsound
