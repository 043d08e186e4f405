use Rattle.std.proofs.Common.{ℕ, List, subst}
use Rattle.pmem_lines.specs.Pmem.{words_of}
use Rattle.heap_check.specs.Image.{header_in, IsSoundImage}
use Rattle.image_defects.specs.Defects.{IsFirstDefect}
use Rattle.recover.specs.Faults.{IfDefect}
use Rattle.recover.proofs.recovering.recover.Goals as goal

pub recover_prepared-requires-clause-room : goal.recover_prepared-requires-clause-room
recover_prepared-requires-clause-room g c =
    let words = words_of (g.P.Pmem.state c.args.p) in
    let sound : IsSoundImage words = subst IsSoundImage c.all_words.ensures c.in-Ok.ensures.sound in
    c.requires.room (header_in words) sound.formed.header

pub returns-in-Err-clause-defect : goal.returns-in-Err-clause-defect
returns-in-Err-clause-defect g c = subst (λ (ws : List ℕ). IfDefect c.in-Err.fault (IsFirstDefect ws)) c.all_words.ensures c.in-Err.ensures.defect
