use Rattle.std.proofs.Common.{ℕ, List, subst}
use Rattle.gc_check.specs.Defects.{IsFirstGcDefect}
use Rattle.gc_search.specs.Faults.{IfDefect}
use Rattle.gc_recover.proofs.recovering.recover_device.Goals as goal

pub returns-in-Err-clause-defect : goal.returns-in-Err-clause-defect
returns-in-Err-clause-defect g c = subst (λ (ws : List ℕ). IfDefect c.in-Err.fault (IsFirstGcDefect ws)) c.all_words.ensures c.in-Err.ensures.defect
