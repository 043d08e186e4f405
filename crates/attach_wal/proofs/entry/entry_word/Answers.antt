use Rattle.std.proofs.Common.{subst, arith}
use Rattle.std.proofs.lemmas.Grind.{common_steps}
use Rattle.attach_wal.specs.Entry.{IsEntryWord}
use Rattle.attach_wal.proofs.Words.{IsEntryWord-entry}
use Rattle.attach_wal.proofs.entry.entry_word.Goals as goal

pub returns-in-Place-clause-inverse : goal.returns-in-Place-clause-inverse
returns-in-Place-clause-inverse c = subst (λ w. IsEntryWord w c.args.entry) (grind (arith, common_steps)) (IsEntryWord-entry c.args.entry c.requires)

pub returns-in-Move-clause-inverse : goal.returns-in-Move-clause-inverse
returns-in-Move-clause-inverse c = subst (λ w. IsEntryWord w c.args.entry) (grind (arith, common_steps)) (IsEntryWord-entry c.args.entry c.requires)
