use Rattle.std.proofs.Common.{subst, sym}
use Rattle.image_runs.specs.Migrations.{IsOwnWhyNot}
use Rattle.image_runs.proofs.Migrations.{own_fault}
use Rattle.image_runs.proofs.migrating.add_migration.Goals as goal

pub returns-in-Err-clause-refused : goal.returns-in-Err-clause-refused
returns-in-Err-clause-refused c = subst (IsOwnWhyNot c.args.words.now c.args.arena) (sym c.pool_fault.ensures) (own_fault c.args.words.now c.args.arena c.in-Err.fault c.in-Err.ensures.refused)
