-- Why an arena is not migrated: it is of a later version than the first, or its image is not sound.
use Rattle.std.specs.Prelude.{◌≤◌, ℕ, List}
use Rattle.image_defects.specs.Defects.{IsFirstDefect}
use Rattle.image_check.specs.declared.fault.CheckFault.{CheckFault}
use Rattle.image_check.specs.declared.fault.CheckFault.TheVariants as checks
use Rattle.pool_migrate.specs.declared.fault.MigrateFault.{MigrateFault}
use Rattle.pool_migrate.specs.declared.fault.MigrateFault.TheVariants as faults
use Rattle.pool_migrate.specs.Migrated.{HasVersion}

-- why an arena of these words is not migrated: it is of a later version; else this is its first defect
abbrev pub IsCause : List ℕ → MigrateFault → Type 0
IsCause words (faults.Memory error) = Unit {0}
IsCause words (faults.Newer version) = (2 ≤ version) × HasVersion words version
IsCause words (faults.Defect defect) = IsFirstDefect words defect

-- the fault of the check of an arena of version 1
abbrev pub of_check : CheckFault → MigrateFault
of_check (checks.Memory error) = faults.Memory error
of_check (checks.Defect defect) = faults.Defect defect
