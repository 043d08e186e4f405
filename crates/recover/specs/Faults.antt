-- Why a device was not recovered: the fault of the check of its image, or want of memory.
use Rattle.pool_layout.specs.declared.defect.Defect.{Defect as Fault}
use Rattle.image_check.specs.declared.fault.CheckFault.{CheckFault}
use Rattle.image_check.specs.declared.fault.CheckFault.TheVariants as checks
use Rattle.recover.specs.declared.fault.RecoverFault.{RecoverFault}
use Rattle.recover.specs.declared.fault.RecoverFault.TheVariants as faults

-- the fault of a check
abbrev pub fault_of : CheckFault → RecoverFault
fault_of (checks.Memory error) = faults.Memory error
fault_of (checks.Defect defect) = faults.Defect defect

-- where the fault is a defect
abbrev pub IfDefect : RecoverFault → (Fault → Type 0) → Type 0
IfDefect (faults.Memory error) Is = Unit {0}
IfDefect (faults.Defect defect) Is = Is defect
