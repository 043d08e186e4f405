-- What a fault says of an image.
use Rattle.pool_layout.specs.declared.defect.Defect.{Defect as Fault}
use Rattle.gc_search.specs.declared.fault.GcFault.{GcFault}
use Rattle.gc_search.specs.declared.fault.GcFault.TheVariants as faults

-- where the fault is a defect
abbrev pub IfDefect : GcFault → (Fault → Type 0) → Type 0
IfDefect (faults.Memory error) Is = Unit {0}
IfDefect (faults.Defect defect) Is = Is defect
