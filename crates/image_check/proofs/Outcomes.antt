-- What an answer says, in other words.
use Rattle.std.proofs.Common.{Result, Ok, Err}
use Rattle.std.specs.Prelude.{OnOk, IfErr}
use Rattle.pool_layout.specs.declared.defect.Defect.{Defect as Fault}
use Rattle.image_check.specs.declared.fault.CheckFault.{CheckFault}
use Rattle.image_check.specs.declared.fault.CheckFault.TheVariants as faults
use Rattle.image_check.specs.Faults.{IfDefect}

pub defect_lift : {X : Type 0} (P Q : Fault → Type 0) (answer : Result X CheckFault) → ((d : Fault) → P d → Q d) → IfErr answer (λ fault. IfDefect fault P) → IfErr answer (λ fault. IfDefect fault Q)
defect_lift P Q (Ok x) lift says = says
defect_lift P Q (Err (faults.Memory error)) lift says = says
defect_lift P Q (Err (faults.Defect d)) lift says = lift d says

pub ok_both : {X : Type 0} (P Q R : Type 0) (answer : Result X CheckFault) → (P → Q → R) → OnOk answer P → OnOk answer Q → OnOk answer R
ok_both P Q R (Ok x) both p q = both p q
ok_both P Q R (Err fault) both p q = p
