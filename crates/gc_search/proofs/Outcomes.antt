-- What an answer says, in other words.
use Rattle.std.proofs.Common.{Result, Ok, Err}
use Rattle.std.specs.Prelude.{OnOk, IfErr}

pub ok_both : {X E : Type 0} (P Q R : Type 0) (answer : Result X E) → (P → Q → R) → OnOk answer P → OnOk answer Q → OnOk answer R
ok_both P Q R (Ok x) both p q = both p q
ok_both P Q R (Err e) both p q = p

pub err_lift : {X E : Type 0} (P Q : E → Type 0) (answer : Result X E) → ((e : E) → P e → Q e) → IfErr answer P → IfErr answer Q
err_lift P Q (Ok x) lift says = says
err_lift P Q (Err e) lift says = lift e says
