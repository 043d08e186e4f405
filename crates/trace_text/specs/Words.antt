-- The text of a call, which traces and reports share.
use Rattle.std.specs.Prelude.{ℕ, List, ◌∷◌, ◌++◌, decimal, codes}
use Rattle.heap_model.specs.declared.call.Call.{Call}
use Rattle.heap_model.specs.declared.call.Call.TheVariants.{Malloc, Free, Write, Read, Move}

-- what is asked: `m R S`, `f R`, `w R I V`, `r R I` or `v R Q`
abbrev pub call_text : Call → List ℕ
call_text (Malloc root size) = codes "m " ++ decimal root ++ 32 ∷ decimal size
call_text (Free root) = codes "f " ++ decimal root
call_text (Write root index value) = codes "w " ++ decimal root ++ 32 ∷ decimal index ++ 32 ∷ decimal value
call_text (Read root index) = codes "r " ++ decimal root ++ 32 ∷ decimal index
call_text (Move from to) = codes "v " ++ decimal from ++ 32 ∷ decimal to
