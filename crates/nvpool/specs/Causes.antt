-- The line that says why an input is refused.
use Rattle.std.specs.Prelude.{ℕ, List, [], ◌∷◌, ◌++◌, decimal, codes}
use Rattle.trace_text.specs.Report.{refusal_text}
use Rattle.trace_text.specs.ImageReport.{defect_line}
use Rattle.nvpool.specs.declared.cause.Cause.{Cause}
use Rattle.nvpool.specs.declared.cause.Cause.TheVariants.{Text, Image, NoArena, NoBlock}

abbrev pub cause_text : Cause → List ℕ
cause_text (Text refusal) = refusal_text refusal
cause_text (Image arena defect) = defect_line arena defect
cause_text (NoArena arena arenas) = codes "no arena " ++ decimal arena ++ codes " of " ++ decimal arenas ++ 10 ∷ []
cause_text (NoBlock arena root) = codes "arena " ++ decimal arena ++ codes " no block " ++ decimal root ++ 10 ∷ []
