-- The line that says why an input is refused.
use Rattle.std.specs.Prelude.{ℕ, List}
use Rattle.trace_text.specs.Report.{refusal_text}
use Rattle.trace_text.specs.ImageReport.{defect_line, version_line}
use Rattle.nvheap.specs.declared.cause.Cause.{Cause}
use Rattle.nvheap.specs.declared.cause.Cause.TheVariants.{Text, Image, Version}

abbrev pub cause_text : Cause → List ℕ
cause_text (Text refusal) = refusal_text refusal
cause_text (Image arena defect) = defect_line arena defect
cause_text (Version version) = version_line version
