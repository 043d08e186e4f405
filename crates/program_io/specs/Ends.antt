-- How a run ends: its exit code, what a sink took of an answer, and why there is no input.
use Rattle.std.specs.Prelude.{ℕ, List, Option}
use Rattle.program_io.specs.declared.answer.Answer.{Answer}
use Rattle.program_io.specs.declared.answer.Answer.TheVariants.{Output, FaultLine}
use Rattle.program_io.specs.declared.status.Status.{Status}
use Rattle.program_io.specs.declared.status.Status.TheVariants.{Done, Usage, Refused, ReadFault, WriteFault, Memory, TooLong}
use Rattle.program_io.specs.Streams.{Takes, TakesFront}
use Rattle.program_io.specs.Inputs.{HasReadFew, HasReadMore}

-- the exit code
abbrev pub code_of : Status → ℕ
code_of Done = 0
code_of Usage = 1
code_of Refused = 2
code_of ReadFault = 3
code_of WriteFault = 4
code_of Memory = 5
code_of TooLong = 6

-- what a sink took of an answer, by how its writing ended: all of it, or at a fault its front
abbrev pub IsWritten : Answer → Option (List ℕ) → Option (List ℕ) → Status → Type 0
IsWritten (Output text) old new Done = Takes old new text.items
IsWritten (Output text) old new WriteFault = TakesFront old new text.items
IsWritten (FaultLine text) old new Refused = Takes old new text.items
IsWritten (FaultLine text) old new WriteFault = TakesFront old new text.items
IsWritten answer old new _ = ⊥

-- why there is no input, and what was read then, within a limit
abbrev pub IsUnread : Option ℕ → Option (List ℕ) → Option (List ℕ) → Status → Type 0
IsUnread limit old new ReadFault = HasReadFew limit old new
IsUnread limit old new Memory = Unit {0}
IsUnread limit old new TooLong = HasReadMore limit old new
IsUnread limit old new _ = ⊥
