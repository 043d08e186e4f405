-- How a command ends, from what was read and what was written.
use Rattle.std.proofs.Common.{ℕ, List, Some, inl, inr}
use Rattle.program_io.specs.declared.status.Status.{Status}
use Rattle.program_io.specs.declared.status.Status.TheVariants.{Done, Usage, Refused, ReadFault, WriteFault, Memory, TooLong}
use Rattle.program_io.specs.Inputs.{HasRead, limit_of}
use Rattle.program_io.specs.declared.answer.Answer.{Answer}
use Rattle.program_io.specs.declared.answer.Answer.TheVariants.{Output, FaultLine}
use Rattle.nvpool.specs.Meaning.{Meaning}
use Rattle.nvpool.specs.Ends.{Told, IsAnswer, Ends}
use Rattle.program_io.specs.Ends.{IsWritten}

-- a command that wrote what it has to say
pub ends_written : (m : Meaning) (old new : Told) (input : List ℕ) (answer : Answer) (status : Status) → HasRead (limit_of (Some m.reads)) old.left new.left input → IsAnswer m input answer → IsWritten answer old.taken new.taken status → Ends m old new status
ends_written m old new input (Output text) Done read is written = record { input = input; read = read; text = text.items; says = is; takes = written }
ends_written m old new input (Output text) Usage read is written = absurd written
ends_written m old new input (Output text) Refused read is written = absurd written
ends_written m old new input (Output text) ReadFault read is written = absurd written
ends_written m old new input (Output text) WriteFault read is written = record { input = input; read = read; text = text.items; says = inl is; takes = written }
ends_written m old new input (Output text) Memory read is written = absurd written
ends_written m old new input (Output text) TooLong read is written = absurd written
ends_written m old new input (FaultLine text) Done read is written = absurd written
ends_written m old new input (FaultLine text) Usage read is written = absurd written
ends_written m old new input (FaultLine text) Refused read is written = record { input = input; read = read; text = text.items; says = is; takes = written }
ends_written m old new input (FaultLine text) ReadFault read is written = absurd written
ends_written m old new input (FaultLine text) WriteFault read is written = record { input = input; read = read; text = text.items; says = inr is; takes = written }
ends_written m old new input (FaultLine text) Memory read is written = absurd written
ends_written m old new input (FaultLine text) TooLong read is written = absurd written
