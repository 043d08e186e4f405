-- How a command ends, from what was read and what was written.
use Rattle.std.proofs.Common.{◌≡◌, ℕ, List, inl, inr}
use Rattle.program_io.specs.declared.answer.Answer.{Answer}
use Rattle.program_io.specs.declared.answer.Answer.TheVariants.{Output, FaultLine}
use Rattle.program_io.specs.declared.status.Status.{Status}
use Rattle.program_io.specs.declared.status.Status.TheVariants.{Done, Usage, Refused, ReadFault, WriteFault, Memory, TooLong}
use Rattle.nvheap.specs.Outside.{Outside}
use Rattle.program_io.specs.Inputs.{limit_of, HasRead}
use Rattle.nvheap.specs.Meaning.{Meaning}
use Rattle.nvheap.specs.Ends.{IsAnswer, CountsImages, Ends}
use Rattle.program_io.specs.Ends.{IsWritten}

-- a command that wrote what it has to say
pub ends_written : (m : Meaning) (old new : Outside) (input : List ℕ) (answer : Answer) (status : Status) → HasRead (limit_of m.reads) old.left new.left input →
    IsAnswer m input old.places new.places answer → CountsImages m input old.images new.images answer → IsWritten answer old.taken new.taken status → Ends m old new status
ends_written m old new input (Output text) Done read is counts written = record { input = input; read = read; text = text.items; says = record { answers = is; images = counts }; takes = written }
ends_written m old new input (Output text) Usage read is counts written = absurd written
ends_written m old new input (Output text) Refused read is counts written = absurd written
ends_written m old new input (Output text) ReadFault read is counts written = absurd written
ends_written m old new input (Output text) WriteFault read is counts written = record { input = input; read = read; text = text.items; says = inl (record { answers = is; images = counts }); takes = written }
ends_written m old new input (Output text) Memory read is counts written = absurd written
ends_written m old new input (Output text) TooLong read is counts written = absurd written
ends_written m old new input (FaultLine text) Done read is counts written = absurd written
ends_written m old new input (FaultLine text) Usage read is counts written = absurd written
ends_written m old new input (FaultLine text) Refused read is counts written = record { input = input; read = read; text = text.items; says = is; takes = written }
ends_written m old new input (FaultLine text) ReadFault read is counts written = absurd written
ends_written m old new input (FaultLine text) WriteFault read is counts written = record { input = input; read = read; text = text.items; says = inr is; takes = written }
ends_written m old new input (FaultLine text) Memory read is counts written = absurd written
ends_written m old new input (FaultLine text) TooLong read is counts written = absurd written

-- a command that makes no device of an image
pub counts_kept : (m : Meaning) (input : List ℕ) (old new : ℕ) (answer : Answer) → (new ≡ old → m.images input old new) → new ≡ old → CountsImages m input old new answer
counts_kept m input old new (Output text) none same = none same
counts_kept m input old new (FaultLine text) none same = tt
