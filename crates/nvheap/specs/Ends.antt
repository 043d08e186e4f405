-- How a run ends, whichever command it is of: what each status says of the words, the input, the output and the shelf.
use Rattle.std.specs.Prelude.{◌≡◌, ◌⊎◌, ℕ, List, Option}
use Rattle.trace_text.specs.declared.call.Refusal.TheVariants.{BadLine}
use Rattle.program_io.specs.declared.answer.Answer.{Answer}
use Rattle.program_io.specs.declared.answer.Answer.TheVariants.{Output, FaultLine}
use Rattle.nvheap.specs.declared.cause.Cause.{Cause}
use Rattle.nvheap.specs.declared.cause.Cause.TheVariants.{Text}
use Rattle.program_io.specs.declared.status.Status.{Status}
use Rattle.program_io.specs.declared.status.Status.TheVariants.{Done, Usage, Refused, ReadFault, WriteFault, Memory, TooLong}
use Rattle.nvheap.specs.Outside.{Outside}
use Rattle.program_io.specs.Streams.{Takes, TakesFront}
use Rattle.program_io.specs.Inputs.{limit_of, HasLeft, HasRead, HasReadFew, HasReadMore}
use Rattle.nvheap.specs.Causes.{cause_text}
use Rattle.nvheap.specs.Meaning.{Places, Meaning}

-- the text is the output on an input, with what is left on the shelf, and with the images counted
pub record IsOutput (m : Meaning) (old new : Outside) (input text : List ℕ) : Type 0 where
  pub answers : m.answers input text old.places new.places
  pub images : m.images input old.images new.images

-- the text is the line that says why an input is refused, and the shelf's places are as they were
pub record SaysWhy (m : Meaning) (old new : Places) (input text : List ℕ) : Type 0 where
  pub why : Cause
  pub cause : m.refuses input why
  pub line : text ≡ cause_text why
  pub aside : new ≡ old

-- the input was read, this holds of it and a text, and the text was taken so far
pub record HasSaid (m : Meaning) (old new : Outside) (Says : List ℕ → List ℕ → Type 0) (Taken : Option (List ℕ) → Option (List ℕ) → List ℕ → Type 0) : Type 0 where
  pub input : List ℕ
  pub read : HasRead (limit_of m.reads) old.left new.left input
  pub text : List ℕ
  pub says : Says input text
  pub takes : Taken old.taken new.taken text

-- How a command ends. Done: the input was read, and its whole output was taken. Refused: it was read, and the line that says
-- why it is refused was taken whole. WriteFault: it was read, and the front of its output, or of that line, was taken. ReadFault
-- and TooLong: of the input no more was read than it may have, or one byte more and no further.
abbrev pub Ends : Meaning → Outside → Outside → Status → Type 0
Ends m old new Done = HasSaid m old new (IsOutput m old new) Takes
Ends m old new Usage = ⊥
Ends m old new Refused = HasSaid m old new (SaysWhy m old.places new.places) Takes
Ends m old new ReadFault = HasReadFew (limit_of m.reads) old.left new.left
Ends m old new WriteFault = HasSaid m old new (λ input text. IsOutput m old new input text ⊎ SaysWhy m old.places new.places input text) TakesFront
Ends m old new Memory = Unit {0}
Ends m old new TooLong = HasReadMore (limit_of m.reads) old.left new.left

-- the source has an input, within its limit, that has an output
pub record HasAcceptable (m : Meaning) (left : Option (List ℕ)) : Type 0 where
  pub input : List ℕ
  pub left_is : HasLeft (limit_of m.reads) left input
  pub accepts : m.accepts input

-- nothing is written
abbrev pub IsSilent : Status → Type 0
IsSilent Done = ⊥
IsSilent Refused = ⊥
IsSilent WriteFault = ⊥
IsSilent status = Unit {0}

-- no device is put
abbrev pub IsAside : Status → Type 0
IsAside Refused = Unit {0}
IsAside status = IsSilent status

-- for the functions below

-- what a command has to say of an input: its output, or the line that says why it is refused
abbrev pub IsAnswer : Meaning → List ℕ → Places → Places → Answer → Type 0
IsAnswer m input old new (Output text) = m.answers input text.items old new
IsAnswer m input old new (FaultLine text) = SaysWhy m old new input text.items

-- what became of the count of images with it
abbrev pub CountsImages : Meaning → List ℕ → ℕ → ℕ → Answer → Type 0
CountsImages m input old new (Output text) = m.images input old new
CountsImages m input old new (FaultLine text) = Unit {0}

-- the line that says why
abbrev pub IsFaultLine : Cause → Answer → Type 0
IsFaultLine cause (Output text) = ⊥
IsFaultLine cause (FaultLine text) = text.items ≡ cause_text cause

-- the line that says that a text is refused, at a line outside its grammar
abbrev pub IsBadLine : (ℕ → Type 0) → Answer → Type 0
IsBadLine IsRefused answer = (line : ℕ) × IsRefused line × IsFaultLine (Text (BadLine line)) answer
