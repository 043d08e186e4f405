-- How a run ends, whichever command it is of: what each status says of the words, the input and the output.
use Rattle.std.specs.Prelude.{◌≡◌, ◌⊎◌, ℕ, List, Option, Some}
use Rattle.trace_text.specs.declared.call.Refusal.TheVariants.{BadLine}
use Rattle.program_io.specs.declared.status.Status.{Status}
use Rattle.program_io.specs.declared.status.Status.TheVariants.{Done, Usage, Refused, ReadFault, WriteFault, Memory, TooLong}
use Rattle.program_io.specs.Streams.{Takes, TakesFront}
use Rattle.program_io.specs.Inputs.{HasLeft, HasRead, HasReadFew, HasReadMore, limit_of}
use Rattle.program_io.specs.declared.answer.Answer.{Answer}
use Rattle.program_io.specs.declared.answer.Answer.TheVariants.{Output, FaultLine}
use Rattle.nvpool.specs.declared.cause.Cause.{Cause}
use Rattle.nvpool.specs.declared.cause.Cause.TheVariants.{Text}
use Rattle.nvpool.specs.Causes.{cause_text}
use Rattle.nvpool.specs.Meaning.{Meaning}
use Rattle.map_text.specs.Maps.{IsDump}
use Rattle.nvpool.specs.Rules.{PoolRules}
use Rattle.nvpool.specs.Dumping.{RefusesArena}

-- what the outside tells: the bytes that the source has left, and those that the sink took
pub record Told : Type 0 where
  pub left : Option (List ℕ)
  pub taken : Option (List ℕ)

-- what a source and a sink tell, by what their types tell
abbrev pub told_by : {S K : Type 0} → (S → Option (List ℕ)) → (K → Option (List ℕ)) → S → K → Told
told_by left taken source sink = record { left = left source; taken = taken sink }

-- the text is the line that says why an input is refused
pub record SaysWhy (m : Meaning) (input text : List ℕ) : Type 0 where
  pub why : Cause
  pub cause : m.refuses input why
  pub line : text ≡ cause_text why

-- the input was read, this holds of it and a text, and the text was taken so far
pub record HasSaid (m : Meaning) (old new : Told) (Says : List ℕ → List ℕ → Type 0) (Taken : Option (List ℕ) → Option (List ℕ) → List ℕ → Type 0) : Type 0 where
  pub input : List ℕ
  pub read : HasRead (limit_of (Some m.reads)) old.left new.left input
  pub text : List ℕ
  pub says : Says input text
  pub takes : Taken old.taken new.taken text

-- How a command ends. Done: the input was read, and its whole output was taken. Refused: it was read, and the line that says
-- why it is refused was taken whole. WriteFault: it was read, and the front of its output, or of that line, was taken. ReadFault
-- and TooLong: of the input no more was read than it may have, or one byte more and no further.
abbrev pub Ends : Meaning → Told → Told → Status → Type 0
Ends m old new Done = HasSaid m old new m.answers Takes
Ends m old new Usage = ⊥
Ends m old new Refused = HasSaid m old new (SaysWhy m) Takes
Ends m old new ReadFault = HasReadFew (limit_of (Some m.reads)) old.left new.left
Ends m old new WriteFault = HasSaid m old new (λ input text. m.answers input text ⊎ SaysWhy m input text) TakesFront
Ends m old new Memory = Unit {0}
Ends m old new TooLong = HasReadMore (limit_of (Some m.reads)) old.left new.left

-- the source has an input, within its limit, that has an output
pub record HasAcceptable (m : Meaning) (left : Option (List ℕ)) : Type 0 where
  pub input : List ℕ
  pub left_is : HasLeft (limit_of (Some m.reads)) left input
  pub accepts : m.accepts input

-- nothing is written
abbrev pub IsSilent : Status → Type 0
IsSilent Done = ⊥
IsSilent Refused = ⊥
IsSilent WriteFault = ⊥
IsSilent status = Unit {0}

-- for the functions below

-- what a command has to say of an input: its output, or the line that says why it is refused
abbrev pub IsAnswer : Meaning → List ℕ → Answer → Type 0
IsAnswer m input (Output text) = m.answers input text.items
IsAnswer m input (FaultLine text) = SaysWhy m input text.items

-- the line that says why
abbrev pub IsFaultLine : Cause → Answer → Type 0
IsFaultLine cause (Output text) = ⊥
IsFaultLine cause (FaultLine text) = text.items ≡ cause_text cause

-- the line that says that a text is refused, at a line outside its grammar
abbrev pub IsBadLine : (ℕ → Type 0) → Answer → Type 0
IsBadLine IsRefused answer = (line : ℕ) × IsRefused line × IsFaultLine (Text (BadLine line)) answer

-- what `dump` has to say of the words of an arena: those of the block of a root, or why there are none
abbrev pub IsDumpAnswer : PoolRules → List ℕ → ℕ → Answer → Type 0
IsDumpAnswer r words root (Output text) = IsDump r.maps words root text.items
IsDumpAnswer r words root (FaultLine text) = ⊥

pub record SaysWhyNot (r : PoolRules) (words : List ℕ) (arena root : ℕ) (text : List ℕ) : Type 0 where
  pub why : Cause
  pub cause : RefusesArena r words arena root why
  pub line : text ≡ cause_text why

abbrev pub IsArenaAnswer : PoolRules → List ℕ → ℕ → ℕ → Answer → Type 0
IsArenaAnswer r words arena root (Output text) = IsDump r.maps words root text.items
IsArenaAnswer r words arena root (FaultLine text) = SaysWhyNot r words arena root text.items
