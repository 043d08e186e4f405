-- What a command means to `run`: what it reads, what it may use, what it has to say of an input, and when it refuses one. Each
-- command has its meaning in a file of its own, and the table (`Command.antt`) says whose it is: nothing here, and nothing of how
-- a run ends (`Ends.antt`), names a command.
use Rattle.std.specs.Prelude.{◌≡◌, ℕ, Bool, false, List, Option, Some}
use Rattle.pmem_lines.specs.Pmem.{PmemState}
use Rattle.nvheap.specs.declared.cause.Cause.{Cause}
use Rattle.program_io.specs.declared.input.Kind.{Kind}

-- what stands in the places of a shelf, where it tells them
abbrev pub Places : Type 0
Places = Option (List (Option PmemState))

pub record Meaning : Type 1 where
  -- the kind of input that is read, where one is
  pub reads : Option Kind
  -- it has workers, and may wait
  pub waits : Bool
  -- the shelf is left as it is, as a whole
  pub idle : Bool
  -- it recovers what an image says, on devices that the shelf makes of images
  pub recovers : Bool
  -- an input has this output, with what stands on the shelf before and behind
  pub answers : List ℕ → List ℕ → Places → Places → Type 0
  -- so many devices had the shelf made of images before an output, and so many behind it
  pub images : List ℕ → ℕ → ℕ → Type 0
  -- an input is refused for this cause
  pub refuses : List ℕ → Cause → Type 0
  -- an input has an output
  pub accepts : List ℕ → Type 0

-- no device is made of an image
abbrev pub MakesNone : List ℕ → ℕ → ℕ → Type 0
MakesNone input old new = new ≡ old

-- what most commands have in common: one reads an input of this kind, waits for nobody, and makes no device of an image
abbrev pub of_input : Kind → (List ℕ → List ℕ → Places → Places → Type 0) → (List ℕ → Cause → Type 0) → (List ℕ → Type 0) → Meaning
of_input kind answers refuses accepts = record {
  reads = Some kind;
  waits = false;
  idle = false;
  recovers = false;
  answers = answers;
  images = MakesNone;
  refuses = refuses;
  accepts = accepts;
}
