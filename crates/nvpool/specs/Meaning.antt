-- What a command means to `operate`: what it reads, what it has to say of an input, and when it refuses one. Each command
-- has its meaning in a file of its own, and the table (`Command.antt`) says whose it is: nothing here, and nothing of how a run
-- ends (`Ends.antt`), names a command.
use Rattle.std.specs.Prelude.{ℕ, List}
use Rattle.nvpool.specs.declared.cause.Cause.{Cause}
use Rattle.program_io.specs.declared.input.Kind.{Kind}

pub record Meaning : Type 1 where
  -- the kind of input that is read
  pub reads : Kind
  -- an input has this output
  pub answers : List ℕ → List ℕ → Type 0
  -- an input is refused for this cause
  pub refuses : List ℕ → Cause → Type 0
  -- an input has an output
  pub accepts : List ℕ → Type 0
