-- The words of the program.
use Rattle.std.specs.Prelude.{ℕ, ◌<◌, List, [], ◌∷◌, codes}
use Rattle.program_io.specs.Words.{Row, alone, Says, SaysOne}
use Rattle.nvpool.specs.declared.command.Command.{Command}
use Rattle.nvpool.specs.declared.command.Command.TheVariants.{Map, Text, Info, Dump, Cut, Repair}
use Rattle.nvpool.specs.Meaning.{Meaning}
use Rattle.nvpool.specs.declared.telling.Form.TheVariants.{Numbers, Letters, Picture}
use Rattle.nvpool.specs.Telling.{telling}
use Rattle.nvpool.specs.Dumping.{dumping}
use Rattle.nvpool.specs.Cutting.{cutting}
use Rattle.nvpool.specs.Repairing.{repairing}

-- the table: each command has one row
abbrev pub row_of : Command → Row Meaning
row_of Map = alone (codes "map") (telling Picture)
row_of Text = alone (codes "text") (telling Letters)
row_of Info = alone (codes "info") (telling Numbers)
row_of (Dump arena root) = record { text = codes "dump"; numbers = arena ∷ root ∷ []; fits = (arena < 16) × (root < 65536); meaning = dumping arena root }
row_of (Cut arena event seed) = record { text = codes "cut"; numbers = arena ∷ event ∷ seed ∷ []; fits = arena < 16; meaning = cutting arena event seed }
row_of Repair = alone (codes "repair") repairing

-- what a command means
abbrev pub meaning_of : Command → Meaning
meaning_of command = (row_of command).meaning

-- the words say this command
abbrev pub IsCommand : List (List ℕ) → Command → Type 0
IsCommand words command = Says (row_of command) words

-- the words say no command
abbrev pub IsNoCommand : List (List ℕ) → Type 0
IsNoCommand words = (command : Command) → ¬ (IsCommand words command)

-- the words say a command, of whose meaning this holds
abbrev pub IsSaid : List (List ℕ) → (Meaning → Type 0) → Type 0
IsSaid words Holds = SaysOne row_of words Holds
