-- The words of the program.
use Rattle.std.specs.Prelude.{ℕ, ◌<◌, ◌≤◌, List, [], ◌∷◌, codes}
use Rattle.program_io.specs.Words.{Row, alone, Says, SaysOne}
use Rattle.nvheap.specs.declared.command.Command.{Command}
use Rattle.nvheap.specs.declared.command.Command.TheVariants.{Replay, Image, Check, Recover, Crash, Gen, Migrate, Dict, DictCrash, Serve, Gc, GcCrash}
use Rattle.nvheap.specs.Meaning.{Meaning}
use Rattle.nvheap.specs.Replaying.{replaying}
use Rattle.nvheap.specs.Imaging.{imaging}
use Rattle.nvheap.specs.Checking.{checking}
use Rattle.nvheap.specs.Recovering.{recovering}
use Rattle.nvheap.specs.Crashing.{log_arenas, gc_arenas, crashing}
use Rattle.nvheap.specs.Generating.{generating}
use Rattle.nvheap.specs.Migrating.{migrating}
use Rattle.nvheap.specs.Scripting.{scripting}
use Rattle.nvheap.specs.ScriptCrashing.{script_crashing}
use Rattle.nvheap.specs.Serving.{serving}
use Rattle.nvheap.specs.GcReporting.{gc_reporting}

-- the table: each command has one row
abbrev pub row_of : Command → Row Meaning
row_of Replay = alone (codes "replay") replaying
row_of Image = alone (codes "image") imaging
row_of Check = alone (codes "check") checking
row_of Recover = alone (codes "recover") recovering
row_of (Crash arena event seed) = record { text = codes "crash"; numbers = arena ∷ event ∷ seed ∷ []; fits = arena < 16; meaning = crashing log_arenas arena event seed }
row_of (Gen count seed) = record { text = codes "gen"; numbers = count ∷ seed ∷ []; fits = (1 ≤ count) × (count ≤ 1000000); meaning = generating count seed }
row_of Migrate = alone (codes "migrate") migrating
row_of Dict = alone (codes "dict") scripting
row_of (DictCrash event seed) = record { text = codes "dict-crash"; numbers = event ∷ seed ∷ []; fits = Unit {0}; meaning = script_crashing event seed }
row_of Serve = alone (codes "serve") serving
row_of Gc = alone (codes "gc") gc_reporting
row_of (GcCrash arena event seed) = record { text = codes "gc-crash"; numbers = arena ∷ event ∷ seed ∷ []; fits = arena < 16; meaning = crashing gc_arenas arena event seed }

-- what a command means
abbrev pub meaning_of : Command → Meaning
meaning_of command = (row_of command).meaning

-- the words say this command
abbrev pub IsCommand : List (List ℕ) → Command → Type 0
IsCommand words command = Says (row_of command) words

-- the words say no command
abbrev pub IsNoCommand : List (List ℕ) → Type 0
IsNoCommand words = (command : Command) → ¬ (IsCommand words command)

-- the words say a command, of whose meaning this holds
abbrev pub IsSaid : List (List ℕ) → (Meaning → Type 0) → Type 0
IsSaid words Holds = SaysOne row_of words Holds
