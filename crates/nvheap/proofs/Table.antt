-- The table of commands: it says of words one command at most, and what a command accepts it does not refuse.
use Rattle.std.proofs.Common.{◌≡◌, ◌==◌, ℕ, ◌+◌, ◌*◌, List, ◌∷◌, length, get_or, Option, Some, None, if◌then◌else◌, refl, subst, codes}
use Rattle.program_io.proofs.Sayings.{IsTable}
use Rattle.program_io.proofs.Sayings as sayings
use Rattle.nvheap.specs.declared.cause.Cause.{Cause}
use Rattle.nvheap.specs.declared.command.Command.{Command}
use Rattle.nvheap.specs.declared.command.Command.TheVariants.{Replay, Image, Check, Recover, Crash, Gen, Migrate, Dict, DictCrash, Serve, Gc, GcCrash}
use Rattle.trace_text.specs.Grammar.{trace_lines, still_lines}
use Rattle.trace_text.proofs.OneMeaning.{law_of_one_trace, law_of_no_refusal, law_of_one_still_trace, law_of_no_still_refusal}
use Rattle.nvheap.specs.Meaning.{Meaning}
use Rattle.nvheap.specs.Crashing.{log_arenas, gc_arenas}
use Rattle.nvheap.specs.Command.{row_of, meaning_of, IsCommand, IsNoCommand, IsSaid}
use Rattle.nvheap.proofs.Refusals.{trace_not_refused, image_not_refused, crash_not_refused, migrate_not_refused, script_not_refused, dict_crash_not_refused}

-- a row for each command

-- its length and its second letter tell a command's text from the others
abbrev key : List ℕ → ℕ
key text = 256 * length text + get_or text 1 0

-- the command that has a text of this key, with these numbers
abbrev command_by : ℕ → List ℕ → Option Command
command_by k numbers =
    if k == 1637 then Some Replay else
    if k == 1389 then Some Image else
    if k == 1384 then Some Check else
    if k == 1893 then Some Recover else
    if k == 1394 then Some (Crash (get_or numbers 0 0) (get_or numbers 1 0) (get_or numbers 2 0)) else
    if k == 869 then Some (Gen (get_or numbers 0 0) (get_or numbers 1 0)) else
    if k == 1897 then Some Migrate else
    if k == 1129 then Some Dict else
    if k == 2665 then Some (DictCrash (get_or numbers 0 0) (get_or numbers 1 0)) else
    if k == 1381 then Some Serve else
    if k == 611 then Some Gc else
    if k == 2147 then Some (GcCrash (get_or numbers 0 0) (get_or numbers 1 0) (get_or numbers 2 0)) else
    None

-- it is the one whose text and numbers they are
back : (command : Command) → command_by (key (row_of command).text) (row_of command).numbers ≡ Some command
back Replay = refl
back Image = refl
back Check = refl
back Recover = refl
back (Crash arena event seed) = refl
back (Gen count seed) = refl
back Migrate = refl
back Dict = refl
back (DictCrash event seed) = refl
back Serve = refl
back Gc = refl
back (GcCrash arena event seed) = refl

-- what a command accepts it does not refuse
pub settled : (command : Command) (input : List ℕ) (why : Cause) → (meaning_of command).accepts input → ¬ ((meaning_of command).refuses input why)
settled Replay input why has = trace_not_refused trace_lines law_of_no_refusal input why has
settled Image input why has = trace_not_refused trace_lines law_of_no_refusal input why has
settled Check input why has = image_not_refused input why has
settled Recover input why has = image_not_refused input why has
settled (Crash arena event seed) input why has = crash_not_refused log_arenas law_of_one_trace law_of_no_refusal arena event input why has
settled (Gen count seed) input why has = λ refused. refused
settled Migrate input why has = migrate_not_refused input why has
settled Dict input why has = script_not_refused input why has
settled (DictCrash event seed) input why has = dict_crash_not_refused event input why has
settled Serve input why has = trace_not_refused trace_lines law_of_no_refusal input why has
settled Gc input why has = trace_not_refused still_lines law_of_no_still_refusal input why has
settled (GcCrash arena event seed) input why has = crash_not_refused gc_arenas law_of_one_still_trace law_of_no_still_refusal arena event input why has

-- one command

table : IsTable row_of
table = record { find = λ text numbers. command_by (key text) numbers; found = back }

pub one_command : (words : List (List ℕ)) (a b : Command) → IsCommand words a → IsCommand words b → a ≡ b
one_command = sayings.one_command row_of table

-- what holds of the meaning of the command that words say holds of that of each that they say
pub said_holds : (words : List (List ℕ)) (command : Command) (Holds : Meaning → Type 0) → IsCommand words command → IsSaid words Holds → Holds (meaning_of command)
said_holds = sayings.said_holds row_of table

-- the command that words say whose first is known
by_first : (text : List ℕ) (rest : List (List ℕ)) (command : Command) → IsCommand (text ∷ rest) command → command_by (key text) (row_of command).numbers ≡ Some command
unfolding table
by_first = sayings.by_first row_of table

-- words of which the first is `gen` say generated work, or no command
pub no_gen : (rest : List (List ℕ)) → ((count seed : ℕ) → ¬ (IsCommand (codes "gen" ∷ rest) (Gen count seed))) → IsNoCommand (codes "gen" ∷ rest)
no_gen rest none command said =
    let numbers = (row_of command).numbers in
    let is : command ≡ Gen (get_or numbers 0 0) (get_or numbers 1 0) = cc (by_first (codes "gen") rest command said) in
    none (get_or numbers 0 0) (get_or numbers 1 0) (subst (IsCommand (codes "gen" ∷ rest)) is said)
