-- The table of commands: it says of words one command at most, and what a command accepts it does not refuse.
use Rattle.std.proofs.Common.{◌≡◌, ◌==◌, ℕ, ◌+◌, ◌*◌, List, length, get_or, Option, Some, None, if◌then◌else◌, refl}
use Rattle.program_io.proofs.Sayings.{IsTable}
use Rattle.program_io.proofs.Sayings as sayings
use Rattle.nvpool.specs.declared.cause.Cause.{Cause}
use Rattle.nvpool.specs.declared.command.Command.{Command}
use Rattle.nvpool.specs.declared.command.Command.TheVariants.{Map, Text, Info, Dump, Cut, Repair}
use Rattle.nvpool.specs.Meaning.{Meaning}
use Rattle.nvpool.specs.Command.{row_of, meaning_of, IsCommand, IsSaid}
use Rattle.pool_layout.specs.declared.header.PoolVariant.TheVariants.{Gc}
use Rattle.pool_layout.proofs.OneImage.{image_text}
use Rattle.nvpool.specs.declared.telling.Form.{Form}
use Rattle.nvpool.specs.declared.telling.Form.TheVariants.{Numbers, Letters, Picture}
use Rattle.nvpool.specs.Rules.{log_pools, gc_pools}
use Rattle.nvpool.specs.Telling.{telling_by, telling}
use Rattle.nvpool.specs.Dumping.{dumping_by, dumping}
use Rattle.nvpool.specs.Repairing.{repairing_by, repairing}
use Rattle.nvpool.proofs.Variants.{either_settled}
use Rattle.nvpool.proofs.Images.{log_text}
use Rattle.nvpool.proofs.Refusals.{log_settled, gc_settled, image_not_refused, dump_not_refused, cut_not_refused}

-- a row for each command

-- the command that has a text of this length and second letter, with these numbers
abbrev key : List ℕ → ℕ
key text = 256 * length text + get_or text 1 0

abbrev command_by : ℕ → List ℕ → Option Command
command_by k numbers =
    if k == 865 then Some Map else
    if k == 1125 then Some Text else
    if k == 1134 then Some Info else
    if k == 1141 then Some (Dump (get_or numbers 0 0) (get_or numbers 1 0)) else
    if k == 885 then Some (Cut (get_or numbers 0 0) (get_or numbers 1 0) (get_or numbers 2 0)) else
    if k == 1637 then Some Repair else
    None

-- it is the one whose text and numbers they are
back : (command : Command) → command_by (key (row_of command).text) (row_of command).numbers ≡ Some command
back Map = refl
back Text = refl
back Info = refl
back (Dump arena root) = refl
back (Cut arena event seed) = refl
back Repair = refl

-- what a command accepts it does not refuse

told_settled : (form : Form) (input : List ℕ) (why : Cause) → (telling form).accepts input → ¬ ((telling form).refuses input why)
told_settled form =
    either_settled (telling_by log_pools form) (telling_by gc_pools form) (image_not_refused log_pools log_settled) (image_not_refused gc_pools gc_settled) (λ input has. log_text input has.words has.image.0) (λ input has. image_text Gc input has.words has.image.0)

dump_settled : (arena root : ℕ) (input : List ℕ) (why : Cause) → (dumping arena root).accepts input → ¬ ((dumping arena root).refuses input why)
dump_settled arena root =
    either_settled (dumping_by log_pools arena root) (dumping_by gc_pools arena root) (λ input. dump_not_refused log_pools log_settled input arena root) (λ input. dump_not_refused gc_pools gc_settled input arena root)
    (λ input has. log_text input has.words has.image.0) (λ input has. image_text Gc input has.words has.image.0)

repair_settled : (input : List ℕ) (why : Cause) → repairing.accepts input → ¬ (repairing.refuses input why)
repair_settled =
    either_settled (repairing_by log_pools) (repairing_by gc_pools) (image_not_refused log_pools log_settled) (image_not_refused gc_pools gc_settled) (λ input has. log_text input has.words has.image.0) (λ input has. image_text Gc input has.words has.image.0)

pub settled : (command : Command) (input : List ℕ) (why : Cause) → (meaning_of command).accepts input → ¬ ((meaning_of command).refuses input why)
settled Map input why has = told_settled Picture input why has
settled Text input why has = told_settled Letters input why has
settled Info input why has = told_settled Numbers input why has
settled (Dump arena root) input why has = dump_settled arena root input why has
settled (Cut arena event seed) input why has = cut_not_refused arena event input why has
settled Repair input why has = repair_settled input why has

-- one command

table : IsTable row_of
table = record { find = λ text numbers. command_by (key text) numbers; found = back }

-- what holds of the meaning of the command that words say holds of that of each that they say
pub said_holds : (words : List (List ℕ)) (command : Command) (Holds : Meaning → Type 0) → IsCommand words command → IsSaid words Holds → Holds (meaning_of command)
said_holds = sayings.said_holds row_of table
