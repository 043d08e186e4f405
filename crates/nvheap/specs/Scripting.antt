-- What `dict` means.
use Rattle.std.specs.Prelude.{◌≡◌, ℕ, List}
use Rattle.pmem_lines.specs.Pmem.{PmemState}
use Rattle.trace_text.specs.declared.call.Refusal.TheVariants.{BadLine}
use Rattle.attach_dict.specs.Dict.{Pair}
use Rattle.dict_text.specs.Script.{DictCall, IsScript, IsRefusedScript}
use Rattle.dict_text.specs.Report.{dict_run_text}
use Rattle.dict_runs.specs.Scripts.{Turn, replies_of, IsBehindScript}
use Rattle.nvheap.specs.declared.cause.Cause.{Cause}
use Rattle.nvheap.specs.declared.cause.Cause.TheVariants.{Text}
use Rattle.program_io.specs.declared.input.Kind.TheVariants as kinds
use Rattle.nvheap.specs.Outside.{put_device}
use Rattle.nvheap.specs.Meaning.{Places, Meaning, of_input}

-- the bytes are a script of these calls, for an arena of so many granules
pub record HasScript (input : List ℕ) : Type 0 where
  pub granules : ℕ
  pub calls : List DictCall
  pub script : IsScript input granules calls

-- why a script is refused, where nothing more is asked of it: a line outside the grammar
abbrev pub RefusesScript : List ℕ → Cause → Type 0
RefusesScript input (Text (BadLine line)) = IsRefusedScript input line
RefusesScript input cause = ⊥

-- The output is what each line of the script came to and the map behind them, and place 0 has the device that went through its
-- calls: it is quiet and exact, and the dictionary of that map. The other places stay.
pub record AnswersDict (input output : List ℕ) (old new : Places) : Type 0 where
  pub script : HasScript input
  pub turns : List Turn
  pub pairs : List Pair
  pub device : PmemState
  pub behind : IsBehindScript script.granules script.calls turns pairs device
  pub is : output ≡ dict_run_text (replies_of turns) pairs
  pub put : new ≡ put_device old 0 device

abbrev pub scripting : Meaning
scripting = of_input kinds.Text AnswersDict RefusesScript HasScript
