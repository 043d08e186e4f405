-- What `dict-crash K SEED` means.
use Rattle.std.specs.Prelude.{◌≡◌, ℕ, ◌≤◌, List, true}
use Rattle.recover.specs.Recovered.{IsRecoveredDevice}
use Rattle.trace_text.specs.declared.call.Refusal.TheVariants.{BadLine, NoEvent}
use Rattle.trace_text.specs.declared.call.CrashSide.{CrashSide}
use Rattle.attach_dict.specs.Dict.{Pair, IsSteadyDict}
use Rattle.dict_text.specs.Script.{DictCall, IsRefusedScript}
use Rattle.dict_text.specs.Report.{dict_crash_text}
use Rattle.dict_runs.specs.Acts.{Standing}
use Rattle.dict_runs.specs.Scripts.{Turn, IsRunOf}
use Rattle.dict_runs.specs.Crashes.{DictLeft, IsDictCrash, HasFewer, all_events}
use Rattle.dict_runs.specs.declared.crashing.DictCrashed.{DictCrashed}
use Rattle.dict_runs.specs.Watching.{IsSideIn}
use Rattle.nvheap.specs.declared.cause.Cause.{Cause}
use Rattle.nvheap.specs.declared.cause.Cause.TheVariants.{Text}
use Rattle.program_io.specs.declared.input.Kind.TheVariants as kinds
use Rattle.nvheap.specs.Meaning.{Places, Meaning, of_input}
use Rattle.nvheap.specs.Crashing.{PutsRecovered, MakesOne}
use Rattle.nvheap.specs.Scripting.{HasScript}

-- The output is the report of what a crash leaves after this event of the script's calls: on which side of the call under way
-- the map of the image stands, and that map. Place 0 has a recovered device of the image; the other places stay.
pub record AnswersDictCrash (event seed : ℕ) (input output : List ℕ) (old new : Places) : Type 0 where
  pub script : HasScript input
  pub left : DictLeft
  pub leaves : IsDictCrash script.granules script.calls event seed left
  pub is : output ≡ dict_crash_text left.call left.side left.pairs
  pub shelf : PutsRecovered IsRecoveredDevice left.image 0 old new

-- the script's calls have fewer events than are asked for
pub record LacksScriptEvent (input : List ℕ) (asked event events : ℕ) : Type 0 where
  pub script : HasScript input
  pub is_asked : event ≡ asked
  pub fewer : HasFewer script.granules script.calls asked events

-- why a script is refused: first a line outside the grammar, then the event
abbrev pub RefusesDictCrash : ℕ → List ℕ → Cause → Type 0
RefusesDictCrash asked input (Text (BadLine line)) = IsRefusedScript input line
RefusesDictCrash asked input (Text (NoEvent event events)) = LacksScriptEvent input asked event events
RefusesDictCrash asked input cause = ⊥

-- the bytes are a script whose calls have so many events at least
pub record HasScriptEvents (event : ℕ) (input : List ℕ) : Type 0 where
  pub script : HasScript input
  pub enough : (turns : List Turn) (to : Standing) (last : List Pair) → IsRunOf script.granules script.calls turns to last → event ≤ all_events turns

abbrev pub script_crashing : ℕ → ℕ → Meaning
script_crashing event seed = record (of_input kinds.Text (AnswersDictCrash event seed) (RefusesDictCrash event) (HasScriptEvents event)) { recovers = true; images = MakesOne }

-- for the functions below

-- the text is the report of what a crash left, with the map of its image
pub record IsMapReport (crashed : DictCrashed) (calls : List DictCall) (text : List ℕ) : Type 0 where
  pub pairs : List Pair
  pub side : CrashSide
  pub steady : IsSteadyDict pairs crashed.image.items
  pub is_side : IsSideIn crashed calls pairs side
  pub is : text ≡ dict_crash_text crashed.call side pairs
