-- For the functions that report a script or a crash: what was written.
use Rattle.std.specs.Prelude.{◌≡◌, ℕ, List, ◌++◌}
use Rattle.pmem_lines.specs.Pmem.{PmemState}
use Rattle.trace_text.specs.declared.call.CrashSide.{CrashSide}
use Rattle.attach_dict.specs.Dict.{Pair}
use Rattle.attach_dict.specs.Stages.{DictState}
use Rattle.dict_text.specs.Script.{DictCall}
use Rattle.dict_text.specs.Report.{dict_run_text, dict_crash_text}
use Rattle.dict_runs.specs.declared.crashing.DictCrashed.{DictCrashed}
use Rattle.dict_runs.specs.Scripts.{Turn, replies_of, IsBehindScript}
use Rattle.dict_runs.specs.Watching.{IsSideIn}

-- a device went through the calls of a script, and their report was written
pub record HasReported (granules : ℕ) (calls : List DictCall) (device : PmemState) (old new : List ℕ) : Type 0 where
  pub turns : List Turn
  pub pairs : List Pair
  pub behind : IsBehindScript granules calls turns pairs device
  pub text : new ≡ old ++ dict_run_text (replies_of turns) pairs

-- the same of a dictionary
abbrev pub IsReportOf : ℕ → List DictCall → DictState → List ℕ → List ℕ → Type 0
IsReportOf granules calls dict old new = HasReported granules calls dict.arena.device old new

-- what a crash left of the call under way was written, with the map of its image
pub record IsCrashText (crashed : DictCrashed) (calls : List DictCall) (pairs : List Pair) (old new : List ℕ) : Type 0 where
  pub side : CrashSide
  pub is_side : IsSideIn crashed calls pairs side
  pub text : new ≡ old ++ dict_crash_text crashed.call side pairs
