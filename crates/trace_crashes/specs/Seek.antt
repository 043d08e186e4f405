-- Where in the calls of an arena of either variant an event lies, and what a crash there leaves.
use Rattle.std.specs.Prelude.{◌≡◌, ◌≢◌, ◌↔◌, ℕ, ◌<◌, ◌≤◌, ◌^◌, Bool, IsTrue, if◌then◌else◌, List, [], ◌∷◌, ◌++◌, length, take}
use Rattle.pmem_lines.specs.Events.{CrashOnly}
use Rattle.pmem_lines.specs.Pmem.{PmemState, words_of}
use Rattle.pmem_lines.specs.Words.{word_at}
use Rattle.pool_layout.specs.Places.{root_word}
use Rattle.heap_model.specs.declared.call.Call.{Call}
use Rattle.heap_model.specs.declared.call.Entry.{Entry}
use Rattle.heap_model.specs.declared.call.Reply.{Reply}
use Rattle.heap_model.specs.Step.{root_of}
use Rattle.arena_journal.specs.Journals.{begins_call}
use Rattle.trace_text.specs.declared.call.TraceCall.{TraceCall}
use Rattle.trace_crashes.specs.declared.seeking.Sought.{Sought}
use Rattle.trace_crashes.specs.declared.seeking.Sought.TheVariants.{UnderWay, Past}
use Rattle.trace_crashes.specs.Crash.{Variant, Runs, CrashLeft, IsSide, IsLeft, IsLeftWithin, IsLeftIdle}
use Rattle.trace_crashes.specs.Sides.{side_by}
use Rattle.trace_runs.specs.Runs.{Stage, total_events}

-- the call that a device went through last
abbrev pub last_stage : PmemState → Stage
last_stage device = record { words = device.base; events = device.events }

-- what a crash within this call with this reply leaves: a whole image, and whether the word of the call's root is 0 in it tells the
-- side on which its heap stands
pub record IsTold (variant : Variant) (call : Call) (reply : Reply) (old new image : List ℕ) : Type 0 where
  pub whole : variant.IsWhole image
  pub fits : root_of call < 2 ^ 16
  pub inside : root_word (root_of call) < length image
  pub side : (has : Bool) → (IsTrue has ↔ (word_at image (root_word (root_of call)) ≢ 0)) → IsSide variant old new image (side_by reply has)

-- the device went through the call of this entry last
abbrev pub IsBehindEntry : Variant → PmemState → Entry → Type 0
IsBehindEntry variant device entry = CrashOnly device.base device.events (IsTold variant entry.call entry.reply device.base (words_of device))

-- An arena answered a call by this entry, made this stage of its run, and has this device. Where the stage has events, the device
-- went through it last.
pub record IsAnswered (variant : Variant) (device : PmemState) (call : TraceCall) (entry : Entry) (stage : Stage) : Type 0 where
  pub count : length stage.events ≡ (if begins_call call.call then length device.events else 0)
  pub last : 0 < length stage.events → (stage ≡ last_stage device) × IsBehindEntry variant device entry

-- the device stands behind the call of this number, which is under way at the event, with so many of its events done
pub record IsBehindSought (variant : Variant) (runs : Runs) (words : List ℕ) (calls : List TraceCall) (event : ℕ) (device : PmemState) (number done : ℕ) : Type 0 where
  pub some : 0 < number
  pub before : List Stage
  pub run : runs (take number calls) (before ++ last_stage device ∷ [])
  pub leaves : (seed : ℕ) (left : CrashLeft) → IsLeftWithin variant (last_stage device) number done seed left → IsLeft variant words 0 (before ++ last_stage device ∷ []) event seed left

-- no call is under way at the event: the calls have so many events, and where that is enough none is done
pub record IsBehindAll (variant : Variant) (runs : Runs) (words : List ℕ) (calls : List TraceCall) (event events : ℕ) : Type 0 where
  pub stages : List Stage
  pub run : runs calls stages
  pub total : events ≡ total_events stages
  pub leaves : event ≤ events → (seed : ℕ) (left : CrashLeft) → IsLeftIdle words 0 left → IsLeft variant words 0 stages event seed left

-- what was sought was found
abbrev pub IsSought : Variant → Runs → List ℕ → List TraceCall → ℕ → PmemState → Sought → Type 0
IsSought variant runs words calls event device (UnderWay number entry done) = IsBehindSought variant runs words calls event device number done
IsSought variant runs words calls event device (Past events) = IsBehindAll variant runs words calls event events

-- what is asked next of a device that stands behind the call under way
abbrev pub IsReportable : Variant → PmemState → Sought → Type 0
IsReportable variant device (UnderWay number entry done) = IsBehindEntry variant device entry × (done ≤ length device.events)
IsReportable variant device (Past events) = Unit {0}
