-- What a crash leaves after the first so many events of all calls of an arena of this variant.
use Rattle.std.specs.Prelude.{◌≡◌, ℕ, List}
use Rattle.pmem_lines.specs.Pmem.{words_of}
use Rattle.pool_layout.specs.declared.header.PoolHeader.{PoolHeader}
use Rattle.heap_model.specs.declared.call.Reply.{Reply}
use Rattle.trace_text.specs.declared.call.TraceCall.{TraceCall}
use Rattle.trace_runs.specs.Runs.{Stage}
use Rattle.trace_crashes.specs.declared.crashing.CrashFault.{CrashFault}
use Rattle.trace_crashes.specs.Crash.{Variant, CrashLeft, IsCrash, HasFewerIn, IfTooFew}
use Rattle.gc_check.specs.Image.{IsGcSoundImage}
use Rattle.gc_check.specs.State.{HaveSameGcHeap}
use Rattle.gc_heap.specs.Arena.{GcState}
use Rattle.gc_heap.specs.Events.{gc_call_events}
use Rattle.gc_runs.specs.Answered.{HasGcAnswered}
use Rattle.gc_runs.specs.Arenas.{gc_formatted}
use Rattle.gc_runs.specs.Runs.{IsGcRunOf}

-- this variant: a crash leaves a sound image
abbrev pub gc : Variant
gc = record { IsWhole = IsGcSoundImage; HaveSame = HaveSameGcHeap }

-- This is what a crash leaves after so many events of the calls of an arena that was formatted with this header.
abbrev pub IsGcCrashOf : PoolHeader → List TraceCall → ℕ → ℕ → CrashLeft → Type 0
IsGcCrashOf header = IsCrash gc (IsGcRunOf header) (gc_formatted header)

-- the calls have so many events, which are fewer than are asked for
abbrev pub HasFewerGc : PoolHeader → List TraceCall → ℕ → ℕ → Type 0
HasFewerGc header = HasFewerIn (IsGcRunOf header)

-- what a fault says of the calls, where it is that they have too few events
abbrev pub IfNoGcEvent : PoolHeader → List TraceCall → ℕ → CrashFault → Type 0
IfNoGcEvent header = IfTooFew (IsGcRunOf header)

-- an arena answered a call, which has these events
pub record IsGcStepAt (old : GcState) (call : TraceCall) (stage : Stage) (new : GcState) : Type 0 where
  pub reply : Reply
  pub answered : HasGcAnswered call.thread old new call.call reply
  pub is : stage ≡ record { words = words_of old.device; events = gc_call_events (words_of old.device) call.call reply }
