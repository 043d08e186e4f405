-- An arena of this variant behind a journal, while the calls of a trace are made on it.
use Rattle.std.specs.Prelude.{◌≡◌, ◌⊎◌, ℕ, List, ◌++◌, flat_map}
use Rattle.pmem_lines.specs.Pmem.{words_of, risen}
use Rattle.pool_layout.specs.declared.header.PoolHeader.{PoolHeader}
use Rattle.heap_model.specs.declared.call.Entry.{Entry}
use Rattle.heap_model.specs.Machine.{Machine}
use Rattle.thread_cache.specs.Stacks.{stacks_of}
use Rattle.heap_check.specs.Image.{bounds_of}
use Rattle.arena_core.specs.Call.{IsReady}
use Rattle.arena_journal.specs.Journals.{begun_by}
use Rattle.trace_text.specs.declared.call.TraceCall.{TraceCall}
use Rattle.trace_text.specs.Report.{entry_line, arena_text}
use Rattle.trace_runs.specs.Arenas.{bounds_for}
use Rattle.trace_runs.specs.Calls.{AreAnswers}
use Rattle.trace_runs.specs.Journals.{IsJournal}
use Rattle.gc_check.specs.Image.{IsGcExactImage}
use Rattle.gc_check.specs.State.{HasGcState}
use Rattle.gc_heap.specs.Arena.{GcState}
use Rattle.gc_runs.specs.Arenas.{gc_formatted, IsNewGcArena}
use Rattle.gc_runs.specs.Told.{gc_blocks_in}
use Rattle.gc_runs.specs.Journals.{gc_words_along, IsAsGcFormatted, IsBehindLastGc}

-- The journal leads from the arena as it was formatted with this header to the arena as it is: to its blocks, slabs and words, with
-- its stacks beside them, word for word, and to its count of begun calls. The memory is quiet and exact; its base and events are those
-- of the last call that is no Read.
pub record IsGcBehind (header : PoolHeader) (journal : List Entry) (now : GcState) : Type 0 where
  pub machine : Machine
  pub leads : IsJournal header journal (record { machine = machine; stacks = stacks_of now.stacks })
  pub state : HasGcState (words_of now.device) machine
  pub ready : IsReady now.device
  pub exact : IsGcExactImage (words_of now.device)
  pub bounds : bounds_of (words_of now.device) ≡ bounds_for header
  pub words : words_of now.device ≡ gc_words_along (gc_formatted header) journal
  pub begins : now.device.begins ≡ risen 1 (begun_by journal)
  pub last : IsAsGcFormatted header now.device journal ⊎ IsBehindLastGc header now.device journal

-- from one state of it to another an arena answered these calls, as the journal says
pub record HasMadeGc (first now : GcState) (calls : List TraceCall) (journal : List Entry) : Type 0 where
  pub answers : AreAnswers calls journal
  pub behind : (header : PoolHeader) → IsNewGcArena header first → IsGcBehind header journal now

-- it answered them, and behind a text came the line of each of the journal's entries
pub record HasToldGc (first now : GcState) (calls : List TraceCall) (old new : List ℕ) : Type 0 where
  pub journal : List Entry
  pub made : HasMadeGc first now calls journal
  pub told : new ≡ old ++ flat_map entry_line journal

-- it answered them, and behind a text came the report of the arena of this number: its journal, and its blocks as they are
pub record HasReportedGc (first now : GcState) (calls : List TraceCall) (arena : ℕ) (old new : List ℕ) : Type 0 where
  pub journal : List Entry
  pub made : HasMadeGc first now calls journal
  pub told : new ≡ old ++ arena_text arena journal (gc_blocks_in (words_of now.device))
