-- What an arena of a trace's pool went through since it was formatted.
use Rattle.std.specs.Prelude.{◌≡◌, ◌⊎◌, ◌+◌, ◌*◌, List}
use Rattle.pmem_lines.specs.Events.{IsQuiet}
use Rattle.pmem_lines.specs.Pmem.{PmemState, words_of}
use Rattle.pmem_lines.specs.Words.{zeros}
use Rattle.pool_layout.specs.declared.header.PoolHeader.{PoolHeader}
use Rattle.heap_model.specs.declared.call.Entry.{Entry}
use Rattle.heap_model.specs.Machine.{Machine, no_heap, IsOverlapFree}
use Rattle.heap_model.specs.Placement.{Stacks, PlacedState, bare}
use Rattle.heap_model.specs.Journal.{Leads, IsPlacedEntry}
use Rattle.heap_check.specs.Image.{IsExactImage}
use Rattle.heap_check.specs.State.{HasState}
use Rattle.arena_core.specs.Events.{format_events, call_events}
use Rattle.arena_journal.specs.Journals.{begun_by, line_behind, words_along, LastBegun}
use Rattle.trace_text.specs.declared.call.TraceCall.{TraceCall}
use Rattle.trace_runs.specs.Arenas.{bounds_for, formatted}
use Rattle.trace_runs.specs.Calls.{AreAnswers}

-- The entries are a legal journal of an arena of this header, from the empty heap and empty stacks to this state with its
-- stacks: each block is given where the placement says.
abbrev pub IsJournal : PoolHeader → List Entry → PlacedState → Type 0
IsJournal header journal last = Leads (IsPlacedEntry (bounds_for header)) (bare no_heap) journal last

-- every entry is a Read, and the device is as formatting left it
pub record IsAsFormatted (header : PoolHeader) (device : PmemState) (journal : List Entry) : Type 0 where
  pub none : begun_by journal ≡ 0
  pub base : device.base ≡ zeros (2048 * header.granules)
  pub events : device.events ≡ format_events header

-- the device went through the journal's last entry that is no Read: its base is exact, with the state that the entries
-- before lead to, and its events are that call's, at the write-ahead line that those entries lead to
pub record IsBehindLast (header : PoolHeader) (device : PmemState) (journal : List Entry) : Type 0 where
  pub last : LastBegun journal
  pub machine : Machine
  pub stacks : Stacks
  pub leads : IsJournal header last.before (record { machine = machine; stacks = stacks })
  pub exact : IsExactImage device.base
  pub state : HasState device.base machine
  pub events : device.events ≡ call_events device.base (line_behind 0 last.before) last.entry.call last.entry.reply

-- The device of an arena that was formatted with this header went through a legal journal to this state and some stacks, in
-- which no two blocks overlap. It is quiet and exact, with that state. Its words are, word for word, those that the events of
-- the entries' calls make of the formatted ones. It began one call for the formatting, and one for each entry that is no Read;
-- its base and events are those of the last of these.
pub record HasRun (header : PoolHeader) (device : PmemState) (journal : List Entry) (machine : Machine) : Type 0 where
  pub stacks : Stacks
  pub legal : IsJournal header journal (record { machine = machine; stacks = stacks })
  pub apart : IsOverlapFree (bounds_for header) machine
  pub quiet : IsQuiet device.events
  pub exact : IsExactImage (words_of device)
  pub state : HasState (words_of device) machine
  pub words : words_of device ≡ words_along (formatted header) 0 journal
  pub begins : device.begins ≡ 1 + begun_by journal
  pub last : IsAsFormatted header device journal ⊎ IsBehindLast header device journal

-- The device of an arena that was formatted with this header went through a legal journal that answers these calls, in order.
pub record IsRunThrough (header : PoolHeader) (calls : List TraceCall) (device : PmemState) : Type 0 where
  pub journal : List Entry
  pub machine : Machine
  pub answers : AreAnswers calls journal
  pub run : HasRun header device journal machine
