-- What an arena of this variant of a trace's pool went through since it was formatted.
use Rattle.std.specs.Prelude.{◌≡◌, ◌⊎◌, ℕ, ◌+◌, ◌*◌, List, [], ◌∷◌}
use Rattle.pmem_lines.specs.Events.{IsQuiet, reading}
use Rattle.pmem_lines.specs.Pmem.{PmemState, words_of}
use Rattle.pmem_lines.specs.Words.{zeros}
use Rattle.pool_layout.specs.declared.header.PoolHeader.{PoolHeader}
use Rattle.heap_model.specs.declared.call.Entry.{Entry}
use Rattle.heap_model.specs.Machine.{Machine, IsOverlapFree}
use Rattle.heap_model.specs.Placement.{Stacks}
use Rattle.arena_journal.specs.Journals.{begun_by, LastBegun}
use Rattle.trace_runs.specs.Arenas.{bounds_for}
use Rattle.trace_runs.specs.Journals.{IsJournal}
use Rattle.gc_check.specs.Image.{IsGcExactImage}
use Rattle.gc_check.specs.State.{HasGcState}
use Rattle.gc_heap.specs.Events.{gc_call_events, gc_format_events}
use Rattle.gc_runs.specs.Arenas.{gc_formatted}

-- the words that entries lead to, of which each has the events of its call, from these words on
abbrev pub gc_words_along : List ℕ → List Entry → List ℕ
gc_words_along words [] = words
gc_words_along words (e ∷ es) = gc_words_along (reading words (gc_call_events words e.call e.reply)) es

-- every entry is a Read, and the device is as formatting left it
pub record IsAsGcFormatted (header : PoolHeader) (device : PmemState) (journal : List Entry) : Type 0 where
  pub none : begun_by journal ≡ 0
  pub base : device.base ≡ zeros (2048 * header.granules)
  pub events : device.events ≡ gc_format_events header

-- the device went through the journal's last entry that is no Read: its base is exact, with the state that the entries before lead
-- to, and its events are that call's
pub record IsBehindLastGc (header : PoolHeader) (device : PmemState) (journal : List Entry) : Type 0 where
  pub last : LastBegun journal
  pub machine : Machine
  pub stacks : Stacks
  pub leads : IsJournal header last.before (record { machine = machine; stacks = stacks })
  pub exact : IsGcExactImage device.base
  pub state : HasGcState device.base machine
  pub events : device.events ≡ gc_call_events device.base last.entry.call last.entry.reply

-- The device of an arena that was formatted with this header went through a legal journal to this state and some stacks, in which no
-- two blocks overlap. It is quiet and exact, with that state. Its words are, word for word, those that the events of the entries'
-- calls make of the formatted ones. It began one call for the formatting, and one for each entry that is no Read; its base and events
-- are those of the last of these.
pub record HasGcRun (header : PoolHeader) (device : PmemState) (journal : List Entry) (machine : Machine) : Type 0 where
  pub stacks : Stacks
  pub legal : IsJournal header journal (record { machine = machine; stacks = stacks })
  pub apart : IsOverlapFree (bounds_for header) machine
  pub quiet : IsQuiet device.events
  pub exact : IsGcExactImage (words_of device)
  pub state : HasGcState (words_of device) machine
  pub words : words_of device ≡ gc_words_along (gc_formatted header) journal
  pub begins : device.begins ≡ 1 + begun_by journal
  pub last : IsAsGcFormatted header device journal ⊎ IsBehindLastGc header device journal
