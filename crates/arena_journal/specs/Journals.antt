-- What a journal says of the arena that it is of: the opening, which is the arena as the journal began, the entries since,
-- and the arena as it is now.
use Rattle.std.specs.Prelude.{◌≡◌, ◌⊎◌, ℕ, suc, Bool, true, false, if◌then◌else◌, List, [], ◌∷◌, ◌++◌}
use Rattle.pmem_lines.specs.Events.{CrashOnly, reading}
use Rattle.pmem_lines.specs.Pmem.{words_of, began, appended, risen}
use Rattle.heap_model.specs.declared.call.Call.{Call}
use Rattle.heap_model.specs.declared.call.Call.TheVariants.{Read}
use Rattle.heap_model.specs.declared.call.Reply.{Reply}
use Rattle.heap_model.specs.declared.call.Entry.{Entry}
use Rattle.heap_model.specs.Machine.{Machine, IsOverlapFree}
use Rattle.heap_model.specs.Placement.{Stacks}
use Rattle.thread_cache.specs.Stacks.{stacks_of}
use Rattle.heap_check.specs.Image.{bounds_of, IsExactImage}
use Rattle.heap_check.specs.State.{HasState}
use Rattle.arena_core.specs.Arena.{ArenaState}
use Rattle.arena_core.specs.ByCall.{IsLeftBy, KeepsUnwritten, IsWordRead}
use Rattle.arena_core.specs.Call.{IsReady, IsStepOf}
use Rattle.arena_core.specs.Events.{call_events, line_after}
use Rattle.arena_lock.specs.declared.opening.Opening.{Opening}
use Rattle.arena_lock.specs.Legality.{opening_words, LeadsTo}

-- openings

-- an arena as the state that a journal begins at, and back
abbrev pub opened : ArenaState → Opening
opened a = record { base = a.device.base; events = a.device.events; room = a.device.room; begins = a.device.begins; made = a.device.made; next_line = a.line; stacks = a.stacks.lists }

abbrev pub arena_of : Opening → ArenaState
arena_of o = record { device = record { base = o.base; events = o.events; room = o.room; begins = o.begins; made = o.made }; line = o.next_line; stacks = record { lists = o.stacks } }

-- calls

-- the call begins one on the memory: all but a Read do
abbrev pub begins_call : Call → Bool
begins_call (Read root index) = false
begins_call call = true

-- how many entries are no Read
abbrev pub begun_by : List Entry → ℕ
begun_by [] = 0
begun_by (e ∷ es) = if begins_call e.call then suc (begun_by es) else begun_by es

-- the write-ahead line of the next entry, behind calls before which it was this one
abbrev pub line_behind : ℕ → List Entry → ℕ
line_behind line [] = line
line_behind line (e ∷ es) = line_behind (line_after line e.reply) es

-- the words that entries lead to, of which each has the events of its call, from these words and this write-ahead line on
abbrev pub words_along : List ℕ → ℕ → List Entry → List ℕ
words_along words line [] = words
words_along words line (e ∷ es) = words_along (reading words (call_events words line e.call e.reply)) (line_after line e.reply) es

-- the arena and its journal

-- every entry is a Read, and the arena is as it was handed over
pub record IsUntouched (o : Opening) (journal : List Entry) (now : ArenaState) : Type 0 where
  pub none : begun_by journal ≡ 0
  pub same : now ≡ arena_of o

-- the last entry of a journal that is no Read, with those before it, and the Reads behind it
pub record LastBegun (journal : List Entry) : Type 0 where
  pub before : List Entry
  pub entry : Entry
  pub reads : List Entry
  pub is : journal ≡ before ++ entry ∷ reads
  pub begins : begins_call entry.call ≡ true
  pub none : begun_by reads ≡ 0

-- The memory went through a call behind these entries: its base is exact, with the state that the entries lead to, and its
-- events are the call's, at the write-ahead line that they lead to. A crash within it leaves what one within such a call
-- leaves: the heap before it or after it, of a Write each word old or new, and of a Move its entry may be open.
pub record WentThrough (o : Opening) (before : List Entry) (entry : Entry) (now : ArenaState) : Type 0 where
  pub machine : Machine
  pub stacks : Stacks
  pub leads : LeadsTo o before (record { machine = machine; stacks = stacks })
  pub exact : IsExactImage now.device.base
  pub state : HasState now.device.base machine
  pub events : now.device.events ≡ call_events now.device.base (line_behind o.next_line before) entry.call entry.reply
  pub crash : CrashOnly now.device.base now.device.events (IsLeftBy entry.call now.device.base (words_of now.device))

-- the memory went through the last call that is no Read
pub record IsBehindCall (o : Opening) (journal : List Entry) (now : ArenaState) : Type 0 where
  pub last : LastBegun journal
  pub through : WentThrough o last.before last.entry now

-- The journal leads from the opening to the arena as it is: to its blocks, slabs and words, with its stacks beside them, to
-- its write-ahead line, to its words, word for word, and to its count of begun calls. No two blocks overlap, and the memory
-- is quiet and exact. Base and events are those of the last call that is no Read, or those of the opening.
pub record IsBehind (o : Opening) (journal : List Entry) (now : ArenaState) : Type 0 where
  pub machine : Machine
  pub leads : LeadsTo o journal (record { machine = machine; stacks = stacks_of now.stacks })
  pub state : HasState (words_of now.device) machine
  pub apart : IsOverlapFree (bounds_of (words_of now.device)) machine
  pub ready : IsReady now.device
  pub exact : IsExactImage (words_of now.device)
  pub bounds : bounds_of (words_of now.device) ≡ bounds_of (opening_words o)
  pub line : now.line ≡ line_behind o.next_line journal
  pub words : words_of now.device ≡ words_along (opening_words o) o.next_line journal
  pub begins : now.device.begins ≡ risen o.begins (begun_by journal)
  pub last : IsUntouched o journal now ⊎ IsBehindCall o journal now

-- one call

-- The arena began one call on the memory, and has exactly the events of the call. A crash within it leaves what one within
-- such a call leaves.
pub record HasBegun (old new : ArenaState) (call : Call) (reply : Reply) : Type 0 where
  pub device : new.device ≡ appended (began old.device) (call_events (words_of old.device) old.line call reply)
  pub crash : CrashOnly new.device.base new.device.events (IsLeftBy call (words_of old.device) (words_of new.device))

-- the arena is as it was, and a word that it answers is the one that stands there
pub record HasRead (old new : ArenaState) (root index : ℕ) (reply : Reply) : Type 0 where
  pub same : new ≡ old
  pub word : IsWordRead (words_of old.device) root index reply

-- what an arena did, by the call
abbrev pub HasDone : ArenaState → ArenaState → Call → Reply → Type 0
HasDone old new (Read root index) reply = HasRead old new root index reply
HasDone old new call reply = HasBegun old new call reply

-- From an exact image the arena answered a call of a seat: a step of the machine, with the stacks before it and behind it,
-- by which every other block keeps its words, and of a written one every other word stays. A call that is no Read began one
-- on the memory, and has exactly its events; a Read leaves the whole arena as it was.
pub record HasAnswered (seat : ℕ) (old new : ArenaState) (call : Call) (reply : Reply) : Type 0 where
  pub step : IsStepOf seat (words_of old.device) (stacks_of old.stacks) (words_of new.device) (stacks_of new.stacks) call reply
  pub done : HasDone old new call reply
  pub line : new.line ≡ line_after old.line reply
  pub keeps : KeepsUnwritten call (words_of old.device) (words_of new.device)
  pub was_exact : IsExactImage (words_of old.device)
  pub exact : IsExactImage (words_of new.device)
  pub ready : IsReady new.device
