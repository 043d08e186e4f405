-- Which journals are legal behind a lock: the entries lead from the state that the arena had at the opening, each by a
-- step of the placement. All that is said here of a journal's opening and its steps is said in this file; the rest of the
-- crate asks only that each beginning of a legal journal is legal.
use Rattle.std.specs.Prelude.{ℕ, None, List, []}
use Rattle.pmem_lines.specs.Events.{reading}
use Rattle.image_tables.specs.Tables.{tables_of}
use Rattle.heap_model.specs.declared.call.Entry.{Entry}
use Rattle.heap_model.specs.Machine.{Machine}
use Rattle.heap_model.specs.Placement.{PlacedState}
use Rattle.heap_model.specs.Journal.{Leads, IsPlacedEntry}
use Rattle.thread_cache.specs.Stacks.{stacks_of}
use Rattle.heap_check.specs.Heap.{heap, slabs}
use Rattle.heap_check.specs.Image.{bounds_of}
use Rattle.arena_lock.specs.declared.opening.Opening.{Opening}

-- the words that the memory had
abbrev pub opening_words : Opening → List ℕ
opening_words o = reading o.base o.events

-- the state that an arena of these words has, in which no word was written
abbrev pub machine_in : List ℕ → Machine
machine_in words = record { block = heap (tables_of words); slab = slabs (tables_of words); value = λ root index. None }

-- the state that the arena had, with its stacks
abbrev pub opening_state : Opening → PlacedState
opening_state o = record { machine = machine_in (opening_words o); stacks = stacks_of (record { lists = o.stacks }) }

-- the entries lead from the opening to a state, and each block is given where the placement says
abbrev pub LeadsTo : Opening → List Entry → PlacedState → Type 0
LeadsTo o entries last = Leads (IsPlacedEntry (bounds_of (opening_words o))) (opening_state o) entries last

-- a legal journal: it leads somewhere
abbrev pub IsLegal : Opening → List Entry → Type 0
IsLegal o entries = (last : PlacedState) × LeadsTo o entries last

-- the opening of a memory without words
abbrev pub no_opening : Opening
no_opening = record { base = []; events = []; room = 0; begins = 0; made = 0; next_line = 0; stacks = [] }
