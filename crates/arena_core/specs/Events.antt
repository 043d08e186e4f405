-- The exact events of a call, as a function of the words at its begin.
use Rattle.std.specs.Prelude.{◌==◌, ◌&&◌, ◌||◌, nat_le, ℕ, ◌+◌, ◌-◌, ◌*◌, ◌/◌, ◌%◌, Bool, not, List, [], ◌∷◌, ◌++◌, if◌then◌else◌}
use Rattle.pmem_lines.specs.Words.{put_word}
use Rattle.pmem_lines.specs.declared.event.Event.{Event}
use Rattle.pmem_lines.specs.declared.event.Event.TheVariants.{Store, Flush, Fence}
use Rattle.pmem_lines.specs.Events.{reading}
use Rattle.durable_steps.specs.Rows.{row_events}
use Rattle.pool_layout.specs.declared.header.PoolHeader.{PoolHeader}
use Rattle.pool_layout.specs.declared.header.PoolVariant.{PoolVariant}
use Rattle.pool_layout.specs.declared.header.PoolVariant.TheVariants.{Log}
use Rattle.pool_layout.specs.Places.{text_word, fields_word, directory_word, root_word}
use Rattle.pool_layout.specs.Header.{text_of, header_word}
use Rattle.size_classes.specs.Classes.{class_size, class_capacity}
use Rattle.image_tables.specs.Forms.{morphed_kind}
use Rattle.image_tables.specs.Tables.{Tables, tables_of}
use Rattle.slab_header.specs.Morph.{morph_events, finish_old_events}
use Rattle.book_log.specs.declared.entry.LogEntry.TheVariants.{Large, Tomb}
use Rattle.log_steps.specs.Events.{first_zero, log_events}
use Rattle.extent_steps.specs.Slabs.{open_events, drop_events}
use Rattle.attach_steps.specs.declared.block.SmallBlock.{SmallBlock}
use Rattle.attach_steps.specs.Steps.{root_events, attach_events, detach_events, detach_old_events, move_events}
use Rattle.heap_model.specs.Below.{any_below}
use Rattle.heap_check.specs.Heap.{slab_of, is_old}
use Rattle.heap_model.specs.Machine.{slab_block}
use Rattle.heap_model.specs.declared.call.Call.{Call}
use Rattle.heap_model.specs.declared.call.Call.TheVariants as calls
use Rattle.heap_model.specs.declared.call.Reply.{Reply}
use Rattle.heap_model.specs.declared.call.Reply.TheVariants as replies

-- A large block is given to a root: its extent goes into the log, and then the root gets its address.
abbrev pub place_events : List ℕ → ℕ → ℕ → ℕ → List Event
place_events words root start count = log_events words (Large start count) ++ root_events root (16384 * start)

-- A large block is taken from a root: the root's word becomes 0, and then a Tomb for its extent goes into the log.
abbrev pub take_events : List ℕ → ℕ → ℕ → List Event
take_events words root start = root_events root 0 ++ log_events (put_word words (root_word root) 0) (Tomb start)

-- small blocks

-- a size is that of a small block
abbrev pub is_small : ℕ → Bool
is_small size = nat_le size 16384

-- the least class that holds a size
abbrev pub class_for : ℕ → ℕ
class_for size = first_zero (λ class. if nat_le size (class_size class) then 0 else 1) 36

-- the slab that has an address, and whether one has it
abbrev pub start_at : Tables → ℕ → ℕ
start_at t at = slab_of t.slab (at / 16384)

abbrev pub in_slab : Tables → ℕ → Bool
in_slab t at = t.slab (start_at t at)

-- the block of a size at an address of a slab
abbrev pub block_at : ℕ → ℕ → ℕ → SmallBlock
block_at start at size = record { start = start; number = (at - (16384 * start + 2048)) / size; at = at }

-- the first block of a slab
abbrev pub first_block : ℕ → SmallBlock
first_block start = record { start = start; number = 0; at = 16384 * start + 2048 }

-- a slab is opened, and its first block comes to a root
abbrev pub fresh_events : List ℕ → ℕ → ℕ → ℕ → ℕ → List Event
fresh_events words line root start class = open_events words start class ++ attach_events (reading words (open_events words start class)) line root (first_block start)

-- a slab takes the class, and a block of it comes to a root
abbrev pub morphed_events : List ℕ → ℕ → ℕ → SmallBlock → ℕ → List Event
morphed_events words line root block class =
    let morph = morph_events (tables_of words) block.start class in morph ++ attach_events (reading words morph) line root block

-- A small block comes to a root: from a slab that has its class, from one that takes it, or from one that is opened.
abbrev pub small_events : List ℕ → ℕ → ℕ → ℕ → ℕ → List Event
small_events words line root at size =
    let t = tables_of words in
    if in_slab t at then
    (if (t.header (start_at t at)).class == class_for size then attach_events words line root (block_at (start_at t at) at size)
    else morphed_events words line root (block_at (start_at t at) at size) (class_for size))
    else fresh_events words line root (at / 16384) (class_for size)

-- the slab at a start holds no block, of its class or old
abbrev pub holds_none : Tables → ℕ → Bool
holds_none t start = not (any_below (t.header start).bit (class_capacity (t.header start).class) || any_below (t.header start).live (t.header start).index_count)

-- it took its class, and no old block lives in it
abbrev pub is_done : Tables → ℕ → Bool
is_done t start = ((t.header start).kind == morphed_kind) && not (any_below (t.header start).live (t.header start).index_count)

-- behind a block that went, a slab that holds none is dropped, and one whose last old block it was is normal again
abbrev pub tidy_events : List ℕ → ℕ → List Event
tidy_events words start =
    let t = tables_of words in
    if holds_none t start then drop_events words start else (if is_done t start then finish_old_events start (t.header start).class else [])

-- a block of its slab's class goes from a root
abbrev pub unsmall_events : List ℕ → ℕ → ℕ → SmallBlock → List Event
unsmall_events words line root block = detach_events words line root block ++ tidy_events (reading words (detach_events words line root block)) block.start

-- the place of the live old block at an address in its slab's index table
abbrev pub old_place : Tables → ℕ → ℕ → ℕ
old_place t start at = first_zero (λ place. if (t.header start).live place && ((slab_block start (t.header start).old ((t.header start).number place)).at == at) then 0 else 1) (t.header start).index_count

-- an old block goes from a root
abbrev pub unold_events : List ℕ → ℕ → ℕ → ℕ → ℕ → List Event
unold_events words line root at start =
    let t = tables_of words in
    let detach = detach_old_events t line root at start (old_place t start at) in
    detach ++ tidy_events (reading words detach) start

-- calls

-- a block comes to a root
abbrev pub placed_events : List ℕ → ℕ → ℕ → ℕ → ℕ → List Event
placed_events words line root at size = if is_small size then small_events words line root at size else place_events words root (at / 16384) (size / 16384)

-- it goes from the root
abbrev pub freed_events : List ℕ → ℕ → ℕ → ℕ → ℕ → List Event
freed_events words line root at size =
    let t = tables_of words in
    if is_small size then
    (if is_old (t.header (start_at t at)) (start_at t at) at then unold_events words line root at (start_at t at) else unsmall_events words line root (block_at (start_at t at) at size))
    else take_events words root (at / 16384)

-- words are written one after another from an address on: a row of events, and none where there are no words
abbrev pub words_events : ℕ → List ℕ → List Event
words_events at [] = []
words_events at (word ∷ words) = row_events at (word ∷ words)

-- they are written into a root's block from an index on
abbrev pub write_events : Tables → ℕ → ℕ → List ℕ → List Event
write_events t root index words = words_events (t.root root + 8 * index) words

-- The events of a call with this reply, of which the entry goes to a write-ahead line. A refusal and a read have none.
abbrev pub call_events : List ℕ → ℕ → Call → Reply → List Event
call_events words line (calls.Malloc root size) (replies.Placed at given) = placed_events words line root at given
call_events words line (calls.Free root) (replies.Freed at size) = freed_events words line root at size
call_events words line (calls.Write root index word) replies.Wrote = write_events (tables_of words) root index (word ∷ [])
call_events words line (calls.Move from to) (replies.Moved at size) = move_events line from to at
call_events words line call reply = []

-- the line of the next entry, behind a call with this reply: small blocks and moves take the eight lines in turn
abbrev pub line_after : ℕ → Reply → ℕ
line_after line (replies.Placed at size) = if is_small size then (line + 1) % 8 else line
line_after line (replies.Freed at size) = if is_small size then (line + 1) % 8 else line
line_after line (replies.Moved at size) = (line + 1) % 8
line_after line reply = line

-- An arena of a variant is formatted: all of it stands in the header line, and its text comes last, so that no crash leaves a header
-- that is good and incomplete. The directory has chunk 0.
unfoldable pub line_events : PoolVariant → PoolHeader → List Event
line_events variant header =
    Store (8 * fields_word) (header_word header) ∷ Store (8 * directory_word) 1 ∷ Store (8 * text_word) (text_of variant) ∷ Flush 0 ∷ Fence ∷ []

abbrev pub format_events : PoolHeader → List Event
format_events header = line_events Log header
