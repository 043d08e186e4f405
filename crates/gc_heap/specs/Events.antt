-- The exact events of a call, as a function of the words at its begin. No write-ahead entry is put and no bit is stored: a root's
-- word alone gives a block or takes it.
use Rattle.std.specs.Prelude.{◌==◌, ◌&&◌, ℕ, ◌/◌, Bool, not, List, [], ◌∷◌, ◌++◌, if◌then◌else◌}
use Rattle.pmem_lines.specs.declared.event.Event.{Event}
use Rattle.pmem_lines.specs.Events.{reading}
use Rattle.pool_layout.specs.declared.header.PoolHeader.{PoolHeader}
use Rattle.pool_layout.specs.declared.header.PoolVariant.TheVariants.{Gc}
use Rattle.heap_model.specs.Below.{any_below}
use Rattle.heap_model.specs.Slabs.{is_within}
use Rattle.heap_model.specs.declared.call.Call.{Call}
use Rattle.heap_model.specs.declared.call.Call.TheVariants as calls
use Rattle.heap_model.specs.declared.call.Reply.{Reply}
use Rattle.heap_model.specs.declared.call.Reply.TheVariants as replies
use Rattle.heap_check.specs.Image.{bounds_of}
use Rattle.arena_core.specs.Events.{is_small, class_for, start_at, in_slab, write_events, line_events}
use Rattle.gc_check.specs.Heap.{small_word, gc_tables}
use Rattle.gc_steps.specs.Roots.{root_events}
use Rattle.gc_steps.specs.Slabs.{class_events}
use Rattle.gc_steps.specs.Extents.{slab_events, large_events, drop_events}

-- some root but one has an address in the slab at a granule
abbrev pub has_other : List ℕ → ℕ → ℕ → Bool
has_other words root start =
    any_below (λ other. not (other == root) && (not ((gc_tables words).root other == 0) && is_within start ((gc_tables words).root other))) (bounds_of words).roots

-- calls

-- a small block comes to a root: of a slab that has its class, of one that takes it, or of one that is made
abbrev pub small_events : List ℕ → ℕ → ℕ → ℕ → List Event
small_events words root at class =
    let t = gc_tables words in
    if in_slab t at then
    (if (t.header (start_at t at)).class == class then root_events root (small_word at class) else class_events (start_at t at) class ++ root_events root (small_word at class))
    else slab_events words (at / 16384) class ++ root_events root (small_word at class)

-- a block comes to a root: a large one is an extent of its own, and the root's word is its address
abbrev pub placed_events : List ℕ → ℕ → ℕ → ℕ → List Event
placed_events words root at size =
    if is_small size then small_events words root at (class_for size)
    else large_events words (at / 16384) (size / 16384) ++ root_events root at

-- the root's word goes, and then its extent
abbrev pub gone_events : List ℕ → ℕ → ℕ → List Event
gone_events words root start = root_events root 0 ++ drop_events (reading words (root_events root 0)) start

-- a block goes from the root, and with it a large extent, or a slab in which no other root's block lies
abbrev pub freed_events : List ℕ → ℕ → ℕ → ℕ → List Event
freed_events words root at size =
    let start = start_at (gc_tables words) at in
    if is_small size then (if has_other words root start then root_events root 0 else gone_events words root start)
    else gone_events words root (at / 16384)

-- the events of a call with this reply; a refusal and a read have none, and there is no move
abbrev pub gc_call_events : List ℕ → Call → Reply → List Event
gc_call_events words (calls.Malloc root size) (replies.Placed at given) = placed_events words root at given
gc_call_events words (calls.Free root) (replies.Freed at size) = freed_events words root at size
gc_call_events words (calls.Write root index word) replies.Wrote = write_events (gc_tables words) root index (word ∷ [])
gc_call_events words call reply = []

-- the events of formatting an arena of this variant
abbrev pub gc_format_events : PoolHeader → List Event
gc_format_events header = line_events Gc header
