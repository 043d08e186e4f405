-- An arena of this variant that was formatted just now.
use Rattle.std.proofs.Common.{◌≡◌, ℕ, ◌*◌, sym, ap, ◌∙◌, arith}
use Rattle.pmem_lines.specs.Words.{zeros}
use Rattle.pmem_lines.specs.Pmem.{PmemState, words_of, began, appended, fresh, IsZeroed}
use Rattle.pool_layout.specs.declared.header.PoolHeader.{PoolHeader}
use Rattle.pool_layout.specs.declared.header.PoolVariant.TheVariants.{Gc}
use Rattle.pool_layout.specs.Layout.{layout_of}
use Rattle.heap_model.specs.Machine.{no_heap}
use Rattle.heap_model.specs.Placement.{no_stacks}
use Rattle.thread_cache.specs.Stacks.{stacks_of}
use Rattle.heap_check.specs.Image.{header_in}
use Rattle.arena_core.specs.Call.{IsReady}
use Rattle.pool_layout.specs.Header.{IsGcPoolHeader}
use Rattle.gc_check.specs.Image.{IsGcExactImage}
use Rattle.gc_check.specs.State.{HasGcState}
use Rattle.gc_heap.specs.Arena.{GcState}
use Rattle.gc_heap.specs.Events.{gc_format_events}
use Rattle.heap_check.proofs.Formatted.{header_is}
use Rattle.arena_core.proofs.HeaderLines.{written, reading-line, formatted-written}
use Rattle.pmem_lines.proofs.Words.{length-zeros, AreZeros-zeros}
use Rattle.trace_text.specs.declared.call.PoolSize.{PoolSize}
use Rattle.trace_runs.specs.Arenas.{header_for, bounds_for}
use Rattle.gc_runs.specs.Arenas.{gc_formatted, IsNewGcArena}

-- the arena that is formatted with the numbers of a trace's arena
pub formatted_for : (pool : PoolSize) (arena granules : ℕ) (device : PmemState) (made : GcState) → pool.version ≡ 1 → granules ≡ pool.granules →
    made.device ≡ appended (began device) (gc_format_events (record { version = 1; number = arena; arenas = pool.arenas; granules = granules })) → made.device ≡ appended (began device) (gc_format_events (header_for pool arena))
formatted_for pool arena granules device made first sizes is =
    is ∙ (λ i. appended (began device) (gc_format_events (record { version = sym first i; number = arena; arenas = pool.arenas; granules = sizes i })))

-- the header that it says
formatted_header : (header : PoolHeader) → IsGcPoolHeader header → header_in (gc_formatted header) ≡ header
unfolding gc_formatted
formatted_header header valid =
    let blank = zeros (2048 * header.granules) in
    ap header_in (reading-line Gc blank header) ∙ header_is Gc (written Gc blank header) header (formatted-written Gc blank header (AreZeros-zeros (2048 * header.granules)) valid (length-zeros (2048 * header.granules)))

-- over a memory of zeros
pub new_formatted : (header : PoolHeader) (device : PmemState) (arena : GcState) → IsGcPoolHeader header → IsZeroed device (256 * header.granules) (layout_of header.version).room →
    arena.device ≡ appended (began device) (gc_format_events header) → stacks_of arena.stacks ≡ no_stacks → IsReady arena.device → IsGcExactImage (words_of arena.device) → HasGcState (words_of arena.device) no_heap → IsNewGcArena header arena
unfolding gc_formatted
new_formatted header device arena valid zeroed made stacks ready exact empty =
    let lines : 8 * (256 * header.granules) ≡ 2048 * header.granules = omega arith in
    let first : device ≡ fresh (zeros (2048 * header.granules)) (layout_of header.version).room = zeroed.state ∙ ap (λ n. fresh (zeros n) (layout_of header.version).room) lines in
    let all : arena.device ≡ appended (began (fresh (zeros (2048 * header.granules)) (layout_of header.version).room)) (gc_format_events header) = made ∙ ap (λ (s : PmemState). appended (began s) (gc_format_events header)) first in
    let words : words_of arena.device ≡ gc_formatted header = ap (λ (s : PmemState). words_of s) all in
    record {
      words = words;
      bounds = ap bounds_for (ap header_in words ∙ formatted_header header valid);
      empty = empty;
      base = ap (λ (s : PmemState). s.base) all;
      events = ap (λ (s : PmemState). s.events) all;
      begins = ap (λ (s : PmemState). s.begins) all;
      stacks = stacks;
      ready = ready;
      exact = exact;
    }
