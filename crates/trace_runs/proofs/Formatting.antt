-- An arena that was formatted just now.
use Rattle.std.proofs.Common.{◌≡◌, ℕ, ◌*◌, ◌<◌, List, sym, ap, ◌∙◌, arith}
use Rattle.pmem_lines.specs.Words.{zeros}
use Rattle.pmem_lines.specs.Pmem.{PmemState, words_of, began, appended, fresh, IsZeroed}
use Rattle.pmem_lines.proofs.Words.{length-zeros}
use Rattle.pool_layout.specs.Layout.{layout_of}
use Rattle.heap_model.specs.Machine.{no_heap}
use Rattle.heap_model.specs.Placement.{no_stacks}
use Rattle.thread_cache.specs.Stacks.{stacks_of}
use Rattle.heap_check.specs.Image.{bounds_of, IsExactImage}
use Rattle.heap_check.specs.State.{HasState}
use Rattle.arena_core.specs.Arena.{ArenaState}
use Rattle.arena_core.specs.Events.{format_events}
use Rattle.pool_layout.specs.declared.header.PoolHeader.{PoolHeader}
use Rattle.arena_core.specs.Call.{IsReady}
use Rattle.trace_text.specs.declared.call.PoolSize.{PoolSize}
use Rattle.trace_text.specs.Grammar.{IsPool}
use Rattle.trace_runs.specs.Arenas.{header_for, bounds_for, formatted, IsNewArena}
use Rattle.pmem_lines.proofs.Words.{AreZeros-zeros}
use Rattle.pool_layout.specs.Header.{IsPoolHeader}
use Rattle.heap_check.specs.Image.{header_in}
use Rattle.heap_check.proofs.Formatted.{header_in-formatted}
use Rattle.pool_layout.specs.declared.header.PoolVariant.TheVariants.{Log}
use Rattle.arena_core.proofs.HeaderLines.{written, reading-line, formatted-written}

-- the header of a trace's arena is one that a pool may have
pub IsPoolHeader-for : {pool : PoolSize} {arena : ℕ} → IsPool pool → arena < pool.arenas → IsPoolHeader (header_for pool arena)
IsPoolHeader-for is below = record { version = is.version; some = is.some; most = is.few; number = below; least = is.least; greatest = is.most; together = is.together }

-- the arena that is formatted with its numbers
pub formatted_for : (pool : PoolSize) (arena version granules : ℕ) (device : PmemState) (made : ArenaState) → pool.version ≡ version → granules ≡ pool.granules →
    made.device ≡ appended (began device) (format_events (record { version = version; number = arena; arenas = pool.arenas; granules = granules })) → made.device ≡ appended (began device) (format_events (header_for pool arena))
formatted_for pool arena version granules device made same sizes is =
    is ∙ (λ i. appended (began device) (format_events (record { version = sym same i; number = arena; arenas = pool.arenas; granules = sizes i })))

-- the numbers of words of this header
bounds-formed : (words : List ℕ) (header : PoolHeader) → header_in words ≡ header → bounds_of words ≡ bounds_for header
bounds-formed words header is = ap bounds_for is

formatted_header : (header : PoolHeader) → IsPoolHeader header → header_in (formatted header) ≡ header
unfolding formatted
formatted_header header valid =
    ap header_in (reading-line Log (zeros (2048 * header.granules)) header)
    ∙ header_in-formatted (written Log (zeros (2048 * header.granules)) header) header (formatted-written Log (zeros (2048 * header.granules)) header (AreZeros-zeros (2048 * header.granules)) valid (length-zeros (2048 * header.granules)))

-- over a memory of zeros
made_new : (header : PoolHeader) (arena : ArenaState) → IsPoolHeader header → arena.device ≡ appended (began (fresh (zeros (2048 * header.granules)) (layout_of header.version).room)) (format_events header) →
    arena.line ≡ 0 → stacks_of arena.stacks ≡ no_stacks → IsReady arena.device → IsExactImage (words_of arena.device) → HasState (words_of arena.device) no_heap → IsNewArena header arena
unfolding formatted
made_new header arena valid made first stacks ready exact empty =
    let words : words_of arena.device ≡ formatted header = ap (λ (s : PmemState). words_of s) made in
    record {
      words = words;
      bounds = bounds-formed (words_of arena.device) header (ap header_in words ∙ formatted_header header valid);
      empty = empty;
      base = ap (λ (s : PmemState). s.base) made;
      events = ap (λ (s : PmemState). s.events) made;
      begins = ap (λ (s : PmemState). s.begins) made;
      line = first;
      stacks = stacks;
      ready = ready;
      exact = exact;
    }

pub IsNewArena-format : (header : PoolHeader) (device : PmemState) (arena : ArenaState) → IsPoolHeader header → IsZeroed device (256 * header.granules) (layout_of header.version).room → arena.device ≡ appended (began device) (format_events header) →
    arena.line ≡ 0 → stacks_of arena.stacks ≡ no_stacks → IsReady arena.device → IsExactImage (words_of arena.device) → HasState (words_of arena.device) no_heap → IsNewArena header arena
IsNewArena-format header device arena valid zeroed made line stacks ready exact empty =
    let lines : 8 * (256 * header.granules) ≡ 2048 * header.granules = omega arith in
    let first : device ≡ fresh (zeros (2048 * header.granules)) (layout_of header.version).room = zeroed.state ∙ ap (λ n. fresh (zeros n) (layout_of header.version).room) lines in
    made_new header arena valid (made ∙ ap (λ (s : PmemState). appended (began s) (format_events header)) first) line stacks ready exact empty
