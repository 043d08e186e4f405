-- The arenas of this variant of a trace's pool, each as it is formatted.
use Rattle.std.specs.Prelude.{◌≡◌, ℕ, ◌*◌, List}
use Rattle.pmem_lines.specs.Events.{reading}
use Rattle.pmem_lines.specs.Pmem.{words_of}
use Rattle.pmem_lines.specs.Words.{zeros}
use Rattle.pool_layout.specs.declared.header.PoolHeader.{PoolHeader}
use Rattle.heap_model.specs.Machine.{no_heap}
use Rattle.heap_model.specs.Placement.{no_stacks}
use Rattle.thread_cache.specs.Stacks.{stacks_of}
use Rattle.heap_check.specs.Image.{bounds_of}
use Rattle.arena_core.specs.Call.{IsReady}
use Rattle.gc_check.specs.Image.{IsGcExactImage}
use Rattle.gc_check.specs.State.{HasGcState}
use Rattle.gc_heap.specs.Arena.{GcState}
use Rattle.gc_heap.specs.Events.{gc_format_events}
use Rattle.trace_runs.specs.Arenas.{bounds_for}

-- the words of the arena of this header as it is formatted
unfoldable pub gc_formatted : PoolHeader → List ℕ
gc_formatted header = reading (zeros (2048 * header.granules)) (gc_format_events header)

-- the arena was formatted with this header, and nothing was asked of it since: it has no block, and no stack has one
pub record IsNewGcArena (header : PoolHeader) (arena : GcState) : Type 0 where
  pub words : words_of arena.device ≡ gc_formatted header
  pub bounds : bounds_of (words_of arena.device) ≡ bounds_for header
  pub empty : HasGcState (words_of arena.device) no_heap
  pub base : arena.device.base ≡ zeros (2048 * header.granules)
  pub events : arena.device.events ≡ gc_format_events header
  pub begins : arena.device.begins ≡ 1
  pub stacks : stacks_of arena.stacks ≡ no_stacks
  pub ready : IsReady arena.device
  pub exact : IsGcExactImage (words_of arena.device)
