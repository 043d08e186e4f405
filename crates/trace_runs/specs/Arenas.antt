-- The arenas of a trace's pool, each as it is formatted.
use Rattle.std.specs.Prelude.{◌≡◌, ℕ, ◌*◌, List}
use Rattle.pmem_lines.specs.Events.{reading}
use Rattle.pmem_lines.specs.Pmem.{words_of}
use Rattle.pmem_lines.specs.Words.{zeros}
use Rattle.pool_layout.specs.declared.header.PoolHeader.{PoolHeader}
use Rattle.pool_layout.specs.Layout.{layout_of}
use Rattle.heap_model.specs.Machine.{Bounds, no_heap}
use Rattle.heap_model.specs.Placement.{no_stacks}
use Rattle.thread_cache.specs.Stacks.{stacks_of}
use Rattle.heap_check.specs.Image.{bounds_of, IsExactImage}
use Rattle.heap_check.specs.State.{HasState}
use Rattle.arena_core.specs.Arena.{ArenaState}
use Rattle.arena_core.specs.Call.{IsReady}
use Rattle.arena_core.specs.Events.{format_events}
use Rattle.trace_text.specs.declared.call.PoolSize.{PoolSize}

-- the header of the arena of this number
abbrev pub header_for : PoolSize → ℕ → PoolHeader
header_for pool arena = record { version = pool.version; number = arena; arenas = pool.arenas; granules = pool.granules }

-- the numbers of an arena of this header
abbrev pub bounds_for : PoolHeader → Bounds
bounds_for header = record { roots = (layout_of header.version).roots; first = (layout_of header.version).first_granule; granules = header.granules }

-- the words of the arena of this header as it is formatted
unfoldable pub formatted : PoolHeader → List ℕ
formatted header = reading (zeros (2048 * header.granules)) (format_events header)

-- the arena was formatted with this header, and nothing was asked of it since: it has no block, and no stack has one
pub record IsNewArena (header : PoolHeader) (arena : ArenaState) : Type 0 where
  pub words : words_of arena.device ≡ formatted header
  pub bounds : bounds_of (words_of arena.device) ≡ bounds_for header
  pub empty : HasState (words_of arena.device) no_heap
  pub base : arena.device.base ≡ zeros (2048 * header.granules)
  pub events : arena.device.events ≡ format_events header
  pub begins : arena.device.begins ≡ 1
  pub line : arena.line ≡ 0
  pub stacks : stacks_of arena.stacks ≡ no_stacks
  pub ready : IsReady arena.device
  pub exact : IsExactImage (words_of arena.device)
