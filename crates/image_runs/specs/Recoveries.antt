-- What `recover` prints of the arenas of a pool: the heap of each, as its words have it.
use Rattle.std.specs.Prelude.{ℕ, zero, suc, ◌+◌, List, [], ◌++◌}
use Rattle.pool_layout.specs.Image.{part_of}
use Rattle.pool_layout.specs.declared.image.ImageFault.{ImageFault}
use Rattle.pool_layout.specs.declared.image.ImageFault.TheVariants as images
use Rattle.trace_text.specs.ImageReport.{recovered_text}
use Rattle.trace_runs.specs.Blocks.{blocks_in}
use Rattle.recover.specs.declared.fault.RecoverFault.{RecoverFault}
use Rattle.recover.specs.declared.fault.RecoverFault.TheVariants as faults

-- the fault of an arena's recovery, as one of its pool
abbrev pub fault_at : ℕ → RecoverFault → ImageFault
fault_at arena (faults.Memory error) = images.Memory error
fault_at arena (faults.Defect defect) = images.Defect arena defect

-- the lines of an arena of these words: its heap, block by block
abbrev pub heap_lines : ℕ → List ℕ → List ℕ
heap_lines arena words = recovered_text arena (blocks_in words)

-- the lines of n arenas from one on, of a pool whose arenas have so many granules
abbrev pub heaps_from : List ℕ → ℕ → ℕ → ℕ → List ℕ
heaps_from words granules arena zero = []
heaps_from words granules arena (suc n) = heap_lines arena (part_of words granules arena) ++ heaps_from words granules (arena + 1) n
