-- The blocks of an arena of this variant, one after another.
use Rattle.std.proofs.Common.{◌≡◌, ℕ, ◌-◌, List, ap, ◌∙◌}
use Rattle.trace_runs.specs.Blocks.{blocks_from}
use Rattle.heap_model.specs.Machine.{Bounds}
use Rattle.heap_check.specs.Image.{bounds_of}
use Rattle.trace_runs.proofs.Listing.{blocks_of-same}
use Rattle.gc_check.specs.State.{gc_blocks, HaveSameGcHeap}
use Rattle.gc_runs.specs.Told.{gc_blocks_in}

-- images of the same numbers with the same heap have the same blocks
pub gc_blocks_in-same : (words image : List ℕ) → bounds_of image ≡ bounds_of words → HaveSameGcHeap words image → gc_blocks_in image ≡ gc_blocks_in words
gc_blocks_in-same words image numbers same =
    blocks_of-same image (gc_blocks image) (gc_blocks words) same.each ∙ ap (λ (b : Bounds). blocks_from (gc_blocks words) 0 b.roots) numbers
