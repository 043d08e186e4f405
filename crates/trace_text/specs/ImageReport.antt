-- What is printed of images, byte by byte. Every line ends with a line feed.
use Rattle.std.specs.Prelude.{ℕ, List, [], ◌∷◌, ◌++◌, decimal, codes}
use Rattle.pool_layout.specs.declared.defect.Defect.{Defect}
use Rattle.pool_layout.specs.declared.defect.Defect.TheVariants.{BadLength}
use Rattle.pool_layout.specs.Defect.{defect_text}
use Rattle.heap_model.specs.declared.block.Block.{Block}
use Rattle.trace_text.specs.Report.{heap_text}

-- what the sound image of an arena has: live large extents, live slabs, root words that are not 0, and loose things
abbrev pub summary_line : ℕ → ℕ → ℕ → ℕ → ℕ → List ℕ
summary_line arena large slabs blocks loose =
    codes "arena " ++ decimal arena ++ codes " large " ++ decimal large ++ codes " slabs " ++ decimal slabs ++ codes " blocks " ++ decimal blocks
    ++ codes " loose " ++ decimal loose ++ 10 ∷ []

-- the heap of an arena that was recovered
abbrev pub recovered_text : ℕ → List Block → List ℕ
recovered_text arena blocks = codes "arena " ++ decimal arena ++ 32 ∷ heap_text blocks

-- whose defect it is: a length is that of the whole image
abbrev pub defect_place : ℕ → Defect → List ℕ
defect_place arena (BadLength have need) = []
defect_place arena defect = codes "arena " ++ decimal arena ++ 32 ∷ []

-- why an image is refused
abbrev pub defect_line : ℕ → Defect → List ℕ
defect_line arena defect = defect_place arena defect ++ defect_text defect ++ 10 ∷ []

-- the version of an image that is refused for it
abbrev pub version_line : ℕ → List ℕ
version_line version = codes "version " ++ decimal version ++ 10 ∷ []
