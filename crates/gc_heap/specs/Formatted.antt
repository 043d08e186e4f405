-- An arena of this variant as it is formatted.
use Rattle.std.specs.Prelude.{◌⊎◌, ℕ, List}
use Rattle.pool_layout.specs.declared.header.PoolHeader.{PoolHeader}
use Rattle.pool_layout.specs.declared.header.PoolVariant.TheVariants.{Gc}
use Rattle.pool_layout.specs.declared.defect.Defect.TheVariants.{BadHeader}
use Rattle.heap_model.specs.Machine.{no_heap}
use Rattle.pool_layout.specs.Header.{IsGcHeaderDefect}
use Rattle.heap_check.specs.Formatted.{IsFormattedAs}
use Rattle.gc_check.specs.Image.{IsGcExactImage}
use Rattle.gc_check.specs.State.{HasGcState}

-- it has the header line of this variant, and nothing was allocated yet
abbrev pub IsGcFormatted : List ℕ → PoolHeader → Type 0
IsGcFormatted words fields = IsFormattedAs Gc words fields

-- a crash while an arena is formatted leaves an image that is refused for its first word, or an exact one with no block
abbrev pub IsGcFormattedOrNot : List ℕ → Type 0
IsGcFormattedOrNot image = IsGcHeaderDefect image (BadHeader 0 0) ⊎ (IsGcExactImage image × HasGcState image no_heap)
