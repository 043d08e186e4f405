-- A law of summaries.
use Rattle.std.specs.Prelude.{◌≡◌, ◌↔◌, ℕ, List}
use Rattle.heap_check.specs.Image.{IsSoundImage, IsExactImage}
use Rattle.image_defects.specs.declared.summary.Summary.{Summary}
use Rattle.image_defects.specs.Summaries.{IsSummary}

-- a sound image is exact where its summary counts nothing loose, and back
abbrev pub LawOfExactSummary : Type 0
LawOfExactSummary = (words : List ℕ) (summary : Summary) → IsSoundImage words → IsSummary words summary → ((summary.loose ≡ 0) ↔ IsExactImage words)
