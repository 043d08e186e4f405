-- What `check` reports of the image of a pool: a line for each arena, or the first defect.
use Rattle.std.specs.Prelude.{◌≡◌, ◌⊎◌, ℕ, ◌+◌, ◌<◌, ◌≤◌, List, [], ◌∷◌, ◌++◌, length}
use Rattle.pool_layout.specs.declared.header.PoolHeader.{PoolHeader}
use Rattle.pool_layout.specs.declared.defect.Defect.{Defect}
use Rattle.pool_layout.specs.Image.{part_of, IsImageOf, IsImageDefect}
use Rattle.heap_check.specs.Image.{IsSoundImage}
use Rattle.image_defects.specs.declared.summary.Summary.{Summary}
use Rattle.image_defects.specs.Defects.{IsFirstDefect}
use Rattle.image_defects.specs.Summaries.{IsSummary}
use Rattle.trace_text.specs.ImageReport.{summary_line}
use Rattle.trace_runs.specs.Each.{EachFrom}

-- the line of an arena
abbrev pub line_of : ℕ → Summary → List ℕ
line_of arena s = summary_line arena s.large s.slabs s.blocks s.loose

-- the lines of arenas, from one on
abbrev pub lines_of : ℕ → List Summary → List ℕ
lines_of arena [] = []
lines_of arena (s ∷ ss) = line_of arena s ++ lines_of (arena + 1) ss

-- the first so many arenas of a pool of so many granules each are sound, and the text has their lines, with their counts
pub record HasLines (words : List ℕ) (granules count : ℕ) (text : List ℕ) : Type 0 where
  pub summaries : List Summary
  pub all : length summaries ≡ count
  pub sound : EachFrom (λ arena s. IsSoundImage (part_of words granules arena) × IsSummary (part_of words granules arena) s) 0 summaries
  pub is : text ≡ lines_of 0 summaries

-- an arena is the first from one on that is not sound, and this is its first defect
pub record HasUnsoundFrom (words : List ℕ) (header : PoolHeader) (from arena : ℕ) (defect : Defect) : Type 0 where
  pub low : from ≤ arena
  pub inside : arena < header.arenas
  pub before : (earlier : ℕ) → from ≤ earlier → earlier < arena → IsSoundImage (part_of words header.granules earlier)
  pub first : IsFirstDefect (part_of words header.granules arena) defect

-- The bytes are the image of a pool of which every arena is sound, and the text has the line of each.
pub record IsChecked (bytes text : List ℕ) : Type 0 where
  pub words : List ℕ
  pub image : IsImageOf bytes words
  pub lines : HasLines words image.header.granules image.header.arenas text

-- the bytes are the image of a pool of which some arena is not sound
pub record HasUnsoundArena (bytes : List ℕ) (arena : ℕ) (defect : Defect) : Type 0 where
  pub words : List ℕ
  pub image : IsImageOf bytes words
  pub unsound : HasUnsoundFrom words image.header 0 arena defect

-- Why an image is refused: the bytes are none of a pool; else the lowest arena that is not sound, by its first defect.
abbrev pub IsPoolDefect : List ℕ → ℕ → Defect → Type 0
IsPoolDefect bytes arena defect = IsImageDefect bytes arena defect ⊎ HasUnsoundArena bytes arena defect

-- one arena's line is added behind a text
pub record AddsLine (words : List ℕ) (arena : ℕ) (old new : List ℕ) : Type 0 where
  pub summary : Summary
  pub sound : IsSoundImage words
  pub says : IsSummary words summary
  pub is : new ≡ old ++ line_of arena summary

-- an arena's own first defect
pub record IsOwnDefect (words : List ℕ) (arena found : ℕ) (defect : Defect) : Type 0 where
  pub same : found ≡ arena
  pub first : IsFirstDefect words defect
