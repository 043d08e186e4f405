-- Live extents by start, and their entries.
use Rattle.std.specs.Prelude.{◌≡◌, ℕ, zero, suc, ◌+◌, ◌^◌, ◌<◌, ◌≤◌, List, [], ◌∷◌, ◌++◌, Option, Some, None}
use Rattle.image_tables.specs.declared.extent.Extent.{Extent}
use Rattle.image_tables.specs.declared.extent.Extent.TheVariants as extent
use Rattle.book_log.specs.declared.entry.LogEntry.TheVariants as entry
use Rattle.book_log.specs.Entry as words

-- how many granules an extent has
abbrev pub granules_of : Extent → ℕ
granules_of (extent.Large granules) = granules
granules_of extent.Slab = 4

-- extents share no granule
pub record AreDisjoint (extents : ℕ → Option Extent) : Type 0 where
  pub each : (start later : ℕ) (x other : Extent) → start < later → extents start ≡ Some x → extents later ≡ Some other → start + granules_of x ≤ later

-- a live extent of an arena of so many granules, whose heap begins with the granule `first`
pub record IsLive (first granules start : ℕ) (extent : Extent) : Type 0 where
  pub low : first ≤ start
  pub some : 2 ≤ granules_of extent
  pub high : start + granules_of extent ≤ granules
  pub fits : start + granules_of extent < 2 ^ 16

-- what a table says of the starts in such an arena is live
pub record AreLive (first granules : ℕ) (extents : ℕ → Option Extent) : Type 0 where
  pub each : (start : ℕ) (extent : Extent) → extents start ≡ Some extent → IsLive first granules start extent

-- the entry that says what starts at a granule, where anything does
abbrev pub live_word : ℕ → Option Extent → List ℕ
live_word start None = []
live_word start (Some (extent.Large granules)) = words.log_word (entry.Large start granules) ∷ []
live_word start (Some extent.Slab) = words.log_word (entry.Slab start) ∷ []

-- the entries of the extents that start at n granules from one on, by rising start
abbrev pub live_words : (ℕ → Option Extent) → ℕ → ℕ → List ℕ
live_words extents start zero = []
live_words extents start (suc n) = live_word start (extents start) ++ live_words extents (start + 1) n
