-- Tables that say for each granule what starts there.
use Rattle.std.specs.Prelude.{◌≡◌, ℕ, ◌<◌, ◌≤◌, List, slice_index_or, Option, Some, None}
use Rattle.image_tables.specs.declared.extent.Extent.{Extent}
use Rattle.book_log.specs.declared.entry.LogEntry.{LogEntry}
use Rattle.book_log.specs.Entry.{start_of, extent_of}

-- what starts at a granule, by a list of what starts at each
abbrev pub extent_in : List (Option Extent) → ℕ → Option Extent
extent_in live start = slice_index_or live start None

-- the entry says what the live extent with the least start from this one on is
pub record IsNextLive (table : ℕ → Option Extent) (from : ℕ) (entry : LogEntry) : Type 0 where
  pub extent : Extent
  pub says : extent_of entry ≡ Some extent
  pub live : table (start_of entry) ≡ Some extent
  pub at_least : from ≤ start_of entry
  pub least : (start : ℕ) → from ≤ start → start < start_of entry → table start ≡ None

-- no extent from this start on is live
pub record IsNoneLive (table : ℕ → Option Extent) (from : ℕ) : Type 0 where
  pub none : (start : ℕ) → from ≤ start → table start ≡ None
