-- A live large extent of a well-formed log has two granules at least.
use Rattle.std.proofs.Common.{◌≡◌, ◌<◌, ◌≤◌, ◌^◌, ℕ, List, Option, None, Some, ap, refl, arith, MatchOption}
use Rattle.heap_check.proofs.Common.{granules_in, Extent, extent_at, large_of, tables_of, large_table, HasLog, chunks_of}
use Rattle.image_tables.specs.declared.extent.Extent.TheVariants.{Large, Slab}
use Rattle.book_log.specs.declared.entry.LogEntry.{LogEntry}
use Rattle.book_log.specs.declared.entry.LogEntry.TheVariants as entry
use Rattle.book_log.proofs.LiveExtents.{live_extents}
use Rattle.book_log.specs.Table.{IsNextLive, IsNoneLive}
use Rattle.book_log.specs.Entry.{extent_of}

some_large : (extent : Option Extent) → 0 < large_of extent → extent ≡ Some (Large (large_of extent))
some_large None some = absurd (omega (arith, some))
some_large (Some (Large granules)) some = refl
some_large (Some Slab) some = absurd (omega (arith, some))

pub live_large : (words : List ℕ) (start : ℕ) → 0 < (tables_of words).large start → extent_at words start ≡ Some (Large ((tables_of words).large start))
live_large words start some =
    grind (arith, large_table, some_large)

pub large_many : (words : List ℕ) (start : ℕ) → granules_in words < 2 ^ 16 → HasLog (granules_in words) words → 0 < (tables_of words).large start → 2 ≤ (tables_of words).large start
large_many words start few log some =
    ((live_extents (granules_in words) words (chunks_of words) few log).each start (Large ((tables_of words).large start)) (live_large words start some)).some

-- the entry of the next live extent, where one starts right here
next_here : (table : ℕ → Option Extent) (start : ℕ) (extent : Extent) (next : LogEntry) → table start ≡ Some extent → IsNextLive table start next → extent_of next ≡ Some extent
next_here table start extent next is live = grind arith

large_entry : (next : LogEntry) (granules : ℕ) → extent_of next ≡ Some (Large granules) → (start : ℕ) × (next ≡ entry.Large start granules)
large_entry (entry.Large start size) granules is = (start, let same : size ≡ granules = cc in ap (entry.Large start) same)
large_entry (entry.Slab start) granules is = absurd (cc)
large_entry (entry.Tomb start) granules is = absurd (cc)

-- where a large extent starts right here, the next live one found from here on is an entry of as many granules
pub next_large : (words : List ℕ) (start : ℕ) (found : Option LogEntry) → 0 < (tables_of words).large start → MatchOption found (IsNoneLive (extent_at words) start) (IsNextLive (extent_at words) start) →
    (from : ℕ) × (found ≡ Some (entry.Large from ((tables_of words).large start)))
next_large words start None some none = absurd (let is = live_large words start some in let no : extent_at words start ≡ None = none.none start (omega arith) in cc)
next_large words start (Some next) some live =
    let granules = (tables_of words).large start in
    let is = large_entry next granules (next_here (extent_at words) start (Large granules) next (live_large words start some) live) in
    (is.0, ap (λ (e : LogEntry). Some e) is.1)
