-- Live extents of a well-formed log lie in the heap.
use Rattle.std.proofs.Common.{◌≡◌, ℕ, ◌+◌, ◌<◌, ◌≤◌, ◌^◌, cond, List, Option, Some, None, refl, sym, subst, arith}
use Rattle.pool_layout.specs.Layout.{layout_of}
use Rattle.pool_layout.specs.Header.{version_in, granules_in}
use Rattle.image_tables.specs.declared.extent.Extent.{Extent}
use Rattle.image_tables.specs.declared.extent.Extent.TheVariants.{Large, Slab}
use Rattle.image_tables.specs.Extents.{extent_at}
use Rattle.image_tables.specs.Tables.{large_of, is_slab_of, tables_of}
use Rattle.book_log.specs.Book.{HasLog, chunks_of}
use Rattle.book_log.specs.Live.{IsLive}
use Rattle.book_log.proofs.LiveExtents.{live_extents}
use Rattle.heap_check.specs.Sound.{granules_at}

-- where an extent of a well-formed log lies
lies_of : (first granules start : ℕ) (e : Option Extent) → ((extent : Extent) → e ≡ Some extent → IsLive first granules start extent) → 0 < cond (is_slab_of e) 4 (large_of e) → (first ≤ start) × (start + cond (is_slab_of e) 4 (large_of e) ≤ granules)
lies_of first granules start None live some = absurd (omega (arith, some))
lies_of first granules start (Some (Large n)) live some = let l = live (Large n) refl in (l.low, l.high)
lies_of first granules start (Some Slab) live some = let l = live Slab refl in (l.low, l.high)

granules_few : (words : List ℕ) → granules_in words < 2 ^ 16
granules_few words = omega arith

pub granules_table : (words : List ℕ) (start : ℕ) → granules_at (tables_of words) start ≡ cond (is_slab_of (extent_at words start)) 4 (large_of (extent_at words start))
unfolding tables_of
granules_table words start = refl

pub extents_lie : (words : List ℕ) → HasLog (granules_in words) words → (start : ℕ) → 0 < granules_at (tables_of words) start → ((layout_of (version_in words)).first_granule ≤ start) × (start + granules_at (tables_of words) start ≤ granules_in words)
extents_lie words log start some =
    let first = (layout_of (version_in words)).first_granule in
    let live = live_extents (granules_in words) words (chunks_of words) (granules_few words) log in
    subst (λ n. (first ≤ start) × (start + n ≤ granules_in words)) (sym (granules_table words start))
    (lies_of first (granules_in words) start (extent_at words start) (live.each start) (subst (λ n. 0 < n) (granules_table words start) some))
