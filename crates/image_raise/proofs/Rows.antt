-- The numbers of the two versions, side by side.
use Rattle.std.proofs.Common.{◌≡◌, ◌<◌, ◌≤◌, ◌+◌, ◌*◌, ℕ, ap, arith}
use Rattle.image_raise.proofs.Common.{Layout, layout_of, root_word, log_start, heap_word, first_row, second_row, layout_rules, log_start-low}
use Rattle.image_raise.specs.Rise.{rise}

-- the heap of version 2 begins so much higher
pub rises : (layout_of 2).first_granule ≡ (layout_of 1).first_granule + rise
rises = omega (arith, ap (λ (row : Layout). row.first_granule) first_row, ap (λ (row : Layout). row.first_granule) second_row)

pub heap_rises : heap_word 2 ≡ heap_word 1 + 2048 * rise
heap_rises = omega (arith, rises)

-- there are more roots, and more entries in a chunk
pub more_roots : (layout_of 1).roots ≤ (layout_of 2).roots
more_roots = omega (arith, ap (λ (row : Layout). row.roots) first_row, ap (λ (row : Layout). row.roots) second_row)

pub more_entries : (layout_of 1).chunk_entries ≤ (layout_of 2).chunk_entries
more_entries = omega (arith, ap (λ (row : Layout). row.chunk_entries) first_row, ap (λ (row : Layout). row.chunk_entries) second_row)

-- an entry of version 1 has a place in version 2
pub fits_now : (entry : ℕ) → entry < (layout_of 1).chunk_entries → entry < (layout_of 2).chunk_entries
fits_now entry below = omega (arith, below, more_entries)

-- roots lie before the log
pub roots_end : (version : ℕ) → root_word (layout_of version).roots ≤ log_start version
roots_end version = let rules = layout_rules version in omega (arith, rules.roots, rules.log)

pub root_low : (version root : ℕ) → root < (layout_of version).roots → root_word root < log_start version
root_low version root below = omega (arith, roots_end version, below)

-- they and the log lie before the heap
pub log_low : (version : ℕ) → log_start version ≤ heap_word version
log_low version = let rules = layout_rules version in omega (arith, rules.heap, rules.log, rules.chunk)

pub root_high : (version root : ℕ) → root < (layout_of version).roots → root_word root < heap_word version
root_high version root below = omega (arith, root_low version root below, log_low version)

-- there is a header line before the heap
pub front_some : (version : ℕ) → 2048 < heap_word version
front_some version = omega (arith, log_start-low version, log_low version)
