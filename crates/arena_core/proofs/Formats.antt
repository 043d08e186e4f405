-- An arena is formatted: which headers it may have, and what it is behind its header line.
use Rattle.std.proofs.lemmas.Nat.{mul-le}
use Rattle.std.proofs.Common.{false, ◌≡◌, ◌↔◌, ℕ, ◌<◌, ◌≤◌, length, None, ap, arith, slice_index}
use Rattle.arena_core.proofs.Common.{is_unfit, PmemState, words_of, began, IsExactImage, HasState, IsFree, class_in, granules_at-large, Volatile, normal_at, IsArena, IsReady, heap_inside, normal_of-none}
use Rattle.pmem_lines.specs.Events.{CrashOnly}
use Rattle.pool_layout.specs.declared.header.PoolHeader.{PoolHeader}
use Rattle.pool_layout.specs.declared.layout.Layout.{Layout}
use Rattle.pool_layout.specs.Layout.{layout_of, all_granules, pool_granules}
use Rattle.pool_layout.proofs.Layouts.{first_row, first_version, second_version}
use Rattle.pool_layout.specs.Header.{IsPoolHeader}
use Rattle.book_log.specs.Book.{AreWithin, Reads}
use Rattle.book_log.proofs.Places.{within_heap}
use Rattle.heap_model.specs.Machine.{no_heap}
use Rattle.pool_layout.specs.declared.header.PoolVariant.TheVariants.{Log}
use Rattle.heap_check.specs.Formatted.{IsFormatted}
use Rattle.heap_check.proofs.Formatted.{AreBlank-formatted, header_in-formatted, law_of_formatted}
use Rattle.arena_core.specs.Call.{IsFormattedOrNot}
use Rattle.arena_core.proofs.HeaderLines.{IsWritten, formatted_device, formatted_crash}

-- the header of an arena of version 1: arenas of that version are never too many together
pub IsPoolHeader-first : (number arenas granules : ℕ) → number < arenas → arenas ≤ 16 → 16 ≤ granules → granules ≤ (layout_of 1).most_granules →
    IsPoolHeader (record { version = 1; number = number; arenas = arenas; granules = granules })
unfolding all_granules
IsPoolHeader-first number arenas granules below few least most =
    let row = first_row in
    record {
      version = first_version;
      some = omega arith;
      most = few;
      number = below;
      least = omega (arith, ap (λ (r : Layout). r.least_granules) row);
      greatest = most;
      together = omega (arith, mul-le arenas granules 16 1024 few (omega (arith, most, ap (λ (r : Layout). r.most_granules) row)));
    }

-- and of version 2
pub IsPoolHeader-second : (number arenas granules : ℕ) → number < arenas → arenas ≤ 16 → (layout_of 2).least_granules ≤ granules → granules ≤ (layout_of 2).most_granules → all_granules arenas granules ≤ pool_granules →
    IsPoolHeader (record { version = 2; number = number; arenas = arenas; granules = granules })
IsPoolHeader-second number arenas granules below few least most together =
    record { version = second_version; some = omega arith; most = few; number = below; least = least; greatest = most; together = together }

-- a call began on a device of zeros, and the header line was written
module _ {old begun new : PmemState} {header : PoolHeader} (made : IsWritten Log old begun new header) where
  pub formatted_exact : IsExactImage (words_of new) × HasState (words_of new) no_heap
  formatted_exact = law_of_formatted (words_of new) header (formatted_device made)

  pub formatted_steady : CrashOnly new.base new.events IsFormattedOrNot
  formatted_steady = formatted_crash made (λ image. IsExactImage image × HasState image no_heap) formatted_exact

  pub formatted_inside : AreWithin (words_of new)
  formatted_inside = within_heap (words_of new) (heap_inside (words_of new) formatted_exact.0.formed)

-- what an arena keeps, of one that was formatted
pub formatted_arena : (device : PmemState) (header : PoolHeader) (volatile : Volatile) → IsReady device → IsFormatted (words_of device) header → Reads volatile.log (words_of device) → volatile.log.granules ≡ header.granules →
    volatile.free.granules ≡ header.granules → ((k : ℕ) → IsFree volatile.free k ↔ (((layout_of header.version).first_granule ≤ k) × (k < header.granules))) → volatile.supply.slabs.granules ≡ header.granules → ((s : ℕ) → class_in volatile.supply.slabs s ≡ None) →
    length volatile.lives.counts ≡ header.granules → ((s : ℕ) → slice_index volatile.lives.counts s ≡ 0) → ((s : ℕ) → normal_at volatile.lives s ≡ None) → ((class s : ℕ) → is_unfit volatile.lives.unfit class s ≡ false) → volatile.line ≡ 0 → IsArena device volatile
formatted_arena device header volatile ready formatted reads size index each parts_size no_class count_size no_count no_normal no_unfit first_line = grind (arith, AreBlank-formatted, header_in-formatted, law_of_formatted, granules_at-large, normal_of-none)
