-- The numbers of an arena of this variant, which are those of version 1.
use Rattle.std.proofs.Common.{◌≡◌, ◌*◌, ◌<◌, ◌≤◌, ℕ, List, length, ap, ◌∙◌, arith}
use Rattle.pmem_lines.specs.Events.{IsQuiet}
use Rattle.pmem_lines.specs.Pmem.{PmemState, words_of}
use Rattle.pool_layout.specs.declared.layout.Layout.{Layout}
use Rattle.pool_layout.specs.Layout.{layout_of}
use Rattle.pool_layout.specs.Header.{version_in, granules_in}
use Rattle.pool_layout.proofs.Layouts.{first_row, layout_rules}
use Rattle.log_steps.proofs.Entries.{most_few}
use Rattle.log_room.specs.Room.{most_events}
use Rattle.heap_check.specs.Image.{bounds_of}
use Rattle.arena_core.specs.Call.{IsReady}
use Rattle.gc_check.specs.Image.{IsGcFormed}
use Rattle.gc_heap.specs.Arena.{gc_bounds}

pub first_roots : (layout_of 1).roots ≡ 4096
first_roots = ap (λ (row : Layout). row.roots) first_row

pub first_granule : (layout_of 1).first_granule ≡ 4
first_granule = ap (λ (row : Layout). row.first_granule) first_row

-- the version of an image
pub version_first : (words : List ℕ) → IsGcFormed words → version_in words ≡ 1
version_first words formed = formed.header.valid.first

pub bounds_first : (words : List ℕ) → IsGcFormed words → bounds_of words ≡ gc_bounds (granules_in words)
bounds_first words formed = ap (λ v. record { roots = (layout_of v).roots; first = (layout_of v).first_granule; granules = granules_in words }) (version_first words formed)

-- how many roots, granules and words there are
pub record HasFirstSizes (words : List ℕ) : Type 0 where
  pub roots : (bounds_of words).roots ≡ 4096
  pub roots_row : (bounds_of words).roots ≡ (layout_of 1).roots
  pub first : (bounds_of words).first ≡ 4
  pub first_row_is : (bounds_of words).first ≡ (layout_of 1).first_granule
  pub least : 16 ≤ granules_in words
  pub most : granules_in words ≤ 1024
  pub size : length words ≡ 2048 * granules_in words

pub first_sizes : (words : List ℕ) → IsGcFormed words → HasFirstSizes words
first_sizes words formed =
    let version = version_first words formed in
    let valid = formed.header.valid.valid in
    let roots = ap (λ v. (layout_of v).roots) version in
    let first = ap (λ v. (layout_of v).first_granule) version in
    record {
      roots = roots ∙ first_roots;
      roots_row = roots;
      first = first ∙ first_granule;
      first_row_is = first;
      least = omega (arith, (layout_rules (version_in words)).least, valid.least);
      most = omega (arith, valid.greatest, ap (λ v. (layout_of v).most_granules) version, ap (λ (row : Layout). row.most_granules) first_row);
      size = formed.size;
    }

-- a memory that is ready has room for all events of a call
pub call_room : {device : PmemState} → IsReady device → 2048 ≤ device.room
call_room {device} ready = omega (arith, ready.room, (layout_rules (version_in (words_of device))).room)

-- an entry of the log has few events
pub most_first : (words : List ℕ) → IsGcFormed words → most_events words ≤ 682
most_first words formed =
    omega (arith, most_few words, ap (λ v. (layout_of v).entry_events) (version_first words formed), ap (λ (row : Layout). row.entry_events) first_row)

-- a root below the number of those of version 1
pub root_first : (words : List ℕ) (row : Layout) (root : ℕ) → IsGcFormed words → row ≡ layout_of 1 → root < row.roots → root < (bounds_of words).roots
root_first words row root formed is below = omega (arith, below, ap (λ (r : Layout). r.roots) is, (first_sizes words formed).roots_row)

-- a memory is ready again where it is quiet and has the same room
pub ready_after : {old new : PmemState} → IsReady old → new.room ≡ old.room → IsQuiet new.events → version_in (words_of old) ≡ 1 → version_in (words_of new) ≡ 1 → IsReady new
ready_after {old} {new} ready same quiet was is = record { quiet = quiet; room = omega (arith, ready.room, same, ap (λ v. (layout_of v).room) was, ap (λ v. (layout_of v).room) is) }
