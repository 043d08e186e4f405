-- The indexes take over a slab of an exact image, and how many live blocks each slab has.
use Rattle.std.proofs.Common.{◌≡◌, ◌≢◌, ◌↔◌, ◌==◌, ◌+◌, ◌*◌, ◌/◌, ◌<◌, ◌≤◌, ℕ, Bool, true, false, List, length, slice_index, Some, ◌∙◌, arith, if◌then◌else◌}
use Rattle.arena_core.proofs.Common.{class_capacity, Tables, is_slab, tables_of, slab_table, granules_in, class_in, begins_in, heap, IsUnusedIn, IsSlabsOf, IsWithSlabOf, HasCounted, Supply, IsInNoSlabOf, HasSlabMore, IsInSlab, IsSound, bounds_of, begins_only, put_one}
use Rattle.heap_check.specs.Heap.{size_at}
use Rattle.heap_model.proofs.Counts.{live_next, live_below-most}
use Rattle.heap_check.proofs.LiveCounts.{more_by_slab, most_by_slab}

-- a slab was added, in which the blocks are open that are not used
pub with_slab : (words : List ℕ) (old new : Supply) (start slab class : ℕ) {used : ℕ → Bool} → slab / 16384 ≡ start → class ≡ ((tables_of words).header start).class → HasSlabMore old new start class (λ i. (i < class_capacity class) × (used i ≡ false)) →
    ((i : ℕ) → i < class_capacity ((tables_of words).header (slab / 16384)).class → (used i ≡ false) ↔ IsUnusedIn (tables_of words) (slab / 16384) ((tables_of words).header (slab / 16384)).class i) → IsWithSlabOf words old new start
with_slab words old new start slab class {used} at is more unused = grind arith

-- the class that was read is the slab's
pub class_read : (words : List ℕ) (at start class : ℕ) → at ≡ 16384 * start → (tables_of words).slab start ≡ true → (is_slab words (at / 16384) ≡ true → class ≡ ((tables_of words).header (at / 16384)).class) → class ≡ ((tables_of words).header start).class
class_read words at start class is slab read = grind (arith, slab_table)

-- the live blocks of the slabs are counted, root by root

-- of no root yet
pub counted_none : (words : List ℕ) (counts : List ℕ) → length counts ≡ granules_in words → ((s : ℕ) → slice_index counts s ≡ 0) → HasCounted words counts 0
counted_none words counts size zero = grind arith

-- the next root has no word, and so no block in a slab
pub counted_empty : (words : List ℕ) (counts : List ℕ) (root : ℕ) → (tables_of words).root root ≡ 0 → HasCounted words counts root → HasCounted words counts (root + 1)
counted_empty words counts root none were = grind arith

-- or one that lies in no slab
pub counted_outside : {set : Supply} (words : List ℕ) (counts : List ℕ) (root : ℕ) → IsSlabsOf set words → (tables_of words).root root ≢ 0 → IsInNoSlabOf (class_in set.slabs) ((tables_of words).root root / 16384) → HasCounted words counts root → HasCounted words counts (root + 1)
counted_outside {set} words counts root are some outside were = grind arith

-- what begins in a slab is what a root's word lies in
begins_word : (t : Tables) (root s : ℕ) → t.root root ≢ 0 → begins_in s (heap t root) ≡ begins_in s (Some (record { at = t.root root; size = size_at t root (t.root root) }))
begins_word t root s some = grind arith

-- or one in the slab at a start
counted_more : (words : List ℕ) (counts next : List ℕ) (root start : ℕ) → (tables_of words).slab start ≡ true → ((s : ℕ) → (tables_of words).slab s ≡ true → begins_in s (heap (tables_of words) root) ≡ (s == start)) →
    length next ≡ length counts → ((s : ℕ) → slice_index next s ≡ (if s == start then slice_index counts s + 1 else slice_index counts s)) → HasCounted words counts root → HasCounted words next (root + 1)
counted_more words counts next root start here only size put were = grind (arith, put_one, more_by_slab, live_next)

pub counted_word : (words : List ℕ) (counts next : List ℕ) (root start : ℕ) → IsSound (bounds_of words) (tables_of words) → (tables_of words).root root ≢ 0 → IsInSlab (tables_of words) start ((tables_of words).root root) → length next ≡ length counts →
    ((s : ℕ) → slice_index next s ≡ (if s == start then slice_index counts s + 1 else slice_index counts s)) → HasCounted words counts root → HasCounted words next (root + 1)
counted_word words counts next root start sound some inside size put were =
    counted_more words counts next root start inside.slab (λ s slab. begins_word (tables_of words) root s some ∙ begins_only sound start (record { at = (tables_of words).root root; size = size_at (tables_of words) root ((tables_of words).root root) }) inside s slab) size put were

-- the counts are small
pub counted_few : (words : List ℕ) (counts : List ℕ) (root start : ℕ) → HasCounted words counts root → slice_index counts start ≤ root
counted_few words counts root start were = omega (arith, were.each start, most_by_slab ((tables_of words).slab start) (live_below-most (heap (tables_of words)) start root))
