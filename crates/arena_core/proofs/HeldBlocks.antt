-- The block that a root names in a slab.
use Rattle.std.proofs.Common.{◌≡◌, ◌*◌, ℕ, true, List, Some, None, arith}
use Rattle.arena_core.proofs.Common.{Tables, tables_of, slab_table, Bounds, Range, slab_block, heap, Holds, IsSound, bounds_of, IsFormed, IsExactImage, IsNamed-claim, IsClaim-word, granules_at-slab, heap-claim, sizes_of, IsInSlab-held, SmallBlock, OldBlock, IsDetachable, IsOldDetachable, old_range, IsNamedSmall, IsNamedOld}
use Rattle.heap_check.proofs.Geometry.{plain_size-some}
use Rattle.heap_check.proofs.StateWords.{IsStateWord-valid}
use Rattle.heap_check.proofs.Within.{IsWithin-held, one_claim}
use Rattle.slab_morph.specs.SlabHeaders.{IsSlabHere}

-- the block that a slab holds at a root's word is the root's
pub heap_held : {b : Bounds} {t : Tables} → IsSound b t → t.open_entry ≡ None → (root start : ℕ) (range : Range) → Holds t start range → t.root root ≡ range.at → heap t root ≡ Some range
heap_held {b} {t} sound closed root start range holds word = grind (arith, sound.owned.claimed start range holds, IsNamed-claim, IsClaim-word, plain_size-some, IsInSlab-held, one_claim, IsWithin-held, heap-claim)

-- a block of its slab's class that a root has
pub class_holds : {words : List ℕ} {root : ℕ} {block : SmallBlock} → IsDetachable words root block → Holds (tables_of words) block.start (slab_block block.start ((tables_of words).header block.start).class block.number)
class_holds {words} {root} {block} may = grind arith

-- an old one
pub old_holds : {words : List ℕ} {root : ℕ} {block : OldBlock} → IsOldDetachable words root block → Holds (tables_of words) block.start (old_range (tables_of words) block)
old_holds {words} {root} {block} may = grind arith

-- the header of a slab is there, and valid
pub slab_here : (words : List ℕ) (start slab : ℕ) → slab ≡ 16384 * start → IsFormed words → IsSound (bounds_of words) (tables_of words) → (tables_of words).slab start ≡ true → IsSlabHere words slab
slab_here words start slab is formed sound lives = grind (arith, sizes_of, granules_at-slab, slab_table, IsStateWord-valid)

-- what a root names may go from it

pub class_detachable : {words : List ℕ} {root : ℕ} {block : SmallBlock} {class : ℕ} → IsExactImage words → IsNamedSmall (bounds_of words) (tables_of words) root block class → IsDetachable words root block
class_detachable {words} {root} {block} {class} image named = grind arith

pub old_detachable : {words : List ℕ} {root : ℕ} {block : OldBlock} {class : ℕ} → IsExactImage words → IsNamedOld (bounds_of words) (tables_of words) root block class → IsOldDetachable words root block
old_detachable {words} {root} {block} {class} image named = grind arith
