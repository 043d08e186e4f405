-- The slabs of an arena: at which granules they begin, their classes, and which of their blocks may be given out. A slab
-- has as many blocks as the capacity of its class, numbered from 0.
use Rattle.std.specs.Prelude.{◌≡◌, ◌≢◌, ℕ, ◌+◌, ◌*◌, ◌<◌, Bool, true, false, ◌&&◌, nat_lt, List, ◌∷◌, Option, Some, None, slice_index_or}
use Rattle.size_classes.specs.Classes.{class_capacity}
use Rattle.heap_model.specs.Placement.{Has, AreLowest}
use Rattle.slab_index.specs.declared.block.SlabBlock.{SlabBlock}
use Rattle.slab_index.specs.declared.block.SlabBlocks.{SlabBlocks}
use Rattle.bit_words.specs.Numbers.{has}

-- the class of the slab that begins at each of so many granules, and the available blocks, with 4096 numbers a granule
pub record SlabSet : Type 0 where
  pub granules : ℕ
  pub classes : List (Option ℕ)
  pub blocks : List ℕ

-- the class of the slab that begins at a granule
unfoldable pub class_in : SlabSet → ℕ → Option ℕ
class_in set start = slice_index_or set.classes start None

-- a block of the slab at a granule may be given out
unfoldable pub is_available : SlabSet → ℕ → ℕ → Bool
is_available set start number = nat_lt number 4096 && has set.blocks (4096 * start + number)

-- a slab begins at the granule
pub record IsSlab (set : SlabSet) (start : ℕ) : Type 0 where
  pub class : ℕ
  pub is : class_in set start ≡ Some class

-- the slab at a granule has a block of this number
pub record IsBlock (set : SlabSet) (start number : ℕ) : Type 0 where
  pub class : ℕ
  pub slab : class_in set start ≡ Some class
  pub below : number < class_capacity class

-- no slab of the class has an available block
pub record HasNoBlock (set : SlabSet) (class : ℕ) : Type 0 where
  pub none : (start number : ℕ) → class_in set start ≡ Some class → is_available set start number ≡ false

-- the lowest available block of the lowest slab of the class that has one
pub record IsLowest (set : SlabSet) (class : ℕ) (block : SlabBlock) : Type 0 where
  pub slab : class_in set block.start ≡ Some class
  pub below : block.number < class_capacity class
  pub available : is_available set block.start block.number ≡ true
  pub first : (number : ℕ) → number < block.number → is_available set block.start number ≡ false
  pub lower : (start number : ℕ) → start < block.start → class_in set start ≡ Some class → is_available set start number ≡ false

-- the lowest available blocks of the lowest slab of the class that has one, rising: so many of them, or all where it has fewer
pub record AreLowestBlocks (set : SlabSet) (class most : ℕ) (blocks : SlabBlocks) : Type 0 where
  pub slab : class_in set blocks.start ≡ Some class
  pub lower : (start number : ℕ) → start < blocks.start → class_in set start ≡ Some class → is_available set start number ≡ false
  pub below : (number : ℕ) → is_available set blocks.start number ≡ true → number < class_capacity class
  pub first : ℕ
  pub rest : List ℕ
  pub numbers : blocks.numbers.items ≡ first ∷ rest
  pub lowest : AreLowest (λ number. is_available set blocks.start number ≡ true) 0 most (first ∷ rest)

-- these blocks of the slab at a granule are not available any more, and all else is as it was
pub record AreTaken (old : SlabSet) (start : ℕ) (numbers : List ℕ) (new : SlabSet) : Type 0 where
  pub granules : new.granules ≡ old.granules
  pub classes : (s : ℕ) → class_in new s ≡ class_in old s
  pub taken : (number : ℕ) → Has numbers number → is_available new start number ≡ false
  pub rest : (number : ℕ) → ¬ (Has numbers number) → is_available new start number ≡ is_available old start number
  pub others : (s number : ℕ) → s ≢ start → is_available new s number ≡ is_available old s number

-- the lowest blocks of the class were taken
pub record TookLowest (old : SlabSet) (class most : ℕ) (blocks : SlabBlocks) (new : SlabSet) : Type 0 where
  pub lowest : AreLowestBlocks old class most blocks
  pub taken : AreTaken old blocks.start blocks.numbers.items new

-- there was none, and nothing changed
pub record HadNoBlock (old : SlabSet) (class : ℕ) (new : SlabSet) : Type 0 where
  pub none : HasNoBlock old class
  pub same : new ≡ old
