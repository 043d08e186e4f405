-- Blocks that a slab holds and that are the block of no root.
use Rattle.std.specs.Prelude.{◌≡◌, ℕ, ◌+◌, ◌*◌, ◌/◌, ◌%◌, ◌<◌, true}
use Rattle.size_classes.specs.Classes.{class_capacity}
use Rattle.image_tables.specs.Tables.{Tables}
use Rattle.heap_model.specs.Machine.{slab_block}
use Rattle.image_defects.specs.Blocks.{IsRooted}

-- the bit of a block is set, and no root has the block
pub record IsStrayNumber (t : Tables) (start number : ℕ) : Type 0 where
  pub set : (t.header start).bit number ≡ true
  pub none : ¬ (IsRooted t (slab_block start (t.header start).class number))

-- the slab has such a bit, and its block is at the address
pub record IsStrayBit (t : Tables) (start at : ℕ) : Type 0 where
  pub number : ℕ
  pub below : number < class_capacity (t.header start).class
  pub stray : IsStrayNumber t start number
  pub is : at ≡ (slab_block start (t.header start).class number).at

-- the word of a slab's bitmap that has the bit of a block, and the block of a bit of a word
abbrev pub word_of : ℕ → ℕ
word_of number = number % 8 + 8 * (number / 512)

abbrev pub number_in : ℕ → ℕ → ℕ
number_in word bit = 512 * (word / 8) + 8 * bit + word % 8

-- a block of the slab's class has its bit set, and no root has the block
pub record IsStrayBlock (t : Tables) (start number : ℕ) : Type 0 where
  pub below : number < class_capacity (t.header start).class
  pub stray : IsStrayNumber t start number

-- one with its bit in this word of the bitmap is at the address
pub record IsStrayInWord (t : Tables) (start word at : ℕ) : Type 0 where
  pub number : ℕ
  pub block : IsStrayBlock t start number
  pub word_is : word_of number ≡ word
  pub is : at ≡ (slab_block start (t.header start).class number).at

-- a place of the index table has a live old block at the address, and no root has it
pub record IsStrayPlace (t : Tables) (start place at : ℕ) : Type 0 where
  pub live : (t.header start).live place ≡ true
  pub is : at ≡ (slab_block start (t.header start).old ((t.header start).number place)).at
  pub none : ¬ (IsRooted t (slab_block start (t.header start).old ((t.header start).number place)))

-- one of the first n places does
pub record IsStrayOld (t : Tables) (start n at : ℕ) : Type 0 where
  pub place : ℕ
  pub below : place < n
  pub stray : IsStrayPlace t start place at
