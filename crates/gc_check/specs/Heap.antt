-- The heap of an image of this variant. A root's word has the address of its block in bits 0 to 31, and for a small block its
-- class and one in bits 32 to 39: so the heap is read off the roots and the live large extents alone.
use Rattle.std.specs.Prelude.{◌==◌, ℕ, ◌+◌, ◌-◌, ◌*◌, ◌/◌, ◌%◌, ◌^◌, ◌<◌, ◌≤◌, List, Option, Some, None, if◌then◌else◌}
use Rattle.size_classes.specs.Classes.{class_size}
use Rattle.image_tables.specs.Tables.{Tables, tables_of}
use Rattle.heap_model.specs.Machine.{Range}

-- root words

-- the address that a word has
abbrev pub address_field : ℕ → ℕ
address_field word = word % 2 ^ 32

-- the class and one, 0 for a large block
abbrev pub class_field : ℕ → ℕ
class_field word = word / 2 ^ 32 % 2 ^ 8

-- a word has nothing but these two, and the class is one of 36
pub record IsGcRootWord (word : ℕ) : Type 0 where
  pub few : word < 2 ^ 40
  pub class : class_field word ≤ 36

-- the word of a small block of a class at an address; that of a large block is its address
abbrev pub small_word : ℕ → ℕ → ℕ
small_word at class = at + 2 ^ 32 * (class + 1)

-- tables

-- What the words say of roots, extents and slabs: a root holds the address that its word has. No entry is ever open. Of the
-- header of a slab nothing counts but the class.
unfoldable pub gc_tables : List ℕ → Tables
gc_tables words = record (tables_of words) { root = λ root. address_field ((tables_of words).word root); open_entry = None }

-- the heap

-- the size of the block that a root's word names: of its class, or of the live large extent at its address
abbrev pub gc_size : (ℕ → ℕ) → ℕ → ℕ
gc_size large word = if class_field word == 0 then 16384 * large (address_field word / 16384) else class_size (class_field word - 1)

-- the block that a root's word names
abbrev pub gc_block : (ℕ → ℕ) → ℕ → Range
gc_block large word = record { at = address_field word; size = gc_size large word }

-- each root of which the word is not 0 has the block that it names
abbrev pub gc_heap : Tables → ℕ → Option Range
gc_heap t root = if t.word root == 0 then None else Some (gc_block t.large (t.word root))
