-- What the tables of an image of this variant have of those that its words say.
use Rattle.std.proofs.Common.{◌≡◌, ℕ, List, refl}
use Rattle.image_tables.specs.Tables.{tables_of}
use Rattle.gc_check.specs.Heap.{address_field, gc_tables}

-- root words, extents and headers of slabs are theirs
pub record IsOver (words : List ℕ) : Type 0 where
  pub word : (gc_tables words).word ≡ (tables_of words).word
  pub large : (gc_tables words).large ≡ (tables_of words).large
  pub slab : (gc_tables words).slab ≡ (tables_of words).slab
  pub header : (gc_tables words).header ≡ (tables_of words).header
  pub root : (root : ℕ) → (gc_tables words).root root ≡ address_field ((gc_tables words).word root)

pub over : (words : List ℕ) → IsOver words
unfolding gc_tables
over words = record { word = refl; large = refl; slab = refl; header = refl; root = λ root. refl }
