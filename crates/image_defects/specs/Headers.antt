-- Defects of the headers of slabs: a state word or an index word that is not of the format.
use Rattle.std.specs.Prelude.{◌≡◌, ◌⊎◌, ℕ, ◌<◌, ◌≤◌, List, true}
use Rattle.size_classes.specs.Classes.{class_capacity}
use Rattle.pmem_lines.specs.Words.{word_at}
use Rattle.pool_layout.specs.declared.defect.Defect.{Defect}
use Rattle.pool_layout.specs.declared.defect.Defect.TheVariants.{BadSlab}
use Rattle.image_tables.specs.Forms.{IsStateWord, IsIndexWord}
use Rattle.image_tables.specs.Tables.{is_slab, state_word, index_word, tables_of}
use Rattle.heap_check.specs.Sound.{IsValidSlab}
use Rattle.heap_check.specs.Image.{HasSlabHeader}
use Rattle.image_defects.specs.declared.found.SlabWord.{SlabWord}
use Rattle.image_defects.specs.Least.{IsLeast}

-- the header is well formed and valid
pub record IsGoodSlab (words : List ℕ) (start : ℕ) : Type 0 where
  pub header : HasSlabHeader words start
  pub slab : IsValidSlab ((tables_of words).header start)

-- the header of each slab is
abbrev pub AreGoodSlabs : List ℕ → Type 0
AreGoodSlabs words = (start : ℕ) → is_slab words start ≡ true → IsGoodSlab words start

-- an index word that is read is not of the format: a bit without a meaning is set, the number is no block's, or an
-- earlier entry has it
pub record IsBadPlace (words : List ℕ) (start place : ℕ) : Type 0 where
  pub below : place < ((tables_of words).header start).index_count
  pub bad : ¬ (IsIndexWord (word_at words (index_word start place)))
      ⊎ ((class_capacity ((tables_of words).header start).old ≤ ((tables_of words).header start).number place)
      ⊎ ((earlier : ℕ) × (earlier < place) × (((tables_of words).header start).number earlier ≡ ((tables_of words).header start).number place)))

-- the word of the first bad place
pub record IsBadIndex (words : List ℕ) (start value : ℕ) : Type 0 where
  pub place : ℕ
  pub first : IsLeast (IsBadPlace words start) place
  pub is : value ≡ word_at words (index_word start place)

-- the first bad word of a slab's header: the state word, else that of the first bad place
abbrev pub IsBadWord : List ℕ → ℕ → ℕ → Type 0
IsBadWord words start value =
    (¬ (IsStateWord (word_at words (state_word start))) × (value ≡ word_at words (state_word start)))
    ⊎ (IsStateWord (word_at words (state_word start)) × IsBadIndex words start value)

-- the first bad word of the lowest slab that has one
pub record IsFirstBadWord (words : List ℕ) (found : SlabWord) : Type 0 where
  pub slab : is_slab words found.start ≡ true
  pub bad : IsBadWord words found.start found.value
  pub before : (earlier : ℕ) → earlier < found.start → is_slab words earlier ≡ true → IsGoodSlab words earlier

pub record IsSlabDefect (words : List ℕ) (defect : Defect) : Type 0 where
  pub found : SlabWord
  pub first : IsFirstBadWord words found
  pub is : defect ≡ BadSlab found.start found.value
