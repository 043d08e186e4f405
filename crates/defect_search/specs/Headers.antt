-- Headers of slabs, place by place: what the search finds good.
use Rattle.std.specs.Prelude.{◌≡◌, ◌≢◌, ℕ, ◌<◌, List, true}
use Rattle.size_classes.specs.Classes.{class_capacity}
use Rattle.pmem_lines.specs.Words.{word_at}
use Rattle.pool_layout.specs.Header.{granules_in}
use Rattle.image_tables.specs.Forms.{IsIndexWord, IsStateWord}
use Rattle.image_tables.specs.Tables.{Tables, is_slab, index_word, state_word, tables_of}
use Rattle.slab_header.specs.declared.state.SlabState.{SlabState}
use Rattle.slab_header.specs.State.{old_of, entries_of, IsValidState}
use Rattle.image_defects.specs.Headers.{IsGoodSlab, IsBadWord}
use Rattle.image_reading.specs.Slabs.{IsSlabAt}

-- the slabs lie among the words of the arena
pub record AreSlabsInside (words : List ℕ) : Type 0 where
  pub at : (start : ℕ) → is_slab words start ≡ true → IsSlabAt words start
  pub below : (start : ℕ) → is_slab words start ≡ true → start < granules_in words

-- one of the first n places of a slab's index table has this number
pub record HasNumber (t : Tables) (start n number : ℕ) : Type 0 where
  pub place : ℕ
  pub below : place < n
  pub is : (t.header start).number place ≡ number

-- the word of a place has the form of an index entry, its number is a block's, and no earlier entry has it
pub record IsGoodPlace (words : List ℕ) (start place : ℕ) : Type 0 where
  pub form : IsIndexWord (word_at words (index_word start place))
  pub small : ((tables_of words).header start).number place < class_capacity ((tables_of words).header start).old
  pub new : (earlier : ℕ) → earlier < place → ((tables_of words).header start).number earlier ≢ ((tables_of words).header start).number place

-- every place that is read is
pub record AreGoodPlaces (words : List ℕ) (start : ℕ) : Type 0 where
  pub each : (place : ℕ) → place < ((tables_of words).header start).index_count → IsGoodPlace words start place

-- the state word of a slab has the form of one and says this state
pub record IsStateOf (words : List ℕ) (start : ℕ) (state : SlabState) : Type 0 where
  pub form : IsStateWord (word_at words (state_word start))
  pub old : ((tables_of words).header start).old ≡ old_of state
  pub entries : ((tables_of words).header start).index_count ≡ entries_of state
  pub valid : IsValidState state

-- the slab that starts at a granule, if one does, has a good header
pub record IsGoodIfSlab (words : List ℕ) (start : ℕ) : Type 0 where
  pub good : is_slab words start ≡ true → IsGoodSlab words start

-- a slab starts at the granule, and this is the first bad word of its header
pub record IsBadSlabWord (words : List ℕ) (start value : ℕ) : Type 0 where
  pub slab : is_slab words start ≡ true
  pub bad : IsBadWord words start value
