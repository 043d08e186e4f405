-- The words of a slab's index table, and what they say. Their form is stated with the tables of an image.
use Rattle.std.specs.Prelude.{◌≡◌, ℕ, ◌+◌, ◌*◌, ◌/◌, ◌%◌, ◌^◌, ◌<◌, if◌then◌else◌}
use Rattle.image_tables.specs.Forms.{IsIndexWord}
use Rattle.image_tables.specs.Tables.{bit_of_word}
use Rattle.slab_header.specs.declared.index.IndexEntry.{IndexEntry}

-- the word of an index entry
abbrev pub word_of_index : IndexEntry → ℕ
word_of_index entry = (if entry.live then 1 else 0) + 2 ^ 16 * entry.number

-- the word is that of an index entry
pub record IsWordOfIndex (value : ℕ) (entry : IndexEntry) : Type 0 where
  pub word : value ≡ word_of_index entry
  pub fits : entry.number < 2 ^ 16

-- the word has not the form of one
abbrev pub IsNoIndexWord : ℕ → Type 0
IsNoIndexWord value = ¬ (IsIndexWord value)

-- what the fields of a word say, whatever the rest of the word is
abbrev pub read_index : ℕ → IndexEntry
read_index word = record { live = bit_of_word word 0; number = word / 2 ^ 16 % 2 ^ 16 }

-- the word has the form of an index entry, and its fields, as the tables of an image read them, say what the entry is
pub record SaysOfIndex (word : ℕ) (entry : IndexEntry) : Type 0 where
  pub form : IsIndexWord word
  pub live : bit_of_word word 0 ≡ entry.live
  pub number : word / 2 ^ 16 % 2 ^ 16 ≡ entry.number
