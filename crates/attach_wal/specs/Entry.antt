-- The words of write-ahead entries. Their form is stated with the tables of an image.
use Rattle.std.specs.Prelude.{◌≡◌, ℕ, ◌+◌, ◌*◌, ◌^◌, ◌<◌, false, if◌then◌else◌}
use Rattle.image_tables.specs.declared.entry.WalEntry.{WalEntry}
use Rattle.image_tables.specs.declared.entry.WalEntry.TheVariants.{Place, Move}
use Rattle.image_tables.specs.Forms.{IsWalWord}
use Rattle.image_tables.specs.Tables.{entry_of_word}

-- the word of an entry
abbrev pub entry_word : WalEntry → ℕ
entry_word (Place root at old place) = 1 + (if old then 2 else 0) + 2 ^ 8 * place + 2 ^ 16 * root + 2 ^ 32 * at
entry_word (Move from to) = 5 + 2 ^ 16 * from + 2 ^ 32 * to

-- the numbers of an entry fit the word; a block of the slab's class has no place in the index table
abbrev pub FitsWord : WalEntry → Type 0
FitsWord (Place root at old place) = (root < 2 ^ 16) × (place < 64) × (old ≡ false → place ≡ 0)
FitsWord (Move from to) = (from < 2 ^ 16) × (to < 2 ^ 16)

-- the word has the form of an entry, and it is this one's: its fields, as the tables of an image read them, say it
pub record IsEntryWord (value : ℕ) (entry : WalEntry) : Type 0 where
  pub form : IsWalWord value
  pub word : value ≡ entry_word entry
  pub fits : FitsWord entry
  pub says : entry_of_word value ≡ entry

-- the word has not that form; so 0 has not
abbrev pub IsNoEntryWord : ℕ → Type 0
IsNoEntryWord word = ¬ (IsWalWord word)
