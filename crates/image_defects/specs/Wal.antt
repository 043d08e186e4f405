-- Defects of the write-ahead lines: a word that is no entry that may be open, or a second one.
use Rattle.std.specs.Prelude.{◌≡◌, ◌≢◌, ◌⊎◌, ℕ, ◌<◌, List, Some}
use Rattle.pmem_lines.specs.Words.{word_at}
use Rattle.pool_layout.specs.declared.defect.Defect.{Defect}
use Rattle.pool_layout.specs.declared.defect.Defect.TheVariants.{BadWal}
use Rattle.pool_layout.specs.Places.{wal_word}
use Rattle.image_tables.specs.declared.entry.WalEntry.{WalEntry}
use Rattle.image_tables.specs.Forms.{IsWalWord}
use Rattle.image_tables.specs.Tables.{entry_of_word, wal_lines, tables_of}
use Rattle.image_tables.specs.Updates.{with_open_entry}
use Rattle.heap_check.specs.Sound.{IsOpen}
use Rattle.heap_check.specs.Image.{bounds_of, HasWal}
use Rattle.image_defects.specs.Least.{IsLeast}

-- the lines are well formed, and an entry may be open
pub record IsGoodWal (words : List ℕ) : Type 0 where
  pub form : HasWal words
  pub may : (e : WalEntry) → (tables_of words).open_entry ≡ Some e → IsOpen (bounds_of words) (tables_of words) e

-- An entry may be the only open one. Where several lines have a word, what the roots hold is judged by this one alone.
abbrev pub IsOpenAlone : List ℕ → WalEntry → Type 0
IsOpenAlone words entry = IsOpen (bounds_of words) (with_open_entry (tables_of words) (Some entry)) entry

-- a word is an entry that may be open
pub record IsOpenWord (words : List ℕ) (word : ℕ) : Type 0 where
  pub form : IsWalWord word
  pub may : IsOpenAlone words (entry_of_word word)

-- a line whose word is not 0 and is no such entry, or is not the first
pub record IsBadLine (words : List ℕ) (line : ℕ) : Type 0 where
  pub below : line < wal_lines
  pub some : word_at words (wal_word line) ≢ 0
  pub bad : ¬ (IsOpenWord words (word_at words (wal_word line))) ⊎ ((earlier : ℕ) × (earlier < line) × (word_at words (wal_word earlier) ≢ 0))

-- the first such line
pub record IsWalDefect (words : List ℕ) (defect : Defect) : Type 0 where
  pub line : ℕ
  pub first : IsLeast (IsBadLine words) line
  pub is : defect ≡ BadWal line (word_at words (wal_word line))
