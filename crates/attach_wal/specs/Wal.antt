-- What opening and closing an entry changes of the words of an arena, and of what they say.
use Rattle.std.specs.Prelude.{◌≡◌, ◌≢◌, ◌⊎◌, ℕ, ◌<◌, List, Some, None}
use Rattle.pmem_lines.specs.Words.{word_at, put_word}
use Rattle.pool_layout.specs.Places.{wal_word}
use Rattle.image_tables.specs.declared.entry.WalEntry.{WalEntry}
use Rattle.image_tables.specs.Tables.{AreSlabsInHeap, wal_lines, tables_of}
use Rattle.image_tables.specs.Updates.{with_open_entry}
use Rattle.attach_wal.specs.Entry.{entry_word}

-- no line but this one has an entry
pub record HasNoOther (words : List ℕ) (line : ℕ) : Type 0 where
  pub closed : (other : ℕ) → other < wal_lines → other ≢ line → word_at words (wal_word other) ≡ 0

-- The entry is open on a line. Where none was open before, that is all that changed of what the words say.
pub record Opens (words : List ℕ) (line : ℕ) (entry : WalEntry) (image : List ℕ) : Type 0 where
  pub is : image ≡ put_word words (wal_word line) (entry_word entry)
  pub tables : AreSlabsInHeap words → (tables_of words).open_entry ≡ None → tables_of image ≡ with_open_entry (tables_of words) (Some entry)

-- The line has no entry. Where no other line had one, that is all that changed of what the words say.
pub record Closes (words : List ℕ) (line : ℕ) (image : List ℕ) : Type 0 where
  pub is : image ≡ put_word words (wal_word line) 0
  pub tables : AreSlabsInHeap words → HasNoOther words line → tables_of image ≡ with_open_entry (tables_of words) None

-- after a crash within such a step it is done or not
abbrev pub OpensOrNot : List ℕ → ℕ → WalEntry → List ℕ → Type 0
OpensOrNot words line entry image = (image ≡ words) ⊎ Opens words line entry image

abbrev pub ClosesOrNot : List ℕ → ℕ → List ℕ → Type 0
ClosesOrNot words line image = (image ≡ words) ⊎ Closes words line image
