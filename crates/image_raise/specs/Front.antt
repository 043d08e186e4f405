-- The words before the heap of version 2, step by step: each step changes some of them, by what stands in the words of
-- version 1.
use Rattle.std.specs.Prelude.{◌≡◌, ◌≢◌, ◌⊎◌, ℕ, ◌^◌, ◌<◌, ◌≤◌, List, length}
use Rattle.pmem_lines.specs.Words.{word_at}
use Rattle.pool_layout.specs.declared.header.PoolHeader.{PoolHeader}
use Rattle.pool_layout.specs.Layout.{layout_of}
use Rattle.pool_layout.specs.Places.{text_word, fields_word, directory_word, root_word, entry_slot}
use Rattle.pool_layout.specs.Header.{header_text, header_word}
use Rattle.book_log.specs.declared.entry.LogEntry.{LogEntry}
use Rattle.book_log.specs.Entry.{log_word, IsEntryWord, IsNoEntryWord}
use Rattle.image_raise.specs.Rise.{rise, raised_at, raised_entry, raised_header}

-- each root's word is that of an address
pub record HasSmallRoots (words : List ℕ) : Type 0 where
  pub each : (root : ℕ) → root < (layout_of 1).roots → word_at words (root_word root) < 2 ^ 32

-- the word of an entry of a log of version 1 is that of the raised one, and any other word is 0
pub record IsRaisedWord (granules word new : ℕ) : Type 0 where
  pub entry : (entry : LogEntry) → IsEntryWord (layout_of 1).first_granule granules word entry → new ≡ log_word (raised_entry rise entry)
  pub none : IsNoEntryWord (layout_of 1).first_granule granules word → new ≡ 0

-- the header line is that of the raised header, with the directory that there was
pub record HasRaisedHeader (words : List ℕ) (header : PoolHeader) (old new : List ℕ) : Type 0 where
  pub size : length new ≡ length old
  pub text : word_at new text_word ≡ header_text
  pub fields : word_at new fields_word ≡ header_word (raised_header header)
  pub directory : word_at new directory_word ≡ word_at words directory_word
  pub rest : (k : ℕ) → directory_word < k → word_at new k ≡ word_at old k

-- the first so many roots are raised
pub record HasRaisedRoots (words : List ℕ) (count : ℕ) (old new : List ℕ) : Type 0 where
  pub size : length new ≡ length old
  pub each : (root : ℕ) → root < count → word_at new (root_word root) ≡ raised_at rise (word_at words (root_word root))
  pub rest : (k : ℕ) → (k < root_word 0) ⊎ (root_word count ≤ k) → word_at new k ≡ word_at old k

-- the first so many entries of a chunk are raised, each at its place of version 2
pub record HasRaisedEntries (words : List ℕ) (granules chunk count : ℕ) (old new : List ℕ) : Type 0 where
  pub size : length new ≡ length old
  pub each : (entry : ℕ) → entry < count → IsRaisedWord granules (word_at words (entry_slot 1 chunk entry)) (word_at new (entry_slot 2 chunk entry))
  pub rest : (k : ℕ) → ((entry : ℕ) → entry < count → k ≢ entry_slot 2 chunk entry) → word_at new k ≡ word_at old k

-- those of the first so many chunks are
pub record HasRaisedChunks (words : List ℕ) (granules count : ℕ) (old new : List ℕ) : Type 0 where
  pub size : length new ≡ length old
  pub each : (chunk entry : ℕ) → chunk < count → entry < (layout_of 1).chunk_entries → IsRaisedWord granules (word_at words (entry_slot 1 chunk entry)) (word_at new (entry_slot 2 chunk entry))
  pub rest : (k : ℕ) → ((chunk entry : ℕ) → chunk < count → entry < (layout_of 1).chunk_entries → k ≢ entry_slot 2 chunk entry) → word_at new k ≡ word_at old k

-- the header line is put, then the roots are raised, and then the log
pub record IsFilledFront (words : List ℕ) (header : PoolHeader) (old new : List ℕ) : Type 0 where
  pub headed : List ℕ
  pub rooted : List ℕ
  pub line : HasRaisedHeader words header old headed
  pub roots : HasRaisedRoots words (layout_of 1).roots headed rooted
  pub log : HasRaisedChunks words header.granules 16 rooted new
