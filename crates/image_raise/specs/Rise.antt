-- What becomes of an arena whose heap comes to lie some granules higher, and so of one of version 1 that becomes one of
-- version 2.
use Rattle.std.specs.Prelude.{◌≡◌, ◌==◌, ℕ, ◌+◌, ◌*◌, ◌<◌, ◌≤◌, List, None, option_map, if◌then◌else◌}
use Rattle.pmem_lines.specs.Words.{word_at}
use Rattle.pool_layout.specs.declared.header.PoolHeader.{PoolHeader}
use Rattle.pool_layout.specs.Places.{heap_word, granule_word}
use Rattle.image_tables.specs.Tables.{tables_of}
use Rattle.book_log.specs.declared.entry.LogEntry.{LogEntry}
use Rattle.book_log.specs.declared.entry.LogEntry.TheVariants.{Large, Slab, Tomb}
use Rattle.heap_model.specs.Machine.{Range}
use Rattle.heap_check.specs.Heap.{heap, slabs}
use Rattle.heap_check.specs.Image.{IsExactImage}

-- how many granules the heap of version 2 begins higher than that of version 1
abbrev pub rise : ℕ
rise = 9

-- an address so many granules higher; 0 is none
abbrev pub raised_at : ℕ → ℕ → ℕ
raised_at d at = if at == 0 then 0 else at + 16384 * d

-- a block so many granules higher
abbrev pub raised : ℕ → Range → Range
raised d range = record { at = range.at + 16384 * d; size = range.size }

-- an entry of the log that names a granule so much higher
abbrev pub raised_entry : ℕ → LogEntry → LogEntry
raised_entry d (Large start granules) = Large (start + d) granules
raised_entry d (Slab start) = Slab (start + d)
raised_entry d (Tomb start) = Tomb (start + d)

-- the header of version 2, of an arena that has as much more
abbrev pub raised_header : PoolHeader → PoolHeader
raised_header header = record { version = 2; number = header.number; arenas = header.arenas; granules = header.granules + rise }

-- The new words are exact. Their heap and their slabs are those of the old ones, which are of version 1, with every address
-- as much higher, and each word of the old heap stands as much higher too.
pub record IsRaisedImage (words new : List ℕ) : Type 0 where
  pub exact : IsExactImage new
  pub blocks : (root : ℕ) → heap (tables_of new) root ≡ option_map (raised rise) (heap (tables_of words) root)
  pub no_slab : (start : ℕ) → start < rise → slabs (tables_of new) start ≡ None
  pub slab : (start : ℕ) → slabs (tables_of new) (start + rise) ≡ slabs (tables_of words) start
  pub word : (k : ℕ) → heap_word 1 ≤ k → word_at new (k + granule_word rise) ≡ word_at words k
