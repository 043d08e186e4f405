-- What a write of words decides before its first store, and what it does behind its begin.
use Rattle.std.specs.Prelude.{◌≡◌, ℕ, ◌+◌, ◌*◌, ◌/◌, ◌<◌, ◌≤◌, List, Result, Ok, Err, None}
use Rattle.pmem_lines.specs.Pmem.{PmemState, words_of}
use Rattle.pmem_lines.specs.Steps.{IsQuietStep}
use Rattle.book_log.specs.Book.{Book}
use Rattle.heap_model.specs.Machine.{Range}
use Rattle.heap_indexes.specs.Indexes.{Indexes}
use Rattle.heap_check.specs.Image.{bounds_of}
use Rattle.arena_core.specs.declared.answer.BlockRefusal.{BlockRefusal}
use Rattle.arena_core.specs.declared.answer.BlockRefusal.TheVariants.{NoRoot, Empty, OutOfRange}
use Rattle.arena_core.specs.Answer.{write_reply}
use Rattle.gc_check.specs.State.{gc_blocks}
use Rattle.gc_heap.specs.Arena.{IsGcArena}
use Rattle.gc_heap.specs.Plan.{HasGcBlockAt}
use Rattle.gc_heap.specs.Payload.{gc_payload_events, IsGcWriteStep, IsGcWrittenBy, IsEitherGcWords}

-- so many words of a root's block from an index on begin at this byte, all of them words of the block
pub record IsGcWritable (words : List ℕ) (root from count at : ℕ) : Type 0 where
  pub range : Range
  pub block : HasGcBlockAt words root range
  pub within : from + count ≤ range.size / 8
  pub begins : at ≡ range.at + 8 * from

-- so many words from an index on are more than the root's block has
pub record IsGcTooMany (words : List ℕ) (root from count : ℕ) : Type 0 where
  pub range : Range
  pub block : HasGcBlockAt words root range
  pub past : range.size / 8 < from + count

-- the byte at which a write of so many words begins, or why there is none
abbrev pub IsGcWritePlan : List ℕ → ℕ → ℕ → ℕ → Result ℕ BlockRefusal → Type 0
IsGcWritePlan words root from count (Ok at) = IsGcWritable words root from count at
IsGcWritePlan words root from count (Err NoRoot) = (bounds_of words).roots ≤ root
IsGcWritePlan words root from count (Err Empty) = (root < (bounds_of words).roots) × (gc_blocks words root ≡ None)
IsGcWritePlan words root from count (Err OutOfRange) = IsGcTooMany words root from count

-- what a write did behind its begin, and that what stands beside the words stays what they say
pub record IsGcWriteCarried (old new : PmemState) (root from : ℕ) (words : List ℕ) (result : Result (Unit {0}) BlockRefusal) : Type 0 where
  pub carried : IsQuietStep old new (gc_payload_events (words_of old) root from words (write_reply result)) (IsEitherGcWords (words_of old) (words_of new))
  pub written : IsGcWrittenBy (words_of old) root from words (words_of new) result
  pub step : IsGcWriteStep (words_of old) (words_of new) root from words (write_reply result)
  pub arena : (book : Book) (indexes : Indexes) → IsGcArena old book indexes → IsGcArena new book indexes
