-- An arena is formatted: what it is behind its header line.
use Rattle.std.proofs.Common.{false, ◌≡◌, ◌≢◌, ℕ, true, List, None, Some, sym, ap, subst, ◌∙◌, true≢false}
use Rattle.std.proofs.lemmas.Bool.{cond-false}
use Rattle.pmem_lines.specs.Events.{CrashOnly}
use Rattle.pmem_lines.specs.Pmem.{PmemState, words_of, began}
use Rattle.pool_layout.specs.declared.header.PoolHeader.{PoolHeader}
use Rattle.pool_layout.specs.declared.header.PoolVariant.TheVariants.{Gc}
use Rattle.image_tables.specs.Tables.{tables_of, large_of, is_slab_of}
use Rattle.book_log.specs.Book.{Book, AreWithin, Reads}
use Rattle.book_log.proofs.Places.{within_heap}
use Rattle.heap_model.specs.Machine.{no_heap}
use Rattle.heap_model.specs.Placement.{Stacks, no_stacks, AreSound}
use Rattle.heap_model.proofs.SoundStacks.{law_of_no_stacks}
use Rattle.thread_cache.specs.Stacks.{stacks_of}
use Rattle.heap_indexes.specs.Indexes.{Indexes, AreIndexesOf}
use Rattle.heap_check.specs.Image.{bounds_of}
use Rattle.heap_check.proofs.Formatted.{no_root, no_extent, header_line, size_is, fresh_log, header_is}
use Rattle.arena_core.proofs.HeaderLines.{IsWritten, formatted_device, formatted_crash, formatted_ready}
use Rattle.gc_check.specs.Heap.{address_field, gc_tables}
use Rattle.gc_check.specs.Image.{IsGcFormed, IsGcExactImage}
use Rattle.gc_check.specs.Laws.{AreGcBlank}
use Rattle.gc_check.specs.State.{HasGcState}
use Rattle.gc_check.proofs.Blank.{law_of_empty_gc_heap}
use Rattle.gc_check.proofs.Logged.{gc_log}
use Rattle.gc_heap.specs.Arena.{gc_bounds, state_in, IsGcArena}
use Rattle.gc_heap.specs.Formatted.{IsGcFormatted, IsGcFormattedOrNot}
use Rattle.gc_heap.proofs.Sizes.{bounds_first}
use Rattle.gc_heap.proofs.States.{indexes_in}

module _ (words : List ℕ) (fields : PoolHeader) (formatted : IsGcFormatted words fields) where
  blank : AreGcBlank (gc_tables words)
  unfolding gc_tables tables_of
  blank = record {
    words = no_root Gc words fields formatted;
    roots = λ root. ap address_field (no_root Gc words fields formatted root);
    no_large = λ start. ap large_of (no_extent Gc words fields formatted start);
    no_slab = λ start. ap is_slab_of (no_extent Gc words fields formatted start);
  }

  formed : IsGcFormed words
  formed = record {
    header = header_line Gc words fields formatted;
    size = size_is Gc words fields formatted;
    log = fresh_log Gc words fields formatted;
    slabs = λ start slab. absurd (true≢false (sym slab ∙ ap is_slab_of (no_extent Gc words fields formatted start)));
  }

  formatted_image : IsGcExactImage words
  formatted_image = record { formed = formed; exact = (law_of_empty_gc_heap (bounds_of words) (gc_tables words) blank).0 }

  formatted_state : HasGcState words no_heap
  formatted_state = record {
    blocks = (law_of_empty_gc_heap (bounds_of words) (gc_tables words) blank).1;
    slabs = λ start. cond-false ((gc_tables words).slab start) (Some ((gc_tables words).header start).class) None (blank.no_slab start);
    values = λ root index word is. absurd (cc);
  }

-- a call began on a device of zeros, and the header line was written
module _ {old begun new : PmemState} {header : PoolHeader} (made : IsWritten Gc old begun new header) where
  pub formatted_exact : IsGcExactImage (words_of new)
  formatted_exact = formatted_image (words_of new) header (formatted_device made)

  pub formatted_empty : HasGcState (words_of new) no_heap
  formatted_empty = formatted_state (words_of new) header (formatted_device made)

  pub formatted_steady : CrashOnly new.base new.events IsGcFormattedOrNot
  formatted_steady = formatted_crash made (λ image. IsGcExactImage image × HasGcState image no_heap) (formatted_exact, formatted_empty)

  pub formatted_inside : AreWithin (words_of new)
  formatted_inside = within_heap (words_of new) (gc_log (words_of new) formatted_exact.formed).inside

  -- what the arena keeps
  pub formatted_arena : (book : Book) (indexes : Indexes) → Reads book (words_of new) → book.granules ≡ header.granules → AreIndexesOf (gc_bounds header.granules) no_heap indexes → stacks_of indexes.supply.stacks ≡ no_stacks → IsGcArena new book indexes
  formatted_arena book indexes reads size are empty =
      let granules = ap (λ (h : PoolHeader). h.granules) (header_is Gc (words_of new) header (formatted_device made)) in
      record {
        ready = formatted_ready made;
        exact = formatted_exact;
        log = record { reads = reads; granules = size ∙ sym granules };
        are = indexes_in (words_of new) no_heap indexes (bounds_first (words_of new) formatted_exact.formed ∙ ap gc_bounds granules) formatted_empty.blocks formatted_empty.slabs are;
        sound = subst (λ (stacks : Stacks). AreSound (record { machine = state_in (words_of new); stacks = stacks })) (sym empty) (law_of_no_stacks (state_in (words_of new)));
      }
