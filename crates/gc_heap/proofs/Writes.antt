-- Words that are written into a root's block: the step of the heap machine, and what a write did behind its begin.
use Rattle.std.proofs.Common.{◌≡◌, ◌≤◌, ◌+◌, ◌*◌, ◌/◌, ℕ, List, [], length, get_or, Option, Ok, Err, refl, sym, ap, subst, ◌∙◌, arith, inl}
use Rattle.pmem_lines.specs.Pmem.{PmemState, words_of}
use Rattle.pmem_lines.specs.Steps.{IsQuietStep}
use Rattle.pmem_lines.proofs.Steps.{step_by, step_none, step_wider}
use Rattle.durable_steps.specs.Rows.{IsOldOrNewRow}
use Rattle.book_log.specs.Book.{Book}
use Rattle.heap_model.specs.Machine.{Range, Machine}
use Rattle.heap_model.specs.Placement.{AreSound}
use Rattle.heap_model.specs.declared.call.Reply.TheVariants as replies
use Rattle.heap_indexes.specs.Indexes.{Indexes, AreIndexesOf}
use Rattle.heap_check.specs.Image.{bounds_of}
use Rattle.heap_check.proofs.OffBlocks.{IsSameOffBlock}
use Rattle.arena_core.specs.declared.answer.BlockRefusal.{BlockRefusal}
use Rattle.arena_core.specs.declared.answer.BlockRefusal.TheVariants.{NoRoot, Empty, OutOfRange}
use Rattle.arena_core.specs.Answer.{block_refusal, write_reply}
use Rattle.arena_core.specs.Call.{IsReady}
use Rattle.arena_core.specs.Events.{words_events}
use Rattle.arena_core.specs.Payload.{with_values}
use Rattle.arena_core.proofs.WrittenWords.{parts_stay, values_written, wrote, wrote_none, off_block, row_written, in_written, off_written, either_word, outside}
use Rattle.thread_cache.specs.Stacks.{stacks_of}
use Rattle.gc_check.specs.Heap.{gc_tables}
use Rattle.gc_check.specs.Image.{IsGcExactImage}
use Rattle.gc_check.specs.State.{HasGcState}
use Rattle.gc_check.proofs.ExactStates.{law_of_exact_gc_state}
use Rattle.gc_check.proofs.OffBlocks.{log_kept, bounds_kept, exact_kept, heap_kept, slabs_kept}
use Rattle.gc_heap.specs.Arena.{state_in, IsGcArena}
use Rattle.gc_heap.specs.Payload.{HasGcWritten, IsEitherGcWords, IsGcWriteStep, gc_payload_events}
use Rattle.gc_heap.specs.Plan.{HasGcBlockAt}
use Rattle.gc_heap.specs.Writing.{IsGcWritable, IsGcWritePlan, IsGcWriteCarried}
use Rattle.gc_heap.proofs.Books.{book_same}
use Rattle.gc_heap.proofs.Sizes.{version_first, ready_after}
use Rattle.gc_heap.proofs.States.{same_images}

-- the state behind a write
state_written : {old new : List ℕ} {root from : ℕ} {words : List ℕ} {range : Range} → IsGcExactImage old → HasGcBlockAt old root range → from + length words ≤ range.size / 8 → HasGcWritten old root from words new → (m : Machine) → HasGcState old m → HasGcState new (with_values m root from words)
state_written {old} {new} {root} {from} {words} {range} image block within written m state = record {
  blocks = λ other. written.heap.each other ∙ state.blocks other ∙ sym (ap (λ (f : ℕ → Option Range). f other) (parts_stay m root from words).0);
  slabs = λ start. written.slabs start ∙ state.slabs start ∙ sym (ap (λ (f : ℕ → Option ℕ). f start) (parts_stay m root from words).1);
  values = values_written (law_of_exact_gc_state old m image state) (sym (state.blocks root) ∙ block.named) within (record { here = λ i below. grind arith; off = λ k off. grind arith }) state.values;
}

-- steps

-- the words are written
pub step_written : {old new : List ℕ} {root from at : ℕ} {words : List ℕ} → IsGcExactImage old → IsGcWritable old root from (length words) at → bounds_of new ≡ bounds_of old → HasGcWritten old root from words new → IsGcWriteStep old new root from words replies.Wrote
step_written {old} {new} {root} {from} {at} {words} image may bounds written = record {
  bounds = bounds;
  each = λ m state. (with_values m root from words, wrote (bounds_of old) from words may.block.rooted (sym (state.blocks root) ∙ may.block.named) may.within, state_written image may.block may.within written m state);
}

-- nothing is written
pub step_refused : (old : List ℕ) (root from : ℕ) (words : List ℕ) (refusal : BlockRefusal) → IsGcWritePlan old root from (length words) (Err refusal) → IsGcWriteStep old old root from words (block_refusal refusal)
step_refused old root from words NoRoot past = record { bounds = refl; each = λ m state. (m, inl (past, (refl, refl)), state) }
step_refused old root from words Empty plan = record { bounds = refl; each = λ m state. (m, grind arith, state) }
step_refused old root from words OutOfRange many = record {
  bounds = refl;
  each = λ m state. (m, wrote_none (bounds_of old) from words many.block.rooted (sym (state.blocks root) ∙ many.block.named) many.past, state);
}

-- what a write did

module _ {old new : PmemState} {root from at : ℕ} {words : List ℕ} (image : IsGcExactImage (words_of old)) (may : IsGcWritable (words_of old) root from (length words) at)
    (step : IsQuietStep old new (words_events at words) (IsOldOrNewRow (words_of old) at words)) where
  inside : at + 8 * length words ≤ 8 * length (words_of old)
  inside = omega (arith, may.block.inside, may.within, may.begins)

  begins : at ≡ (gc_tables (words_of old)).root root + 8 * from
  begins = omega (arith, may.begins, may.block.place)

  -- the words of the row are words of the block
  off_image : {left : List ℕ} → IsOldOrNewRow (words_of old) at words left → IsSameOffBlock (words_of old) left may.range
  off_image row = off_block from may.begins may.within row

  off_new : IsSameOffBlock (words_of old) (words_of new) may.range
  off_new = off_image (row_written step inside)

  written : HasGcWritten (words_of old) root from words (words_of new)
  written = record {
    same_length = step.appends.size;
    heap = heap_kept image root may.block.named off_new;
    slabs = slabs_kept image root may.block.named off_new;
    here = λ i below. in_written step inside ((gc_tables (words_of old)).root root / 8 + from + i) (omega (arith, begins)) (omega (arith, begins, below)) ∙ ap (λ j. get_or words j 0) (omega (arith, begins));
    others = λ k off. off_written step inside k (outside (at / 8) (at / 8 + length words) k (λ low high. off (record { low = omega (arith, begins, low); high = omega (arith, begins, high) })));
  }

  -- an image of a crash
  either : (left : List ℕ) → IsOldOrNewRow (words_of old) at words left → IsEitherGcWords (words_of old) (words_of new) left
  either left row =
      let off = off_image row in
      record {
        exact = exact_kept image root may.block.named off;
        bounds = bounds_kept image root may.block.named off;
        heap = heap_kept image root may.block.named off;
        each = either_word step inside left row;
      }

  -- what stands beside the words stays what they say
  still_arena : (book : Book) (indexes : Indexes) → IsGcArena old book indexes → IsGcArena new book indexes
  still_arena book indexes arena =
      let exact = exact_kept image root may.block.named off_new in
      let bounds = bounds_kept image root may.block.named off_new in
      let state = same_images (words_of old) (words_of new) written.heap written.slabs in
      record {
        ready = ready_after arena.ready step.appends.room step.quiet (version_first (words_of old) image.formed) (version_first (words_of new) exact.formed);
        exact = exact;
        log = book_same book (words_of old) (words_of new) (log_kept image root may.block.named off_new) step.appends.size arena.log;
        are = subst (λ b. AreIndexesOf b (state_in (words_of new)) indexes) (sym bounds) (subst (λ (n : Machine). AreIndexesOf (bounds_of (words_of old)) n indexes) (sym state) arena.are);
        sound = subst (λ (n : Machine). AreSound (record { machine = n; stacks = stacks_of indexes.supply.stacks })) (sym state) arena.sound;
      }

  pub carried_words : IsGcWriteCarried old new root from words (Ok tt)
  carried_words = record {
    carried = step_by (words_events at words) (gc_payload_events (words_of old) root from words (write_reply (Ok tt))) (ap (λ a. words_events a words) begins) (step_wider either step);
    written = written;
    step = step_written image may (bounds_kept image root may.block.named off_new) written;
    arena = still_arena;
  }

-- a crash in which nothing is done
IsEitherGcWords-same : (words : List ℕ) → IsGcExactImage words → IsEitherGcWords words words words
IsEitherGcWords-same words image = record { exact = image; bounds = refl; heap = record { each = λ root. refl }; each = λ k. inl refl }

refused_events : (words : List ℕ) (root from : ℕ) (written : List ℕ) (refusal : BlockRefusal) → gc_payload_events words root from written (write_reply (Err refusal)) ≡ []
refused_events words root from written refusal = grind arith

pub carried_none : {old : PmemState} {root from : ℕ} {words : List ℕ} (refusal : BlockRefusal) → IsGcExactImage (words_of old) → IsReady old → IsGcWritePlan (words_of old) root from (length words) (Err refusal) → IsGcWriteCarried old old root from words (Err refusal)
carried_none {old} {root} {from} {words} refusal image ready plan = record {
  carried = step_by [] (gc_payload_events (words_of old) root from words (write_reply (Err refusal))) (sym (refused_events (words_of old) root from words refusal)) (step_none ready.quiet (IsEitherGcWords-same (words_of old) image));
  written = refl;
  step = step_refused (words_of old) root from words refusal plan;
  arena = λ book indexes arena. arena;
}
