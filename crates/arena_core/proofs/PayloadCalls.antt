-- Words that are written into a root's block: the step of the heap machine, the block of a root, and what a write did behind its
-- begin.
use Rattle.std.proofs.Common.{◌≡◌, ◌<◌, ◌≤◌, ◌+◌, ◌*◌, ◌/◌, ℕ, List, [], length, get_or, refl, ap, ◌∙◌, arith, Option, Err, sym, inl, ◌%◌, Ok, None}
use Rattle.arena_core.proofs.Common.{word_at, fields_word, Range, Machine, bounds_of, IsExactImage, HasState, BlockRefusal, IsWriteStep, HasWritten, HasBlockAt, IsWritable, IsWritePlan, PmemState, words_of, IsQuietStep, step_by, step_none, step_wider, tables_of, HasNoMove-closed, class_size, slab_block, root_table-past, heap, IsNamed-claim, heap-none, IsClaim-heap, sizes_of, IsWithin-claim, IsReady, payload_events, IsWriteCarried, IsHeldBy, range_held, law_of_exact_state, OutOfRange, block_refusal, Held, IsSameOffBlock, bounds_kept, exact_kept, slabs_kept}
use Rattle.durable_steps.specs.Rows.{IsOldOrNewRow}
use Rattle.heap_model.specs.declared.call.Reply.TheVariants as replies
use Rattle.arena_core.specs.declared.answer.BlockRefusal.TheVariants.{NoRoot, Empty}
use Rattle.arena_core.specs.Answer.{write_reply}
use Rattle.arena_core.specs.Payload.{with_values, IsEitherWords, IsBlockPlan}
use Rattle.arena_core.proofs.Readiness.{ready_after}
use Rattle.arena_core.proofs.WrittenWords.{parts_stay, values_written, wrote, wrote_none, off_block, row_written, in_written, off_written, either_word, outside}
use Rattle.arena_core.specs.Events.{words_events}
use Rattle.size_classes.proofs.Spacing.{class_size-aligned}
use Rattle.arena_core.proofs.CallEvents.{held_heap}
use Rattle.arena_core.proofs.PayloadImages.{IsArena-block}
use Rattle.heap_check.proofs.OffBlocks.{log, heap_kept}
use Rattle.heap_check.specs.Heap.{entry_at}
use Rattle.heap_check.specs.Sound.{granules_at}

-- the state behind a write
state_written : {old new : List ℕ} {root from : ℕ} {words : List ℕ} {range : Range} → IsExactImage old → HasBlockAt old root range → from + length words ≤ range.size / 8 → HasWritten old root from words new → (m : Machine) → HasState old m → HasState new (with_values m root from words)
state_written {old} {new} {root} {from} {words} {range} image block within written m state = record {
  blocks = λ other. written.heap.each other ∙ state.blocks other ∙ sym (ap (λ (f : ℕ → Option Range). f other) (parts_stay m root from words).0);
  slabs = λ start. written.slabs start ∙ state.slabs start ∙ sym (ap (λ (f : ℕ → Option ℕ). f start) (parts_stay m root from words).1);
  values = values_written (law_of_exact_state old m image state) (sym (state.blocks root) ∙ block.named) within (record { here = λ i below. grind arith; off = λ k off. grind arith }) state.values;
}

-- steps

-- the words are written
pub step_written : {old new : List ℕ} {root from at : ℕ} {words : List ℕ} → IsExactImage old → IsWritable old root from (length words) at → word_at new fields_word ≡ word_at old fields_word → HasWritten old root from words new → IsWriteStep old new root from words replies.Wrote
step_written {old} {new} {root} {from} {at} {words} image may header written = record {
  header = header;
  each = λ m state. (with_values m root from words, wrote (bounds_of old) from words may.block.rooted (sym (state.blocks root) ∙ may.block.named) may.within, state_written image may.block may.within written m state);
}

-- nothing is written
pub step_refused : (old : List ℕ) (root from : ℕ) (words : List ℕ) (refusal : BlockRefusal) → IsWritePlan old root from (length words) (Err refusal) → IsWriteStep old old root from words (block_refusal refusal)
step_refused old root from words NoRoot past = record { header = refl; each = λ m state. (m, inl (past, (refl, refl)), state) }
step_refused old root from words Empty plan = record { header = refl; each = λ m state. (m, grind arith, state) }
step_refused old root from words OutOfRange many = record {
  header = refl;
  each = λ m state. (m, wrote_none (bounds_of old) from words many.block.rooted (sym (state.blocks root) ∙ many.block.named) many.past, state);
}

-- the block of a root

-- a product in which a factor is of 16s
swap : (n k : ℕ) → n * (16 * k) ≡ 16 * (n * k)
swap n k = grind arith

-- blocks begin at whole words
aligned_block : (start class number : ℕ) → class < 36 → (slab_block start class number).at % 8 ≡ 0
aligned_block start class number is_class =
    let size : class_size class ≡ 16 * (class_size class / 16) = omega (arith, class_size-aligned class is_class) in
    omega (arith, ap (λ n. number * n) size ∙ swap number (class_size class / 16))

aligned_held : (words : List ℕ) → IsExactImage words → (root : ℕ) (held : Held) → IsHeldBy (bounds_of words) (tables_of words) root held → (range_held held).at % 8 ≡ 0
aligned_held words image root held named = grind (arith, aligned_block)

-- what a root holds is a block of it, which lies inside
pub held_block_at : (words : List ℕ) → IsExactImage words → (root : ℕ) (held : Held) → root < (bounds_of words).roots → IsHeldBy (bounds_of words) (tables_of words) root held → HasBlockAt words root (range_held held)
held_block_at words image root held rooted is =
    let t = tables_of words in
    let sizes = sizes_of words image.formed in
    let named = held_heap words image root held is in
    let none = ap (λ e. entry_at e root) image.exact.closed in
    let claim = IsClaim-heap t root (range_held held) none named in
    let within = IsWithin-claim image.exact.sound root (range_held held) none claim in
    let some : 0 < granules_at t within.0 = omega (arith, within.1.low, within.1.high, within.1.some) in
    let lies = image.exact.sound.extents.starts within.0 some in
    record {
      rooted = rooted;
      named = named;
      place = (IsNamed-claim t root (range_held held) none claim).word;
      aligned = aligned_held words image root held is;
      inside = omega (arith, within.1.high, lies.1, sizes.size);
      few = omega (arith, sizes.size, sizes.most);
    }

-- where none is found the root has none
pub block_refused : (words : List ℕ) (root : ℕ) (refusal : BlockRefusal) → IsBlockPlan words root (Err refusal) → heap (tables_of words) root ≡ None
block_refused words root NoRoot past = heap-none (tables_of words) root (root_table-past words root past)
block_refused words root Empty none = none.1
block_refused words root OutOfRange never = absurd never

-- what a write did

module _ {old new : PmemState} {root from at : ℕ} {words : List ℕ} (image : IsExactImage (words_of old)) (may : IsWritable (words_of old) root from (length words) at)
    (step : IsQuietStep old new (words_events at words) (IsOldOrNewRow (words_of old) at words)) where
  inside : at + 8 * length words ≤ 8 * length (words_of old)
  inside = omega (arith, may.block.inside, may.within, may.begins)

  begins : at ≡ (tables_of (words_of old)).root root + 8 * from
  begins = omega (arith, may.begins, may.block.place)

  -- the words of the row are words of the block
  off_image : {left : List ℕ} → IsOldOrNewRow (words_of old) at words left → IsSameOffBlock (words_of old) left may.range
  off_image row = off_block from may.begins may.within row

  off_new : IsSameOffBlock (words_of old) (words_of new) may.range
  off_new = off_image (row_written step inside)

  written : HasWritten (words_of old) root from words (words_of new)
  written = record {
    same_length = step.appends.size;
    heap = heap_kept image root may.block.named off_new;
    slabs = slabs_kept image root may.block.named off_new;
    here = λ i below. in_written step inside ((tables_of (words_of old)).root root / 8 + from + i) (omega (arith, begins)) (omega (arith, begins, below)) ∙ ap (λ j. get_or words j 0) (omega (arith, begins));
    others = λ k off. off_written step inside k (outside (at / 8) (at / 8 + length words) k (λ low high. off (record { low = omega (arith, begins, low); high = omega (arith, begins, high) })));
  }

  -- an image of a crash
  either : (left : List ℕ) → IsOldOrNewRow (words_of old) at words left → IsEitherWords (words_of old) (words_of new) left
  either left row =
      let off = off_image row in
      let exact = exact_kept image root may.block.named off in
      record {
        exact = exact;
        bounds = bounds_kept image root may.block.named off;
        heap = heap_kept image root may.block.named off;
        each = either_word step inside left row;
        still = HasNoMove-closed exact.exact.closed;
      }

  header : word_at (words_of new) fields_word ≡ word_at (words_of old) fields_word
  header = (log image root may.block.named off_new).fields

  pub carried_words : IsReady old → IsWriteCarried old new root from words (Ok tt)
  carried_words ready = record {
    carried = step_by (words_events at words) (payload_events (words_of old) root from words (write_reply (Ok tt))) (ap (λ a. words_events a words) begins) (step_wider either step);
    written = written;
    step = step_written image may header written;
    arena = λ volatile arena. IsArena-block root arena may.block.named off_new (ready_after ready step.appends.room step.quiet header);
  }

-- a crash in which nothing is done
IsEitherWords-same : (words : List ℕ) → IsExactImage words → IsEitherWords words words words
IsEitherWords-same words image = record { exact = image; bounds = refl; heap = record { each = λ root. refl }; each = λ k. inl refl; still = HasNoMove-closed image.exact.closed }

refused_events : (words : List ℕ) (root from : ℕ) (written : List ℕ) (refusal : BlockRefusal) → payload_events words root from written (write_reply (Err refusal)) ≡ []
refused_events words root from written refusal = grind arith

pub carried_none : {old : PmemState} {root from : ℕ} {words : List ℕ} (refusal : BlockRefusal) → IsExactImage (words_of old) → IsReady old → IsWritePlan (words_of old) root from (length words) (Err refusal) → IsWriteCarried old old root from words (Err refusal)
carried_none {old} {root} {from} {words} refusal image ready plan = record {
  carried = step_by [] (payload_events (words_of old) root from words (write_reply (Err refusal))) (sym (refused_events (words_of old) root from words refusal)) (step_none ready.quiet (IsEitherWords-same (words_of old) image));
  written = refl;
  step = step_refused (words_of old) root from words refusal plan;
  arena = λ volatile arena. arena;
}
