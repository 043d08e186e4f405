-- A block moves from a root to another: what each image of a crash is, and the sequence whole.
use Rattle.std.proofs.Common.{◌≡◌, ◌⊎◌, ℕ, ◌*◌, ◌<◌, List, sym, ap, subst, ◌∙◌, arith, inl, inr, ⊎_elim, Option, Some, None}
use Rattle.pmem_lines.specs.Words.{put_word}
use Rattle.pmem_lines.specs.Pmem.{PmemState}
use Rattle.pmem_lines.specs.Steps.{IsQuietStep}
use Rattle.pmem_lines.proofs.Steps.{step_then}
use Rattle.durable_steps.specs.Steps.{word_events}
use Rattle.pool_layout.specs.Places.{root_word, wal_word}
use Rattle.image_tables.specs.declared.entry.WalEntry.{WalEntry}
use Rattle.image_tables.specs.declared.entry.WalEntry.TheVariants.{Move}
use Rattle.image_tables.specs.Tables.{Tables, tables_of}
use Rattle.image_tables.specs.Updates.{put_at, with_root}
use Rattle.attach_wal.specs.Entry.{entry_word}
use Rattle.attach_wal.specs.Wal.{Opens, OpensOrNot, Closes, ClosesOrNot}
use Rattle.attach_steps.specs.Steps.{root_events, move_events, PutsRootOrNot}
use Rattle.heap_model.specs.Machine.{Bounds}
use Rattle.heap_check.specs.Heap.{heap}
use Rattle.heap_check.specs.Sound.{IsExact, IsSteady}
use Rattle.heap_check.specs.Image.{bounds_of, IsSteadyImage}
use Rattle.heap_check.specs.State.{HaveSameHeap, KeepsBlocks}
use Rattle.heap_check.proofs.BlockWords.{block_word-heap}
use Rattle.heap_check.proofs.Heaps.{heap-none}
use Rattle.heap_check.proofs.Sizes.{sizes_of}
use Rattle.move_steps.specs.Moves.{IsMovable, IsMoved, IsEitherMoved}
use Rattle.settle_steps.proofs.Renamed.{IsRenaming}
use Rattle.move_steps.proofs.Renamed.{IsSteady-renamed, IsExact-renamed, heap-renamed}
use Rattle.move_steps.proofs.HeldRoots.{swapped, swapped_from, swapped_to, swapped_other, swapped_back}
use Rattle.move_steps.proofs.Stages.{IsStageOf, same_name, differ, plain_roots, both_words, new_words, as_moved, stage_begin, stage_open, stage_to, stage_from, stage_close, begins, opened, both_open, new_open, new_closed, held_before, held_with_both, held_new}

module _ {words : List ℕ} {line from to at : ℕ} (may : IsMovable words from to at) (line_below : line < 8) where
  abbrev t : Tables
  t = tables_of words

  abbrev own : WalEntry
  own = Move from to

  module _ (word name : ℕ → ℕ) (entry : Option WalEntry) (image : List ℕ) (renaming : IsRenaming (bounds_of words) (tables_of words) from to word name entry) (stage : IsStageOf words line from to word name entry image) where
    -- each stage is steady
    steady : IsSteadyImage image
    steady = record {
      formed = stage.formed;
      steady = subst (λ (b : Bounds). IsSteady b (tables_of image)) (sym stage.bounds)
          (subst (IsSteady (bounds_of words)) (sym stage.tables) (IsSteady-renamed may.image.exact from to word name entry renaming));
    }

    -- has the heap by the names
    heap_is : (r : ℕ) → heap (tables_of image) r ≡ heap (tables_of words) (name r)
    heap_is r = ap (λ (x : Tables). heap x r) stage.tables ∙ heap-renamed may.image.exact from to word name entry renaming r

    -- and keeps the words of blocks
    keeps : KeepsBlocks words image
    keeps = record {
      each = λ r other range k was _ within.
          let sizes = sizes_of words may.image.formed in
          let high = block_word-heap may.image.exact.sound may.image.exact.closed r range was k within in
          stage.rest.others k
          (λ e. omega (arith, e, high, sizes.first, line_below))
          (λ e. omega (arith, e, high, sizes.first, sizes.roots, may.from_rooted))
          (λ e. omega (arith, e, high, sizes.first, sizes.roots, may.to_rooted));
    }

    -- with one of the two heaps it is what a crash may leave
    judged : (new : List ℕ) → HaveSameHeap words image ⊎ HaveSameHeap new image → (tables_of words).root (name to) ≡ word to → IsEitherMoved words new to image
    judged new same held = record {
      steady = steady;
      bounds = stage.bounds;
      heap = same;
      words = keeps;
      held = ap (λ (x : Tables). x.root to) stage.tables ∙ held ∙ sym (ap (λ (x : Tables). x.word to) stage.tables);
    }

  -- a stage with the heap from before
  before : (new : List ℕ) (entry : Option WalEntry) (image : List ℕ) → IsRenaming (bounds_of words) t from to t.word same_name entry → IsStageOf words line from to t.word same_name entry image → IsEitherMoved words new to image
  before new entry image renaming stage =
      judged t.word same_name entry image renaming stage new (inl (record { each = heap_is t.word same_name entry image renaming stage })) (held_before words line from to at may line_below)

  module _ (left new : List ℕ) (stage : IsStageOf words line from to (new_words words line from to at may line_below) (swapped from to) (Some (Move from to)) left) (closes : Closes left line new) where
    abbrev last : ℕ → ℕ
    last = put_at (put_at t.word to at) from 0

    ends : IsStageOf words line from to (put_at (put_at t.word to at) from 0) (swapped from to) None new
    ends = stage_close words line from to at may line_below last (swapped from to) (Some own) left stage new (as_moved words line from to at may line_below) closes

    new_heap : (r : ℕ) → heap (tables_of new) r ≡ heap t (swapped from to r)
    new_heap = heap_is last (swapped from to) None new (new_closed words line from to at may line_below) ends

    -- a stage with the heap from after it
    behind : (word : ℕ → ℕ) (entry : Option WalEntry) (image : List ℕ) → IsRenaming (bounds_of words) t from to word (swapped from to) entry → IsStageOf words line from to word (swapped from to) entry image → t.root (swapped from to to) ≡ word to →
        IsEitherMoved words new to image
    behind word entry image renaming here held =
        judged word (swapped from to) entry image renaming here new (inr (record { each = λ r. heap_is word (swapped from to) entry image renaming here r ∙ sym (new_heap r) })) held

    -- the tables, and what they say of the slabs

    put_twice : put_at (put_at t.root to at) from 0 ≡ (λ r. t.root (swapped from to r))
    put_twice = ap (λ (f : ℕ → ℕ). put_at (put_at f to at) from 0) (plain_roots words line from to at may line_below) ∙ as_moved words line from to at may line_below

    new_tables : tables_of new ≡ with_root (with_root t to at) from 0
    new_tables = ends.tables ∙ sym (λ i. record t { word = last; root = put_twice i; open_entry = may.image.exact.closed i })

    pub moved : IsMoved words line from to at new
    moved =
        let apart = differ words line from to at may line_below in
        record {
          exact = record {
            formed = ends.formed;
            exact = subst (λ (b : Bounds). IsExact b (tables_of new)) (sym ends.bounds)
                (subst (IsExact (bounds_of words)) (sym ends.tables) (IsExact-renamed may.image.exact from to last (swapped from to) (swapped_back from to apart)));
          };
          bounds = ends.bounds;
          tables = new_tables;
          slabs = λ start. record { slab = ap (λ (x : Tables). x.slab start) ends.tables; header = ap (λ (x : Tables). x.header start) ends.tables };
          moves = record {
            here = new_heap to ∙ ap (heap t) (swapped_to from to apart);
            gone = new_heap from ∙ ap (heap t) (swapped_from from to) ∙ heap-none t to may.none;
            others = λ other not_from not_to. new_heap other ∙ ap (heap t) (swapped_other from to other not_from not_to);
          };
          keeps = keeps last (swapped from to) None new (new_closed words line from to at may line_below) ends;
          rest = ends.rest;
        }

  -- the whole sequence: the words behind each of its steps, and what a crash within each leaves
  module _ {made both left new : List ℕ} (opens : Opens words line (Move from to) made) (both_is : both ≡ put_word made (root_word to) at) (left_is : left ≡ put_word both (root_word from) 0) (closes : Closes left line new) where
    made_stage : IsStageOf words line from to t.word same_name (Some own) made
    made_stage = stage_open words line from to at may line_below made opens

    both_stage : IsStageOf words line from to (both_words words line from to at may line_below) (swapped from to) (Some own) both
    both_stage = subst (λ (ws : List ℕ). IsStageOf words line from to (put_at t.word to at) (swapped from to) (Some own) ws) (sym both_is) (stage_to words line from to at may line_below made made_stage)

    left_stage : IsStageOf words line from to (new_words words line from to at may line_below) (swapped from to) (Some own) left
    left_stage = subst (λ (ws : List ℕ). IsStageOf words line from to (put_at (put_at t.word to at) from 0) (swapped from to) (Some own) ws) (sym left_is) (stage_from words line from to at may line_below both both_stage)

    pub moved_whole : IsMoved words line from to at new
    moved_whole = moved left new left_stage closes

    made_left : IsEitherMoved words new to made
    made_left = before new (Some own) made (opened words line from to at may line_below) made_stage

    both_left : IsEitherMoved words new to both
    both_left = behind left new left_stage closes (put_at t.word to at) (Some own) both (both_open words line from to at may line_below) both_stage (held_with_both words line from to at may line_below)

    left_left : IsEitherMoved words new to left
    left_left = behind left new left_stage closes (put_at (put_at t.word to at) from 0) (Some own) left (new_open words line from to at may line_below) left_stage (held_new words line from to at may line_below)

    new_left : IsEitherMoved words new to new
    new_left = behind left new left_stage closes (put_at (put_at t.word to at) from 0) None new (new_closed words line from to at may line_below) (ends left new left_stage closes) (held_new words line from to at may line_below)

    -- the words behind a step that may be done or not
    either_of : (one other image : List ℕ) → IsEitherMoved words new to one → IsEitherMoved words new to other → (image ≡ one) ⊎ (image ≡ other) → IsEitherMoved words new to image
    either_of one other image first second which =
        ⊎_elim (λ is. subst (IsEitherMoved words new to) (sym is) first) (λ is. subst (IsEitherMoved words new to) (sym is) second) which

    opening_left : (image : List ℕ) → OpensOrNot words line (Move from to) image → IsEitherMoved words new to image
    opening_left image which = ⊎_elim
        (λ (same : image ≡ words). subst (IsEitherMoved words new to) (sym same) (before new None words (begins words line from to at may line_below) (stage_begin words line from to at may line_below)))
        (λ (done : Opens words line own image). subst (IsEitherMoved words new to) (opens.is ∙ sym done.is) made_left)
        which

    closing_left : (image : List ℕ) → ClosesOrNot left line image → IsEitherMoved words new to image
    closing_left image which = ⊎_elim
        (λ (same : image ≡ left). subst (IsEitherMoved words new to) (sym same) left_left)
        (λ (done : Closes left line image). subst (IsEitherMoved words new to) (closes.is ∙ sym done.is) new_left)
        which

    pub move_step : {s u v w x : PmemState} → IsQuietStep s u (word_events (8 * wal_word line) (entry_word (Move from to))) (OpensOrNot words line (Move from to)) →
        IsQuietStep u v (root_events to at) (PutsRootOrNot made to at) → IsQuietStep v w (root_events from 0) (PutsRootOrNot both from 0) →
        IsQuietStep w x (word_events (8 * wal_word line) 0) (ClosesOrNot left line) → IsQuietStep s x (move_events line from to at) (IsEitherMoved words new to)
    move_step opening to_put from_put closing =
        let P : List ℕ → Type 0 = IsEitherMoved words new to in
        let first = step_then P (λ ws. root_events to at) opening to_put opening_left (λ image which. either_of made both image made_left both_left (⊎_elim (λ same. inl same) (λ put. inr (put ∙ sym both_is)) which)) in
        let second = step_then P (λ ws. root_events from 0) first from_put (λ image is. is) (λ image which. either_of both left image both_left left_left (⊎_elim (λ same. inl same) (λ put. inr (put ∙ sym left_is)) which)) in
        step_then P (λ ws. word_events (8 * wal_word line) 0) second closing (λ image is. is) closing_left
