-- A push: the stage takes a block, its words are written, and it moves to the root behind the last record.
use Rattle.std.proofs.Common.{◌≡◌, ℕ, ◌+◌, ◌/◌, ◌<◌, ◌≤◌, List, [], ◌∷◌, ◌++◌, length, Some, Err, inl, inr, refl, sym, ap, ◌∙◌, subst, arith, ⊎_elim}
use Rattle.uses.proofs.Common.{length_push, Event, word_at, PmemState, words_of, tables_of, Range, heap, IsExactImage, HaveSameHeap, IsEitherHeap, ArenaState, call_events, line_after, HasWritten, IsEitherWords, exact_steady, one_range, root_place, leaves, same_word, left_word, IsOneCall}
use Rattle.heap_model.specs.declared.call.Call.TheVariants as calls
use Rattle.heap_model.specs.declared.call.Reply.TheVariants as replies
use Rattle.move_steps.specs.Moves.{MovesOne, IsEitherMoved}
use Rattle.uses.specs.Stack.{stage, HasNone, HasRecord, IsStack, IsSteadyStack, StackState, IsKept, records_in}
use Rattle.uses.specs.Calls.{IsEitherStack, HasPushed, IsRefused, IsPushedBy}
use Rattle.uses.specs.declared.refusal.PushRefusal.{PushRefusal}
use Rattle.uses.specs.declared.refusal.PushRefusal.TheVariants.{Full, NoSpace}
use Rattle.uses.specs.Steps.{HasRecordBlock, KeepsBut, IsTaken, IsUntaken, IsTakenBy, IsFilled, IsShown}
use Rattle.uses.proofs.Stacks.{KeepsBelow, keeps_below, stack_kept, stack_more}
use Rattle.uses.proofs.Counted.{length-records_in, counted_same}

-- crashes

-- what a crash leaves while a block comes to the stage or goes from it
pub left_stack : (old new image : List ℕ) (records : List (List ℕ)) → IsStack old records → KeepsBut old new stage → IsEitherHeap old new image → IsSteadyStack records image
left_stack old new image records was keeps left = record {
  steady = left.steady;
  stack = stack_kept old image records was (keeps_below old image
      (λ root low. ⊎_elim (λ before. before.each root) (λ behind. behind.each root ∙ keeps.others root (λ is. omega (arith, is, low))) left.heap)
      left.words);
}

-- the words of the stage's block

-- they are no words of a record
module _ (words : List ℕ) (exact : IsExactImage words) (range : Range) (named : heap (tables_of words) stage ≡ Some range) (size : range.size ≡ 64) where
  -- so a write of them leaves the records, and so does a crash within it
  module _ (contents new : List ℕ) (count : length contents ≡ 8) (written : HasWritten words stage 0 contents new) where
    room : 0 + length contents ≤ range.size / 8
    room = omega (arith, count, size)

    pub written_below : KeepsBelow words new
    written_below = record {
      blocks = λ root low. written.heap.each root;
      words = λ root k other low is word. same_word words new exact stage 0 range named contents room written root k other (λ same. omega (arith, same, low)) is word;
    }

    left_below : (image : List ℕ) → IsEitherWords words new image → KeepsBelow words image
    left_below image left = record {
      blocks = λ root low. left.heap.each root;
      words = λ root k other low is word. left_word words new exact stage 0 range named contents room written image left root k other (λ same. omega (arith, same, low)) is word;
    }

    pub left_written : (image : List ℕ) (records : List (List ℕ)) → IsStack words records → IsEitherWords words new image → IsSteadyStack records image
    left_written image records was left = record {
      steady = exact_steady image left.exact;
      stack = stack_kept words image records was (left_below image left);
    }

    pub written_record : HasRecord new stage contents
    written_record = record {
      range = range;
      named = written.heap.each stage ∙ named;
      size = size;
      count = count;
      each = λ i low.
          let at : (tables_of words).root stage / 8 + 0 + i ≡ range.at / 8 + i = omega (arith, root_place words stage range named) in
          ap (word_at new) (sym at) ∙ written.here i (omega (arith, low, count));
    }

-- the move

pub left_moved : (old new image : List ℕ) (records : List (List ℕ)) (contents : List ℕ) → IsStack old records → length records < stage → HasRecord old stage contents → MovesOne old stage (length records) new →
    IsEitherMoved old new (length records) image → IsEitherStack records (records ++ contents ∷ []) image
left_moved old new image records contents was room ready moves left = ⊎_elim
    (λ (before : HaveSameHeap old image). inl (record { steady = left.steady; stack = stack_kept old image records was (keeps_below old image (λ root low. before.each root) left.words) }))
    (λ (behind : HaveSameHeap new image). inr (record {
      steady = left.steady;
      stack = stack_more old image records contents was room ready (behind.each (length records) ∙ moves.here)
          (λ other differs low. behind.each other ∙ moves.others other (λ is. omega (arith, is, low)) differs) left.words;
    }))
    left.heap

-- the whole

-- a stack as the code has it
abbrev pub state_of : ArenaState → ℕ → StackState
state_of arena depth = record { arena = arena; records = records_in (words_of arena.device) depth }

module _ (old : ArenaState) (depth : ℕ) (kept : IsKept (state_of old depth)) where
  abbrev records : List (List ℕ)
  records = records_in (words_of old.device) depth

  count_is : length records ≡ depth
  count_is = length-records_in (words_of old.device) depth

  -- no place
  pub refused : (new : ArenaState) → depth < stage → IsUntaken old new → IsRefused (state_of old depth) (state_of new depth)
  refused new low un =
      let same : words_of new.device ≡ words_of old.device = ap (λ (s : PmemState). words_of s) un.call.device in
      record {
        room = omega (arith, low, count_is);
        no_place = un.no_place;
        records = ap (λ (words : List ℕ). records_in words depth) same;
        call = leaves (IsEitherHeap (words_of old.device) (words_of new.device)) (IsSteadyStack records)
            (λ image left. left_stack (words_of old.device) (words_of new.device) image records kept.stack
            (record { others = λ other differs. ap (λ (words : List ℕ). heap (tables_of words) other) same; words = record { each = λ root other range k was is word. ap (λ (words : List ℕ). word_at words k) same } }) left) un.call;
      }

  pub kept_refused : (new : ArenaState) → IsUntaken old new → IsKept (state_of new depth)
  kept_refused new un =
      let same : words_of old.device ≡ words_of new.device = sym (ap (λ (s : PmemState). words_of s) un.call.device) in
      record {
        ready = un.call.ready;
        exact = un.call.exact;
        stack = subst (λ (words : List ℕ). IsStack words (records_in words depth)) same kept.stack;
        stage = subst (λ (words : List ℕ). HasNone words stage) same kept.stage;
      }

  -- by the refusal
  pub refused_by : (new : ArenaState) (contents : List ℕ) (refusal : PushRefusal) → depth < stage → IsTakenBy old new (Err refusal) → IsPushedBy (state_of old depth) (state_of new depth) contents (Err refusal)
  refused_by new contents Full low none = absurd none
  refused_by new contents NoSpace low un = refused new low un

  pub kept_by : (new : ArenaState) (refusal : PushRefusal) → IsTakenBy old new (Err refusal) → IsKept (state_of new depth)
  kept_by new Full none = absurd none
  kept_by new NoSpace un = kept_refused new un

  -- there is a record for each root but the stage
  pub full_count : stage ≤ depth → length records ≡ stage
  full_count from = omega (arith, from, count_is, kept.stack.few)

  -- the first two calls
  module _ (mid full : ArenaState) (contents : List ℕ) (count : length contents ≡ 8) (low : depth < stage) (t : IsTaken old mid) (f : IsFilled mid full contents) where
    stack_mid : IsStack (words_of mid.device) records
    stack_mid = stack_kept (words_of old.device) (words_of mid.device) records kept.stack
        (keeps_below (words_of old.device) (words_of mid.device) (λ root below. t.keeps.others root (λ is. omega (arith, is, below))) t.keeps.words)

    stack_full : IsStack (words_of full.device) records
    stack_full = stack_kept (words_of mid.device) (words_of full.device) records stack_mid (written_below (words_of mid.device) f.call.was_exact (record { at = t.at; size = 64 }) t.here refl contents (words_of full.device) count f.written)

    ready : HasRecord (words_of full.device) stage contents
    ready = written_record (words_of mid.device) f.call.was_exact (record { at = t.at; size = 64 }) t.here refl contents (words_of full.device) count f.written

    pub block_full : HasRecordBlock (words_of full.device) stage
    block_full = record { range = ready.range; named = ready.named; size = ready.size }

    pub none_full : HasNone (words_of full.device) depth
    none_full = stack_full.none depth (omega (arith, count_is)) low

    -- the third
    module _ (new : ArenaState) (s : IsShown full new depth) where
      -- the root that the block moves to
      moves : MovesOne (words_of full.device) stage (length records) (words_of new.device)
      moves = subst (λ (root : ℕ). MovesOne (words_of full.device) stage root (words_of new.device)) (sym count_is) s.moves

      stack_new : IsStack (words_of new.device) (records ++ contents ∷ [])
      stack_new = stack_more (words_of full.device) (words_of new.device) records contents stack_full (omega (arith, count_is, low)) ready moves.here
          (λ other differs below. moves.others other (λ is. omega (arith, is, below)) differs) s.words

      records_are : records_in (words_of new.device) (depth + 1) ≡ records ++ contents ∷ []
      records_are = counted_same (words_of new.device) (records ++ contents ∷ []) (depth + 1) stack_new (length_push records contents ∙ ap (λ (n : ℕ). n + 1) count_is)

      same_at : s.at ≡ t.at
      same_at = ap (λ (r : Range). r.at) (one_range (record { at = s.at; size = 64 }) (record { at = t.at; size = 64 }) (sym s.named ∙ (f.written.heap.each stage ∙ t.here)))

      line_is : full.line ≡ line_after old.line (replies.Placed t.at 64)
      line_is = f.line ∙ t.line

      -- the move, with the block's place, its line and its root
      abbrev move_events : ℕ → ℕ → ℕ → List Event
      move_events line root at = call_events (words_of full.device) line (calls.Move stage root) (replies.Moved at 64)

      show_at : IsOneCall full.device new.device (move_events (line_after old.line (replies.Placed t.at 64)) (length records) t.at) (IsEitherMoved (words_of full.device) (words_of new.device) (length records))
      show_at =
          subst (λ (line : ℕ). IsOneCall full.device new.device (move_events line (length records) t.at) (IsEitherMoved (words_of full.device) (words_of new.device) (length records))) line_is
          (subst (λ (root : ℕ). IsOneCall full.device new.device (move_events full.line root t.at) (IsEitherMoved (words_of full.device) (words_of new.device) root)) (sym count_is)
          (subst (λ (at : ℕ). IsOneCall full.device new.device (move_events full.line depth at) (IsEitherMoved (words_of full.device) (words_of new.device) depth)) same_at s.call))

      either : IsEitherStack records (records ++ contents ∷ []) ≡ IsEitherStack records (records_in (words_of new.device) (depth + 1))
      either = ap (λ (after : List (List ℕ)). IsEitherStack records after) (sym records_are)

      pub pushed : HasPushed (state_of old depth) (state_of new (depth + 1)) contents
      pushed = record {
        room = omega (arith, count_is, low);
        place = t.place;
        records = records_are;
        at = t.at;
        taken = mid.device;
        filled = full.device;
        take = leaves (IsEitherHeap (words_of old.device) (words_of mid.device)) (IsSteadyStack records)
            (λ image left. left_stack (words_of old.device) (words_of mid.device) image records kept.stack t.keeps left) t.call;
        fill = leaves (IsEitherWords (words_of mid.device) (words_of full.device)) (IsSteadyStack records)
            (λ image left. left_written (words_of mid.device) f.call.was_exact (record { at = t.at; size = 64 }) t.here refl contents (words_of full.device) count f.written image records stack_mid left) f.call;
        show = leaves (IsEitherMoved (words_of full.device) (words_of new.device) (length records)) (IsEitherStack records (records_in (words_of new.device) (depth + 1)))
            (λ image left. subst (λ (P : List ℕ → Type 0). P image) either (left_moved (words_of full.device) (words_of new.device) image records contents stack_full (omega (arith, count_is, low)) ready moves left)) show_at;
      }

      pub kept_pushed : IsKept (state_of new (depth + 1))
      kept_pushed = record {
        ready = s.call.ready;
        exact = s.call.exact;
        stack = subst (λ (after : List (List ℕ)). IsStack (words_of new.device) after) (sym records_are) stack_new;
        stage = moves.gone;
      }
