-- A block goes: that of the last record, or that of the stage.
use Rattle.std.proofs.Common.{◌≡◌, ◌≢◌, ℕ, ◌+◌, ◌-◌, ◌/◌, ◌<◌, List, [], ◌∷◌, ◌++◌, length, take, get_or, Some, Err, ext_get_or, inl, inr, refl, sym, ap, ◌∙◌, subst, arith, ⊎_elim, length-take-le}
use Rattle.uses.proofs.Common.{Event, word_at, words_of, tables_of, Range, heap, HaveSameHeap, KeepsBlocks, IsEitherHeap, BlockRefusal, ArenaState, AreWordsOf, IsViewOf, call_events, IsOneCall, leaves}
use Rattle.pmem_lines.proofs.Words.{get_or-words_at}
use Rattle.heap_model.specs.declared.call.Call.TheVariants as calls
use Rattle.heap_model.specs.declared.call.Reply.TheVariants as replies
use Rattle.arena_core.specs.declared.answer.BlockRefusal.TheVariants.{NoRoot, Empty, OutOfRange}
use Rattle.uses.specs.Stack.{stage, record_at, HasNone, HasRecord, IsStack, IsSteadyStack, IsKept, records_in}
use Rattle.uses.specs.Calls.{IsEitherStack, HasPopped, IsLast}
use Rattle.uses.specs.Opening.{IsOpened}
use Rattle.uses.specs.Steps.{HasSome, IsWhole, IsReleased, IsTidied, AreLeading, AreNone}
use Rattle.uses.proofs.Stacks.{keeps_below, stack_kept, stack_less, records_less}
use Rattle.uses.proofs.Heaps.{stage_rooted}
use Rattle.uses.proofs.Counted.{length-records_in, counted_stack, counted_same}
use Rattle.uses.proofs.Pushing.{left_stack, state_of}

-- the last record
module _ (old new : ArenaState) (n : ℕ) (kept : IsKept (state_of old (n + 1))) (r : IsReleased old new n) where
  abbrev records : List (List ℕ)
  records = records_in (words_of old.device) (n + 1)

  count_is : length records ≡ n + 1
  count_is = length-records_in (words_of old.device) (n + 1)

  -- whatever has the heap behind it
  less : (image : List ℕ) → HasNone image n → ((other : ℕ) → other ≢ n → heap (tables_of image) other ≡ heap (tables_of (words_of old.device)) other) → KeepsBlocks (words_of old.device) image → IsStack image (take n records)
  less image gone others keeps = stack_less (words_of old.device) image records n kept.stack count_is gone others keeps

  stack_new : IsStack (words_of new.device) (take n records)
  stack_new = less (words_of new.device) r.gone r.keeps.others r.keeps.words

  fewer : length (take n records) ≡ n
  fewer = length-take-le n records (omega (arith, count_is))

  records_are : records_in (words_of new.device) n ≡ take n records
  records_are = counted_same (words_of new.device) (take n records) n stack_new fewer

  left : (image : List ℕ) → IsEitherHeap (words_of old.device) (words_of new.device) image → IsEitherStack records (take n records) image
  left image l = ⊎_elim
      (λ (before : HaveSameHeap (words_of old.device) image). inl (record {
        steady = l.steady;
        stack = stack_kept (words_of old.device) image records kept.stack (keeps_below (words_of old.device) image (λ root low. before.each root) l.words);
      }))
      (λ (behind : HaveSameHeap (words_of new.device) image). inr (record {
        steady = l.steady;
        stack = less image (behind.each n ∙ r.gone) (λ other differs. behind.each other ∙ r.keeps.others other differs) l.words;
      }))
      l.heap

  -- the block had 64 bytes
  size_is : r.range.size ≡ 64
  size_is =
      let last : HasRecord (words_of old.device) n (record_at records n) = kept.stack.each n (omega (arith, count_is)) in
      let same : Some r.range ≡ Some last.range = sym r.named ∙ last.named in
      let range : r.range ≡ last.range = cc same in
      ap (λ (x : Range). x.size) range ∙ last.size

  abbrev free_events : ℕ → ℕ → List Event
  free_events root size = call_events (words_of old.device) old.line (calls.Free root) (replies.Freed r.range.at size)

  call_at : IsOneCall old.device new.device (free_events (length (records_in (words_of new.device) n)) 64) (IsEitherHeap (words_of old.device) (words_of new.device))
  call_at =
      subst (λ (root : ℕ). IsOneCall old.device new.device (free_events root 64) (IsEitherHeap (words_of old.device) (words_of new.device))) (sym (length-records_in (words_of new.device) n))
      (subst (λ (size : ℕ). IsOneCall old.device new.device (free_events n size) (IsEitherHeap (words_of old.device) (words_of new.device))) size_is r.call)

  pub popped : HasPopped (state_of old (n + 1)) (state_of new n)
  popped = record {
    last = record_at records n;
    records = records_less records n count_is ∙ ap (λ (some : List (List ℕ)). some ++ record_at records n ∷ []) (sym records_are);
    at = r.range.at;
    call = leaves (IsEitherHeap (words_of old.device) (words_of new.device)) (IsEitherStack records (records_in (words_of new.device) n))
        (λ image l. subst (λ (after : List (List ℕ)). IsEitherStack records after image) (sym records_are) (left image l)) call_at;
  }

  pub kept_popped : n < stage → IsKept (state_of new n)
  kept_popped low = record {
    ready = r.call.ready;
    exact = r.call.exact;
    stack = subst (λ (after : List (List ℕ)). IsStack (words_of new.device) after) (sym records_are) stack_new;
    stage = r.keeps.others stage (λ is. omega (arith, is, low)) ∙ kept.stage;
  }

-- the same by the count before it
module _ (old : ArenaState) (depth : ℕ) (some : depth ≢ 0) (kept : IsKept (state_of old depth)) where
  on : depth ≡ depth - 1 + 1
  on = omega (arith, some)

  kept_on : IsKept (state_of old (depth - 1 + 1))
  kept_on = subst (λ (d : ℕ). IsKept (state_of old d)) on kept

  pub top_below : depth - 1 < stage
  top_below = omega (arith, some, kept.stack.few, length-records_in (words_of old.device) depth)

  pub top_record : HasRecord (words_of old.device) (depth - 1) (record_at (records_in (words_of old.device) depth) (depth - 1))
  top_record = kept.stack.each (depth - 1) (omega (arith, some, length-records_in (words_of old.device) depth))

  pub top_some : HasSome (words_of old.device) (depth - 1)
  top_some = record { range = top_record.range; named = top_record.named }

  module _ (new : ArenaState) (r : IsReleased old new (depth - 1)) where
    pub popped_top : HasPopped (state_of old depth) (state_of new (depth - 1))
    popped_top = subst (λ (d : ℕ). HasPopped (state_of old d) (state_of new (depth - 1))) (sym on) (popped old new (depth - 1) kept_on r)

    pub kept_top : IsKept (state_of new (depth - 1))
    kept_top = kept_popped old new (depth - 1) kept_on r top_below

  -- a view of its block lends the last record
  pub viewed : (view : List ℕ) → AreWordsOf (words_of old.device) (depth - 1) view → IsLast (records_in (words_of old.device) depth) view
  viewed view are =
      let last : List ℕ = record_at (records_in (words_of old.device) depth) (depth - 1) in
      let same : Some are.range ≡ Some top_record.range = sym are.named ∙ top_record.named in
      let range : are.range ≡ top_record.range = cc same in
      let size : are.range.size ≡ 64 = ap (λ (x : Range). x.size) range ∙ top_record.size in
      let count : length view ≡ length last = omega (arith, are.count, size, top_record.count) in
      let is : view ≡ last = ext_get_or 0 view last count (λ i low.
      let below : i < are.range.size / 8 = omega (arith, low, are.count) in
      let within : i < 8 = omega (arith, below, size) in
      ap (λ (ws : List ℕ). get_or ws i 0) are.is
      ∙ (get_or-words_at (words_of old.device) (are.range.at / 8) (are.range.size / 8) i below
      ∙ (ap (λ (x : Range). word_at (words_of old.device) (x.at / 8 + i)) range ∙ top_record.each i within))) in
      record {
        others = take (depth - 1) (records_in (words_of old.device) depth);
        is = records_less (records_in (words_of old.device) depth) (depth - 1) (length-records_in (words_of old.device) depth ∙ on) ∙ ap (λ (c : List ℕ). take (depth - 1) (records_in (words_of old.device) depth) ++ c ∷ []) (sym is);
      }

  -- and it is lent
  pub lent : (refusal : BlockRefusal) → ¬ (IsViewOf (words_of old.device) (depth - 1) (Err refusal))
  lent NoRoot past = omega (arith, past, top_below, stage_rooted (words_of old.device))
  lent Empty none = let named = top_record.named in let gone = none.1 in cc (named, gone)
  lent OutOfRange never = never

-- the stage

module _ (old new : ArenaState) (n : ℕ) (leading : AreLeading (words_of old.device) n) (none : AreNone (words_of old.device) n) where
  was : IsStack (words_of old.device) (records_in (words_of old.device) n)
  was = counted_stack (words_of old.device) n leading none

  module _ (r : IsReleased old new stage) where
    behind : IsStack (words_of new.device) (records_in (words_of old.device) n)
    behind = stack_kept (words_of old.device) (words_of new.device) (records_in (words_of old.device) n) was
        (keeps_below (words_of old.device) (words_of new.device) (λ root low. r.keeps.others root (λ is. omega (arith, is, low))) r.keeps.words)

    same : records_in (words_of new.device) n ≡ records_in (words_of old.device) n
    same = counted_same (words_of new.device) (records_in (words_of old.device) n) n behind (length-records_in (words_of old.device) n)

    pub opened_cleared : IsOpened old (state_of new n)
    opened_cleared = record {
      records = subst (λ (records : List (List ℕ)). IsStack (words_of old.device) records) (sym same) was;
      done = inr (record {
        at = r.range.at;
        size = r.range.size;
        call = leaves (IsEitherHeap (words_of old.device) (words_of new.device)) (IsSteadyStack (records_in (words_of new.device) n))
            (λ image l. subst (λ (records : List (List ℕ)). IsSteadyStack records image) (sym same) (left_stack (words_of old.device) (words_of new.device) image (records_in (words_of old.device) n) was r.keeps l)) r.call;
      });
    }

    pub kept_cleared : IsKept (state_of new n)
    kept_cleared = record {
      ready = r.call.ready;
      exact = r.call.exact;
      stack = subst (λ (records : List (List ℕ)). IsStack (words_of new.device) records) (sym same) behind;
      stage = r.gone;
    }

  -- where it has no block nothing is done
  module _ (empty : HasNone (words_of old.device) stage) where
    pub opened_still : IsOpened old (state_of old n)
    opened_still = record { records = was; done = inl (empty, refl) }

    pub kept_still : IsWhole old.device → IsKept (state_of old n)
    kept_still whole = record { ready = whole.ready; exact = whole.exact; stack = was; stage = empty }

-- by what was done
pub opened_tidied : (old new : ArenaState) (n : ℕ) → AreLeading (words_of old.device) n → AreNone (words_of old.device) n → IsTidied old new → IsOpened old (state_of new n)
opened_tidied old new n leading none (inl still) = subst (λ (a : ArenaState). IsOpened old (state_of a n)) (sym still.1) (opened_still old new n leading none still.0)
opened_tidied old new n leading none (inr r) = opened_cleared old new n leading none r

pub kept_tidied : (old new : ArenaState) (n : ℕ) → AreLeading (words_of old.device) n → AreNone (words_of old.device) n → IsTidied old new → IsKept (state_of new n)
kept_tidied old new n leading none (inl still) = subst (λ (a : ArenaState). IsKept (state_of a n)) (sym still.1) (kept_still old new n leading none still.0 still.2)
kept_tidied old new n leading none (inr r) = kept_cleared old new n leading none r
