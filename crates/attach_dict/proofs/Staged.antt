-- A pair is made ready at the stage: its block is given, is written, and is freed again.
use Rattle.std.proofs.Common.{◌≡◌, ◌≢◌, ℕ, suc, ◌+◌, ◌-◌, ◌/◌, ◌^◌, ◌<◌, ◌≤◌, List, ◌∷◌, length, get_or, Ok, Err, inl, inr, refl, sym, ap, ◌∙◌, subst, arith, ⊎_elim}
use Rattle.attach_dict.proofs.Common.{word_at, IsGreatestOf, PmemState, words_of, tables_of, heap, IsEitherHeap, ArenaState, IsAnswered, IsWriteAnswered, HasWritten, IsEitherWords, KeepsOthers, root_place}
use Rattle.heap_check.proofs.Forms.{bounds_of-same}
use Rattle.heap_model.specs.declared.call.Call.TheVariants as calls
use Rattle.heap_model.specs.declared.call.Reply.TheVariants as replies
use Rattle.attach_dict.specs.declared.index.DictIndex.{DictIndex}
use Rattle.attach_dict.specs.declared.progress.Progress.{Progress}
use Rattle.attach_dict.specs.declared.progress.Progress.TheVariants as stages
use Rattle.attach_dict.specs.declared.refusal.StageRefusal.{StageRefusal}
use Rattle.attach_dict.specs.declared.refusal.StageRefusal.TheVariants.{Full, NumbersSpent, NoSpace}
use Rattle.attach_dict.specs.Calls.{block_words, HasAsked, HasStaged, IsStagedBy, HasFilled, HasCancelled}
use Rattle.attach_dict.specs.Dict.{stage, most_values, bytes_for, HasSome, HasNone, HasPair, IsNextNumber, IsSteadyDict}
use Rattle.attach_dict.specs.Stages.{Idle, Staged, Filled, AreNoneStale, IsAtStage, HasRoomAt, HasRoomForPair}
use Rattle.attach_dict.specs.Steps.{IsTaken, IsTakenBy, HasRoomFor, IsFreed}
use Rattle.attach_dict.specs.View.{value_in, pairs_in, phase_in}
use Rattle.attach_dict.specs.Whole.{state_of, IsWhole}
use Rattle.attach_dict.proofs.Answered.{left_dict, taken_others, taken_room, wrote_all, wrote_keeps, left_written, freed_others, freed_none, freed_keeps}
use Rattle.attach_dict.proofs.Freed.{idle_is}
use Rattle.attach_dict.proofs.Indexed.{value_in_is}
use Rattle.attach_dict.proofs.Kept.{KeepsRoots, keeps_back, keeps_blocks, stale_same, next_same}
use Rattle.attach_dict.proofs.Less.{none_not_some}
use Rattle.attach_dict.specs.Roots.{AreRoots}
use Rattle.attach_dict.proofs.Room.{some_or_none, room_same, not_full, not_spent, not_last, next_number}
use Rattle.attach_dict.proofs.Still.{leaves_by, whole_still, keeps_still}

-- the stage has no block where nothing is staged and none is stale
pub stage_none : (words : List ℕ) → AreNoneStale words Idle → HasNone words stage
stage_none words tidy = ⊎_elim (λ (some : HasSome words stage). absurd (tidy stage (inr (refl, some)))) (λ none. none) (some_or_none words stage)

-- there is room for a pair where a root is free and the greatest number is not the last
pub room_here : (old : ArenaState) (index : DictIndex) (key : ℕ) (progress : Progress) → IsWhole old index key progress → AreRoots index.free → index.free.count ≢ 0 → (greatest : ℕ) → IsGreatestOf index.numbers greatest → greatest < 2 ^ 64 - 1 → HasRoomForPair (words_of old.device)
room_here old index key progress whole are some greatest is less = record {
  root = not_full (words_of old.device) index.free whole.indexes.tables.free_are are some;
  number = not_spent (words_of old.device) whole.kept.exact index.keys index.numbers index.free whole.indexes.tables greatest is less;
}

-- a block is asked for

module _ (old new : ArenaState) (index : DictIndex) (key : ℕ) (whole : IsWhole old index key stages.Idle) (tidy : AreNoneStale (words_of old.device) Idle) (room : HasRoomForPair (words_of old.device)) (count : ℕ) where
  -- and there is no place
  module _ (e : IsAnswered 0 old new (calls.Malloc stage (bytes_for count)) replies.NoSpace) where
    same : words_of new.device ≡ words_of old.device
    same = ap (λ (s : PmemState). words_of s) e.did.device

    others : KeepsOthers (words_of old.device) (words_of new.device) stage
    others = record { each = λ other differs. ap (λ (words : List ℕ). heap (tables_of words) other) same }

    keeps : KeepsRoots (words_of old.device) (words_of new.device) stage
    keeps = keeps_blocks others.each e.keeps

    still : AreNoneStale (words_of new.device) Idle
    still = subst (λ (words : List ℕ). AreNoneStale words Idle) (sym same) tidy

    pub whole_asked : IsWhole new index key stages.Idle
    whole_asked = whole_still old new index key stages.Idle whole keeps (bounds_of-same (words_of old.device) (words_of new.device) e.step.header) e.did.exact e.did.ready index whole.indexes.wide key stages.Idle tidy still tt

    pub has_asked : HasAsked (state_of old index key stages.Idle) (state_of new index key stages.Idle) count replies.NoSpace Idle
    has_asked = record {
      room = room.root;
      numbers = room.number;
      did = e;
      tidy = still;
      keeps = keeps_still old new index key stages.Idle whole keeps (bounds_of-same (words_of old.device) (words_of new.device) e.step.header) e.did.exact e.did.ready index whole.indexes.wide key stages.Idle tidy still tt
          (leaves_by old new (IsEitherHeap (words_of old.device) (words_of new.device)) (IsSteadyDict (pairs_in (words_of old.device) index.keys.rows)) (λ image l. left_dict (words_of old.device) (words_of new.device) image (pairs_in (words_of old.device) index.keys.rows) whole.kept.dict others l) e.did);
    }

  -- or it was given
  module _ (t : IsTaken old new count) (few : count ≤ most_values) (next : ℕ) where
    given_keeps : KeepsRoots (words_of old.device) (words_of new.device) stage
    given_keeps = keeps_blocks (taken_others t).each t.did.keeps

    staged_still : AreNoneStale (words_of new.device) (Staged next count)
    staged_still root s = tidy root (inl (stale_same (keeps_back given_keeps) s))

    at_staged : IsAtStage (words_of new.device) (Staged next count)
    at_staged = (taken_room t few, room_same given_keeps (bounds_of-same (words_of old.device) (words_of new.device) t.did.step.header) room, staged_still)

    pub whole_staged : IsWhole new index next (stages.Staged count)
    whole_staged = whole_still old new index key stages.Idle whole given_keeps (bounds_of-same (words_of old.device) (words_of new.device) t.did.step.header) t.did.did.exact t.did.did.ready index whole.indexes.wide next (stages.Staged count) tidy staged_still at_staged

    pub has_staged : HasStaged (state_of old index key stages.Idle) (state_of new index next (stages.Staged count)) next count
    has_staged = record {
      at = t.at;
      size = t.size;
      asked = record {
        room = room.root;
        numbers = room.number;
        did = t.did;
        tidy = staged_still;
        keeps = keeps_still old new index key stages.Idle whole given_keeps (bounds_of-same (words_of old.device) (words_of new.device) t.did.step.header) t.did.did.exact t.did.did.ready index whole.indexes.wide next (stages.Staged count) tidy staged_still at_staged
            (leaves_by old new (IsEitherHeap (words_of old.device) (words_of new.device)) (IsSteadyDict (pairs_in (words_of old.device) index.keys.rows)) (λ image l. left_dict (words_of old.device) (words_of new.device) image (pairs_in (words_of old.device) index.keys.rows) whole.kept.dict (taken_others t) l) t.did.did);
      };
    }

-- as the call has it
module _ (old new : ArenaState) (index : DictIndex) (key : ℕ) (progress : Progress) (whole : IsWhole old index key progress) (idle : phase_in (words_of old.device) key progress ≡ Idle) (tidy : AreNoneStale (words_of old.device) Idle) (room : HasRoomForPair (words_of old.device)) (count : ℕ) where
  is_idle : progress ≡ stages.Idle
  is_idle = idle_is (words_of old.device) key progress idle

  whole_idle : IsWhole old index key stages.Idle
  whole_idle = subst (λ (p : Progress). IsWhole old index key p) is_idle whole

  pub stage_refused : (next : ℕ) (refusal : StageRefusal) → IsTakenBy old new count (Err refusal) → IsStagedBy (state_of old index key progress) (state_of new index key progress) next count (Err refusal)
  stage_refused next Full e = absurd e
  stage_refused next NumbersSpent e = absurd e
  stage_refused next NoSpace e = subst (λ (p : Progress). HasAsked (state_of old index key p) (state_of new index key p) count replies.NoSpace (phase_in (words_of old.device) key p)) (sym is_idle) (has_asked old new index key whole_idle tidy room count e)

  pub whole_refused : (refusal : StageRefusal) → IsTakenBy old new count (Err refusal) → IsWhole new index key progress
  whole_refused Full e = absurd e
  whole_refused NumbersSpent e = absurd e
  whole_refused NoSpace e = subst (λ (p : Progress). IsWhole new index key p) (sym is_idle) (whole_asked old new index key whole_idle tidy room count e)

  module _ (next : ℕ) (few : count ≤ most_values) (t : IsTaken old new count) where
    pub stage_whole : IsWhole new index next (stages.Staged count)
    stage_whole = whole_staged old new index key whole_idle tidy room count t few next

    pub stage_done : HasStaged (state_of old index key progress) (state_of new index next (stages.Staged count)) next count
    stage_done = subst (λ (p : Progress). HasStaged (state_of old index key p) (state_of new index next (stages.Staged count)) next count) (sym is_idle) (has_staged old new index key whole_idle tidy room count t few next)

-- the block is written

-- what is to be filled was staged
pub record IsStagedAs (progress : Progress) (have key count : ℕ) : Type 0 where
  pub progress_is : progress ≡ stages.Staged count
  pub key_is : have ≡ key

pub staged_is : (words : List ℕ) (have : ℕ) (progress : Progress) (key count : ℕ) → phase_in words have progress ≡ Staged key count → IsStagedAs progress have key count
staged_is words have stages.Idle key count is = absurd (cc is)
staged_is words have (stages.Staged n) key count is = let counts : n ≡ count = cc is in let keys : have ≡ key = cc is in record { progress_is = ap stages.Staged counts; key_is = keys }
staged_is words have stages.Filled key count is = absurd (cc is)

-- the words of a block from the fourth on are its value
fourth : (a b c : ℕ) (value : List ℕ) (i : ℕ) → get_or (a ∷ b ∷ c ∷ value) (3 + i) 0 ≡ get_or value i 0
fourth a b c value i = let more : 3 + i ≡ suc (suc (suc i)) = omega arith in ap (λ (k : ℕ). get_or (a ∷ b ∷ c ∷ value) k 0) more

module _ (old new : ArenaState) (index after : DictIndex) (key : ℕ) (value : List ℕ) (number : ℕ) (whole : IsWhole old index key (stages.Staged (length value))) (next : IsNextNumber (words_of old.device) number) (wide : length after.block.items ≡ 512) where
  abbrev was : List ℕ
  was = words_of old.device

  abbrev is : List ℕ
  is = words_of new.device

  at_stage : HasRoomAt was (length value)
  at_stage = whole.kept.at_stage.0

  pub room_for : HasRoomFor was (length (block_words key number value))
  room_for = record { range = at_stage.block.range; named = at_stage.block.named; wide = omega (arith, at_stage.wide) }

  module _ (e : IsWriteAnswered old new stage 0 (block_words key number value) (Ok tt)) where
    written : HasWritten was stage 0 (block_words key number value) is
    written = wrote_all room_for e

    kept_roots : KeepsRoots was is stage
    kept_roots = wrote_keeps room_for e

    place : (tables_of was).root stage ≡ at_stage.block.range.at
    place = root_place was stage at_stage.block.range at_stage.block.named

    word : (i : ℕ) → i < length (block_words key number value) → word_at is (at_stage.block.range.at / 8 + i) ≡ get_or (block_words key number value) i 0
    word i low = ap (word_at is) (omega (arith, place)) ∙ written.here i low

    pair_written : HasPair is stage key number value
    pair_written = record {
      range = at_stage.block.range;
      named = written.heap.each stage ∙ at_stage.block.named;
      few = at_stage.few;
      wide = at_stage.wide;
      key_is = ap (word_at is) (omega arith) ∙ word 0 (omega arith);
      number_is = word 1 (omega arith);
      count_is = word 2 (omega arith);
      each = λ i low. ap (word_at is) (omega arith) ∙ (word (3 + i) (omega (arith, low)) ∙ fourth key number (length value) value i);
    }

    value_read : value_in is stage ≡ value
    value_read = value_in_is is stage key number value e.did.exact pair_written

    none_was : AreNoneStale was (Staged key (length value))
    none_was = whole.kept.at_stage.2

    filled_still : AreNoneStale is (Filled key (value_in is stage))
    filled_still root s = none_was root (stale_same (keeps_back kept_roots) s)

    at_filled : IsAtStage is (Filled key (value_in is stage))
    at_filled = (
      record { number = number; next = next_same kept_roots next; pair = subst (λ (v : List ℕ). HasPair is stage key number v) (sym value_read) pair_written },
      room_same kept_roots (bounds_of-same (words_of old.device) (words_of new.device) e.step.header) whole.kept.at_stage.1,
      filled_still,
    )

    pub whole_filled : IsWhole new (record { keys = index.keys; numbers = index.numbers; free = index.free; stale = index.stale; block = after.block }) key stages.Filled
    whole_filled = whole_still old new index key (stages.Staged (length value)) whole kept_roots (bounds_of-same (words_of old.device) (words_of new.device) e.step.header) e.did.exact e.did.ready after wide key stages.Filled none_was filled_still at_filled

    pub has_filled : HasFilled (state_of old index key (stages.Staged (length value))) (state_of new (record { keys = index.keys; numbers = index.numbers; free = index.free; stale = index.stale; block = after.block }) key stages.Filled) key value
    has_filled =
        let kept = keeps_still old new index key (stages.Staged (length value)) whole kept_roots (bounds_of-same (words_of old.device) (words_of new.device) e.step.header) e.did.exact e.did.ready after wide key stages.Filled none_was filled_still at_filled
        (leaves_by old new (IsEitherWords was is) (IsSteadyDict (pairs_in was index.keys.rows)) (λ image l. left_written room_for e image (pairs_in was index.keys.rows) whole.kept.dict l) e.did) in
        record {
          number = number;
          next = next;
          did = e;
          keeps = record { pairs = kept.pairs; phase_is = ap (λ (v : List ℕ). Filled key v) value_read; numbers = kept.numbers; crash = kept.crash };
        }

-- as the call has it
module _ (old new : ArenaState) (index after : DictIndex) (key : ℕ) (progress : Progress) (whole : IsWhole old index key progress) (value : List ℕ) (asked : ℕ) (phase : phase_in (words_of old.device) key progress ≡ Staged asked (length value)) (greatest : ℕ) (greatest_is : IsGreatestOf index.numbers greatest) where
  staged : IsStagedAs progress key asked (length value)
  staged = staged_is (words_of old.device) key progress asked (length value) phase

  whole_at : IsWhole old index key (stages.Staged (length value))
  whole_at = subst (λ (p : Progress). IsWhole old index key p) staged.progress_is whole

  -- the greatest number is not the last
  pub fill_room : greatest ≢ 2 ^ 64 - 1
  fill_room = not_last (words_of old.device) whole.kept.exact index.keys index.numbers index.free whole.indexes.tables greatest greatest_is whole_at.kept.at_stage.1.number

  next_is : IsNextNumber (words_of old.device) (greatest + 1)
  next_is = next_number (words_of old.device) whole.kept.exact index.keys index.numbers index.free whole.indexes.tables greatest greatest_is

  module _ (wide : length after.block.items ≡ 512) (words : List ℕ) (words_are : words ≡ block_words key (greatest + 1) value) (e : IsWriteAnswered old new stage 0 words (Ok tt)) where
    did_write : IsWriteAnswered old new stage 0 (block_words key (greatest + 1) value) (Ok tt)
    did_write = subst (λ (ws : List ℕ). IsWriteAnswered old new stage 0 ws (Ok tt)) words_are e

    pub fill_whole : IsWhole new (record { keys = index.keys; numbers = index.numbers; free = index.free; stale = index.stale; block = after.block }) key stages.Filled
    fill_whole = whole_filled old new index after key value (greatest + 1) whole_at next_is wide did_write

    pub fill_done : (k : ℕ) → phase_in (words_of old.device) key progress ≡ Staged k (length value) → HasFilled (state_of old index key progress) (state_of new (record { keys = index.keys; numbers = index.numbers; free = index.free; stale = index.stale; block = after.block }) key stages.Filled) k value
    fill_done k is =
        let as_k : IsStagedAs progress key k (length value) = staged_is (words_of old.device) key progress k (length value) is in
        subst (λ (n : ℕ). HasFilled (state_of old index key progress) (state_of new (record { keys = index.keys; numbers = index.numbers; free = index.free; stale = index.stale; block = after.block }) key stages.Filled) n value) as_k.key_is
        (subst (λ (p : Progress). HasFilled (state_of old index key p) (state_of new (record { keys = index.keys; numbers = index.numbers; free = index.free; stale = index.stale; block = after.block }) key stages.Filled) key value) (sym staged.progress_is)
        (has_filled old new index after key value (greatest + 1) whole_at next_is wide did_write))

-- the block is freed

-- nothing is stale beside it
none_beside : (words : List ℕ) (key : ℕ) (progress : Progress) → IsAtStage words (phase_in words key progress) → phase_in words key progress ≢ Idle → AreNoneStale words (phase_in words key progress)
none_beside words key stages.Idle stands not = absurd (not refl)
none_beside words key (stages.Staged count) stands not = stands.2
none_beside words key stages.Filled stands not = stands.2

none_left : (old new : List ℕ) (key : ℕ) (progress : Progress) → phase_in old key progress ≢ Idle → KeepsRoots old new stage → HasNone new stage → AreNoneStale old (phase_in old key progress) → AreNoneStale new Idle
none_left old new key stages.Idle not roots gone none root so = not refl
none_left old new key (stages.Staged count) not roots gone none root so = ⊎_elim (λ s. none root (stale_same (keeps_back roots) s)) (λ s. none_not_some gone s.1) so
none_left old new key stages.Filled not roots gone none root so = ⊎_elim (λ s. none root (stale_same (keeps_back roots) s)) (λ s. none_not_some gone s.1) so

module _ (old new : ArenaState) (index : DictIndex) (key : ℕ) (progress : Progress) (whole : IsWhole old index key progress) (not : phase_in (words_of old.device) key progress ≢ Idle) (f : IsFreed old new stage) where
  none_here : AreNoneStale (words_of old.device) (phase_in (words_of old.device) key progress)
  none_here = none_beside (words_of old.device) key progress whole.kept.at_stage not

  none_now : AreNoneStale (words_of new.device) Idle
  none_now = none_left (words_of old.device) (words_of new.device) key progress not (freed_keeps f) (freed_none f) none_here

  pub whole_cancelled : IsWhole new index key stages.Idle
  whole_cancelled = whole_still old new index key progress whole (freed_keeps f) (bounds_of-same (words_of old.device) (words_of new.device) f.did.step.header) f.did.did.exact f.did.did.ready index whole.indexes.wide key stages.Idle none_here none_now tt

  pub has_cancelled : HasCancelled (state_of old index key progress) (state_of new index key stages.Idle)
  has_cancelled = record {
    at = f.range.at;
    size = f.range.size;
    did = f.did;
    gone = freed_none f;
    tidy = none_now;
    keeps = keeps_still old new index key progress whole (freed_keeps f) (bounds_of-same (words_of old.device) (words_of new.device) f.did.step.header) f.did.did.exact f.did.did.ready index whole.indexes.wide key stages.Idle none_here none_now tt
        (leaves_by old new (IsEitherHeap (words_of old.device) (words_of new.device)) (IsSteadyDict (pairs_in (words_of old.device) index.keys.rows)) (λ image l. left_dict (words_of old.device) (words_of new.device) image (pairs_in (words_of old.device) index.keys.rows) whole.kept.dict (freed_others f) l) f.did.did);
  }
