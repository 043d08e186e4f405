-- What the arena's answer to each step of a dictionary's calls leaves: the reply, the blocks that stay, and those of an image
-- of a crash.
use Rattle.std.proofs.Common.{◌≡◌, ◌≢◌, ℕ, ◌+◌, ◌-◌, ◌*◌, ◌/◌, ◌<◌, ◌≤◌, List, length, Result, Ok, Err, IsOk, refl, subst, arith}
use Rattle.attach_dict.proofs.Common.{words_of, version_in, layout_rules, bounds_of, IsExactImage, IsEitherHeap, BlockRefusal, ArenaState, IsAnswered, IsMoveAnswered, IsWriteAnswered, HasWritten, IsEitherWords, KeepsOthers, left_others, IsGiven, given, no_space, IsLost, lost, passed, wrote, same_word, left_word, exact_steady, written_ok}
use Rattle.pool_layout.specs.Layout.{layout_of, IsLayout}
use Rattle.heap_model.specs.declared.call.Call.TheVariants as calls
use Rattle.heap_model.specs.declared.call.Reply.{Reply}
use Rattle.heap_model.specs.declared.call.Reply.TheVariants as replies
use Rattle.arena_core.specs.Answer.{write_reply}
use Rattle.attach_dict.specs.Dict.{Pair, stage, most_values, bytes_for, HasSome, HasNone, IsDict, IsSteadyDict}
use Rattle.attach_dict.specs.Stages.{HasRoomAt}
use Rattle.attach_dict.specs.Steps.{IsTaken, HasRoomFor, IsShown, IsFreed}
use Rattle.attach_dict.proofs.Kept.{KeepsRoots, keeps_blocks, dict_same}

-- a write that is answered without a refusal
pub done_is : (result : Result (Unit {0}) BlockRefusal) → IsOk result → result ≡ Ok tt
done_is (Ok done) is = refl
done_is (Err refusal) is = absurd (cc is)

-- roots and sizes

pub stage_rooted : (words : List ℕ) → stage < (bounds_of words).roots
stage_rooted words = omega (arith, (layout_rules (version_in words)).least_roots)

pub value_fits : (words : List ℕ) (count : ℕ) → IsExactImage words → count ≤ most_values → bytes_for count ≤ ((bounds_of words).granules - (bounds_of words).first) * 16384
value_fits words count image few =
    let rules : IsLayout (layout_of (version_in words)) = layout_rules (version_in words) in
    omega (arith, few, rules.some_granule, image.formed.header.valid.least)

-- an image of a crash within a malloc or a free keeps all blocks but one root's
pub left_keeps : (old new image : List ℕ) (root : ℕ) → KeepsOthers old new root → IsEitherHeap old new image → KeepsRoots old image root
left_keeps old new image root keeps left = keeps_blocks (left_others old new image root keeps left.heap).each left.words

-- and where that root is the stage it is the same dictionary
pub left_dict : (old new image : List ℕ) (pairs : List Pair) → IsDict old pairs → KeepsOthers old new stage → IsEitherHeap old new image → IsSteadyDict pairs image
left_dict old new image pairs was keeps left = record { steady = left.steady; dict = dict_same (left_keeps old new image stage keeps left) pairs was }

module _ {old new : ArenaState} where
  -- the stage (words_of old.device) given no block
  pub refused : {count : ℕ} {reply : Reply} → ((at size : ℕ) → reply ≢ replies.Placed at size) → IsAnswered 0 old new (calls.Malloc stage (bytes_for count)) reply → HasNone (words_of old.device) stage → count ≤ most_values → IsAnswered 0 old new (calls.Malloc stage (bytes_for count)) replies.NoSpace
  refused {count} {reply} not e none few =
      let some : bytes_for count ≢ 0 = λ zero. omega (arith, zero) in
      subst (λ (r : Reply). IsAnswered 0 old new (calls.Malloc stage (bytes_for count)) r)
      (no_space (words_of old.device) (words_of new.device) 0 _ _ stage (bytes_for count) reply e.step (stage_rooted (words_of old.device)) none some (value_fits (words_of old.device) count e.did.was_exact few) not) e

  -- it (words_of old.device) given one
  module _ {count : ℕ} (t : IsTaken old new count) where
    abbrev given_block : IsGiven (words_of old.device) (words_of new.device) stage (bytes_for count) t.at t.size
    given_block = given (words_of old.device) (words_of new.device) 0 _ _ stage (bytes_for count) (replies.Placed t.at t.size) t.did.step t.at t.size refl

    pub taken_others : KeepsOthers (words_of old.device) (words_of new.device) stage
    taken_others = given_block.others

    pub taken_room : count ≤ most_values → HasRoomAt (words_of new.device) count
    taken_room few =
        let class = given_block.class_is (omega (arith, few)) in
        record { block = record { range = record { at = t.at; size = t.size }; named = given_block.here }; few = few; wide = omega (arith, class.1.holds, class.2) }

  -- words were written at the stage
  module _ {words : List ℕ} {result : Result (Unit {0}) BlockRefusal} (room : HasRoomFor (words_of old.device) (length words)) (e : IsWriteAnswered old new stage 0 words result) where
    fits : 0 + length words ≤ room.range.size / 8
    fits = omega (arith, room.wide)

    pub is_wrote : write_reply result ≡ replies.Wrote
    is_wrote = wrote (words_of old.device) (words_of new.device) stage 0 words room.range (write_reply result) e.step e.did.was_exact room.named fits

    pub wrote_all : HasWritten (words_of old.device) stage 0 words (words_of new.device)
    wrote_all = written_ok (words_of old.device) stage 0 words (words_of new.device) result is_wrote e.written

    pub wrote_keeps : KeepsRoots (words_of old.device) (words_of new.device) stage
    wrote_keeps = record {
      blocks = λ root low apart. wrote_all.heap.each root;
      words = λ root k range low apart named word. same_word (words_of old.device) (words_of new.device) e.did.was_exact stage 0 room.range room.named words fits wrote_all root k range apart named word;
    }

    pub left_written : (image : List ℕ) (pairs : List Pair) → IsDict (words_of old.device) pairs → IsEitherWords (words_of old.device) (words_of new.device) image → IsSteadyDict pairs image
    left_written image pairs dict left = record {
      steady = exact_steady image left.exact;
      dict = dict_same (record {
        blocks = λ root low apart. left.heap.each root;
        words = λ root k range low apart named word. left_word (words_of old.device) (words_of new.device) e.did.was_exact stage 0 room.range room.named words fits wrote_all image left root k range apart named word;
      }) pairs dict;
    }

  -- its block moved
  module _ {root : ℕ} {reply : Reply} (block : HasSome (words_of old.device) stage) (low : root < (bounds_of (words_of old.device)).roots) (none : HasNone (words_of old.device) root) (e : IsMoveAnswered old new stage root reply) where
    pub is_moved : reply ≡ replies.Moved block.range.at block.range.size
    is_moved = (passed (words_of old.device) (words_of new.device) stage root block.range reply e.step e.did.was_exact block.named low none).is

    pub shown : IsShown old new root
    shown = record { range = block.range; named = block.named; did = subst (λ (r : Reply). IsMoveAnswered old new stage root r) is_moved e }

  -- a root's block went
  module _ {root : ℕ} {reply : Reply} (block : HasSome (words_of old.device) root) (e : IsAnswered 0 old new (calls.Free root) reply) where
    pub is_freed : reply ≡ replies.Freed block.range.at block.range.size
    is_freed = (lost (words_of old.device) (words_of new.device) 0 _ _ root block.range reply e.step e.did.was_exact block.named).is

    pub freed : IsFreed old new root
    freed = record { range = block.range; named = block.named; did = subst (λ (r : Reply). IsAnswered 0 old new (calls.Free root) r) is_freed e }

  module _ {root : ℕ} (f : IsFreed old new root) where
    abbrev lost_block : IsLost (words_of old.device) (words_of new.device) root f.range (replies.Freed f.range.at f.range.size)
    lost_block = lost (words_of old.device) (words_of new.device) 0 _ _ root f.range (replies.Freed f.range.at f.range.size) f.did.step f.did.did.was_exact f.named

    pub freed_others : KeepsOthers (words_of old.device) (words_of new.device) root
    freed_others = lost_block.others

    pub freed_none : HasNone (words_of new.device) root
    freed_none = lost_block.gone

    pub freed_keeps : KeepsRoots (words_of old.device) (words_of new.device) root
    freed_keeps = keeps_blocks lost_block.others.each f.did.keeps
