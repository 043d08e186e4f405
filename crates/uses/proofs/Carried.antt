-- What the steps of a call of a stack did, from what the arena says of its calls.
use Rattle.std.proofs.Common.{◌≡◌, ◌≢◌, ℕ, ◌<◌, List, length, Some, Result, refl, ap, ◌∙◌, subst, arith}
use Rattle.uses.proofs.Common.{words_of, IsEitherHeap, IsEitherMoved, BlockRefusal, IsOneCall, IsAnswered, IsMoveAnswered, IsWriteAnswered, ArenaState, call_events, line_after, payload_events, IsEitherWords, given, lacking, no_space, lost, passed, wrote, written_ok}
use Rattle.heap_model.specs.declared.call.Call.TheVariants as calls
use Rattle.heap_model.specs.declared.call.Reply.{Reply}
use Rattle.heap_model.specs.declared.call.Reply.TheVariants as replies
use Rattle.arena_core.specs.Answer.{write_reply}
use Rattle.uses.specs.Stack.{stage, HasNone}
use Rattle.uses.specs.Steps.{HasRecordBlock, HasSome, IsTaken, IsUntaken, IsFilled, IsShown, IsReleased}
use Rattle.uses.proofs.Heaps.{stage_rooted, record_fits, class_64}

-- calls
module _ {old new : ArenaState} where
  pub taken : {at size : ℕ} → IsAnswered 0 old new (calls.Malloc stage 64) (replies.Placed at size) → IsTaken old new
  taken {at} {size} e =
      let words = words_of old.device in
      let g = given words (words_of new.device) 0 _ _ stage 64 (replies.Placed at size) e.step at size refl in
      let class = g.class_is (omega arith) in
      let wide : size ≡ 64 = class.2 ∙ class_64 class.0 class.1 in
      record {
        at = at;
        call = subst (λ (s : ℕ). IsOneCall old.device new.device (call_events words old.line (calls.Malloc stage 64) (replies.Placed at s)) (IsEitherHeap words (words_of new.device))) wide e.did;
        line = subst (λ (s : ℕ). new.line ≡ line_after old.line (replies.Placed at s)) wide e.line;
        here = g.here ∙ ap (λ (s : ℕ). Some (record { at = at; size = s })) wide;
        keeps = record { others = g.others.each; words = e.keeps };
        place = g.place;
      }

  pub untaken : {reply : Reply} → ((at size : ℕ) → reply ≢ replies.Placed at size) → IsAnswered 0 old new (calls.Malloc stage 64) reply → HasNone (words_of old.device) stage → IsUntaken old new
  untaken {reply} refused e none =
      let words = words_of old.device in
      let low = stage_rooted words in
      let fits = record_fits words e.did.was_exact in
      let some : 64 ≢ 0 = λ is. omega (arith, is) in
      let is : reply ≡ replies.NoSpace = no_space words (words_of new.device) 0 _ _ stage 64 reply e.step low none some fits refused in
      record {
        call = subst (λ (r : Reply). IsOneCall old.device new.device (call_events words old.line (calls.Malloc stage 64) r) (IsEitherHeap words (words_of new.device))) is e.did;
        no_place = lacking words (words_of new.device) 0 _ _ stage 64 reply e.step low none some fits refused;
      }

  module _ {root : ℕ} {reply : Reply} (some : HasSome (words_of old.device) root) (e : IsAnswered 0 old new (calls.Free root) reply) where
    pub freed : reply ≡ replies.Freed some.range.at some.range.size
    freed = (lost (words_of old.device) (words_of new.device) 0 _ _ root some.range reply e.step e.did.was_exact some.named).is

    pub released : IsReleased old new root
    released =
        let words = words_of old.device in
        let l = lost words (words_of new.device) 0 _ _ root some.range reply e.step e.did.was_exact some.named in
        record {
          range = some.range;
          named = some.named;
          call = subst (λ (r : Reply). IsOneCall old.device new.device (call_events words old.line (calls.Free root) r) (IsEitherHeap words (words_of new.device))) l.is e.did;
          gone = l.gone;
          keeps = record { others = l.others.each; words = e.keeps };
        }

  module _ {root : ℕ} {reply : Reply} (low : root < stage) (block : HasRecordBlock (words_of old.device) stage) (none : HasNone (words_of old.device) root) (e : IsMoveAnswered old new stage root reply) where
    pub moved : reply ≡ replies.Moved block.range.at block.range.size
    moved = (passed (words_of old.device) (words_of new.device) stage root block.range reply e.step e.did.was_exact block.named (omega (arith, low, stage_rooted (words_of old.device))) none).is

    pub shown : IsShown old new root
    shown =
        let words = words_of old.device in
        let p = passed words (words_of new.device) stage root block.range reply e.step e.did.was_exact block.named (omega (arith, low, stage_rooted words)) none in
        let wide : block.range ≡ record { at = block.range.at; size = 64 } = λ i. record { at = block.range.at; size = block.size i } in
        let is : reply ≡ replies.Moved block.range.at 64 = p.is ∙ ap (λ (s : ℕ). replies.Moved block.range.at s) block.size in
        record {
          at = block.range.at;
          named = block.named ∙ ap Some wide;
          call = subst (λ (r : Reply). IsOneCall old.device new.device (call_events words old.line (calls.Move stage root) r) (IsEitherMoved words (words_of new.device) root)) is e.did;
          moves = p.moves;
          words = e.keeps;
        }

  module _ {contents : List ℕ} {result : Result (Unit {0}) BlockRefusal} (block : HasRecordBlock (words_of old.device) stage) (count : length contents ≡ 8) (e : IsWriteAnswered old new stage 0 contents result) where
    pub is_wrote : write_reply result ≡ replies.Wrote
    is_wrote = wrote (words_of old.device) (words_of new.device) stage 0 contents block.range (write_reply result) e.step e.did.was_exact block.named (omega (arith, count, block.size))

    pub filled : IsFilled old new contents
    filled =
        let words = words_of old.device in
        record {
          call = subst (λ (r : Reply). IsOneCall old.device new.device (payload_events words stage 0 contents r) (IsEitherWords words (words_of new.device))) is_wrote e.did;
          line = e.line;
          written = written_ok words stage 0 contents (words_of new.device) result is_wrote e.written;
        }
