-- What an arena answered to a write of one word, to a read of one, and to a move.
use Rattle.std.proofs.Common.{◌≡◌, ◌∙◌, ℕ, List, [], ◌∷◌, Result, refl, ap, sym, subst}
use Rattle.std.specs.Borrow.{Bor}
use Rattle.pmem_lines.specs.Pmem.{words_of, began, appended}
use Rattle.heap_model.specs.declared.call.Call.TheVariants.{Write, Read, Move}
use Rattle.heap_model.specs.declared.call.Reply.{Reply}
use Rattle.thread_cache.specs.Stacks.{StackTable, stacks_of}
use Rattle.heap_model.specs.declared.call.Call.{Call}
use Rattle.heap_check.specs.Image.{IsExactImage}
use Rattle.arena_core.specs.declared.answer.BlockRefusal.{BlockRefusal}
use Rattle.arena_core.specs.Answer.{write_reply, read_reply}
use Rattle.arena_core.specs.Answered.{IsMoveAnswered, IsWriteAnswered}
use Rattle.arena_core.specs.Arena.{ArenaState}
use Rattle.arena_core.specs.Call.{IsReady, IsStepOf, IsStepOfAny}
use Rattle.arena_core.specs.Payload.{IsViewOf}
use Rattle.arena_core.proofs.ByCall.{law_of_one_word, law_of_one_read, unwritten_blocks, unwritten_write}
use Rattle.arena_journal.specs.Journals.{HasAnswered}

-- a step by which the stacks stay, with the arena's stacks before it and behind it
step_of_any : (seat : ℕ) (old new : ArenaState) (call : Call) (reply : Reply) → IsStepOfAny (words_of old.device) (words_of new.device) call reply → new.stacks ≡ old.stacks →
    IsStepOf seat (words_of old.device) (stacks_of old.stacks) (words_of new.device) (stacks_of new.stacks) call reply
step_of_any seat old new call reply step same =
    subst (λ (table : StackTable). IsStepOf seat (words_of old.device) (stacks_of old.stacks) (words_of new.device) (stacks_of table) call reply) (sym same) (step seat (stacks_of old.stacks))

pub HasAnswered-write : (seat : ℕ) {old new : ArenaState} {root index word : ℕ} {result : Result (Unit {0}) BlockRefusal} → IsWriteAnswered old new root index (word ∷ []) result → HasAnswered seat old new (Write root index word) (write_reply result)
HasAnswered-write seat {old} {new} {root} {index} {word} {result} wrote =
    let law = law_of_one_word (words_of old.device) (words_of new.device) old.line root index word (write_reply result) wrote.step in
    record {
      step = step_of_any seat old new (Write root index word) (write_reply result) law.0 wrote.stacks;
      done = record { device = wrote.did.device ∙ ap (appended (began old.device)) law.1; crash = wrote.did.crash };
      line = wrote.line ∙ sym law.2;
      keeps = unwritten_write (words_of old.device) (words_of new.device) root index word result wrote.written;
      was_exact = wrote.did.was_exact;
      exact = wrote.did.exact;
      ready = wrote.did.ready;
    }

pub HasAnswered-read : (seat : ℕ) (arena : ArenaState) (root index : ℕ) (view : Result (Bor (List ℕ)) BlockRefusal) → IsViewOf (words_of arena.device) root view → IsExactImage (words_of arena.device) → IsReady arena.device →
    HasAnswered seat arena arena (Read root index) (read_reply view index)
HasAnswered-read seat arena root index view is exact ready =
    let law = law_of_one_read (words_of arena.device) arena.line root index view is in
    record {
      step = law.0 seat (stacks_of arena.stacks);
      done = record { same = refl; word = law.1 };
      line = sym law.2;
      keeps = record { each = λ r other range k was now within off. refl };
      was_exact = exact;
      exact = exact;
      ready = ready;
    }

pub HasAnswered-move : (seat : ℕ) {old new : ArenaState} {from to : ℕ} {reply : Reply} → IsMoveAnswered old new from to reply → HasAnswered seat old new (Move from to) reply
HasAnswered-move seat {old} {new} {from} {to} {reply} moved = record {
  step = step_of_any seat old new (Move from to) reply moved.step moved.stacks;
  done = record { device = moved.did.device; crash = moved.did.crash };
  line = moved.line;
  keeps = unwritten_blocks (Move from to) (words_of old.device) (words_of new.device) moved.keeps;
  was_exact = moved.did.was_exact;
  exact = moved.did.exact;
  ready = moved.did.ready;
}
