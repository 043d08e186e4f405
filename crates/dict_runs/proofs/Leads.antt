-- What one call of an arena leads to, from where the arena stood.
use Rattle.std.proofs.Common.{◌≡◌, ℕ, List, ap, sym, ◌∙◌, subst, refl, Ok}
use Rattle.dict_runs.proofs.Common.{PmemState, words_of, Call, Reply, Bounds, Machine, bounds_of, HasState, ArenaState, IsWriteOf, last_stage}
use Rattle.heap_model.specs.declared.call.Call.TheVariants as calls
use Rattle.heap_model.specs.declared.call.Reply.TheVariants as replies
use Rattle.heap_model.specs.Placement.{Stacks, IsPlacedStep}
use Rattle.thread_cache.specs.Stacks.{stacks_of}
use Rattle.heap_check.proofs.Forms.{bounds_of-same}
use Rattle.arena_core.specs.Answered.{IsAnswered, IsMoveAnswered, IsWriteAnswered}
use Rattle.dict_runs.specs.Acts.{Act, Ask, Fill, Leads}
use Rattle.dict_runs.specs.Turns.{standing}

-- a call of the arena led to this arena, whose device went through it last
pub record IsLed (b : Bounds) (old : ArenaState) (machine : Machine) (act : Act) (reply : Reply) (new : ArenaState) : Type 0 where
  pub next : Machine
  pub leads : Leads b (standing old machine) act reply (last_stage new.device) (standing new next)
  pub state : HasState (words_of new.device) next
  pub bounds : bounds_of (words_of new.device) ≡ b

module _ (b : Bounds) (old new : ArenaState) (machine : Machine) (state : HasState (words_of old.device) machine) (bounds : bounds_of (words_of old.device) ≡ b) where
  -- a malloc or a free
  pub asked : (call : Call) (reply : Reply) → IsAnswered 0 old new call reply → IsLed b old machine (Ask call) reply new
  asked call reply answered =
      let found = answered.step.each machine state in
      record {
        next = found.0;
        leads = record {
          begins = ap (λ (s : PmemState). s.base) answered.did.device;
          events = ap (λ (s : PmemState). s.events) answered.did.device;
          step = subst (λ (c : Bounds). IsPlacedStep c 0 (record { machine = machine; stacks = stacks_of old.stacks }) call reply (record { machine = found.0; stacks = stacks_of new.stacks })) bounds found.1;
          words = refl;
          line = answered.line;
          state = found.2;
        };
        state = found.2;
        bounds = bounds_of-same (words_of old.device) (words_of new.device) answered.step.header ∙ bounds;
      }

  -- a move
  pub moved : (from to : ℕ) (reply : Reply) → IsMoveAnswered old new from to reply → IsLed b old machine (Ask (calls.Move from to)) reply new
  moved from to reply answered =
      let step = answered.step 0 (stacks_of old.stacks) in
      let found = step.each machine state in
      let stacks : stacks_of old.stacks ≡ stacks_of new.stacks = λ i. stacks_of (sym answered.stacks i) in
      record {
        next = found.0;
        leads = record {
          begins = ap (λ (s : PmemState). s.base) answered.did.device;
          events = ap (λ (s : PmemState). s.events) answered.did.device;
          step = subst (λ (after : Stacks). IsPlacedStep b 0 (record { machine = machine; stacks = stacks_of old.stacks }) (calls.Move from to) reply (record { machine = found.0; stacks = after })) stacks
              (subst (λ (c : Bounds). IsPlacedStep c 0 (record { machine = machine; stacks = stacks_of old.stacks }) (calls.Move from to) reply (record { machine = found.0; stacks = stacks_of old.stacks })) bounds found.1);
          words = refl;
          line = answered.line;
          state = found.2;
        };
        state = found.2;
        bounds = bounds_of-same (words_of old.device) (words_of new.device) step.header ∙ bounds;
      }

  -- a row of words
  pub wrote : (root : ℕ) (words : List ℕ) → IsWriteAnswered old new root 0 words (Ok tt) → IsLed b old machine (Fill root words) replies.Wrote new
  wrote root words answered =
      let found = answered.step.each machine state in
      record {
        next = found.0;
        leads = record {
          begins = ap (λ (s : PmemState). s.base) answered.did.device;
          events = ap (λ (s : PmemState). s.events) answered.did.device;
          step = (subst (λ (c : Bounds). IsWriteOf c machine root 0 words replies.Wrote found.0) bounds found.1, λ i. stacks_of (answered.stacks i));
          words = refl;
          line = answered.line;
          state = found.2;
        };
        state = found.2;
        bounds = bounds_of-same (words_of old.device) (words_of new.device) answered.step.header ∙ bounds;
      }
