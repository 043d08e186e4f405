-- What an arena says of its device, once it has answered a call.
use Rattle.std.proofs.Common.{◌≡◌, ℕ, ◌<◌, Bool, true, false, if◌then◌else◌, List, length, Option, None, Some, is_some, sym, ap, ◌∙◌, refl, arith, subst}
use Rattle.pmem_lines.specs.Events.{CrashOnly}
use Rattle.trace_crashes.proofs.Common.{cond-true, cond-false, eq-eqb, ne_eqb, PmemState, words_of, word_at, version_in, layout_of, root_word, tables_of, Call, Malloc, Free, Write, Read, Move, Reply, Bounds, Machine, Range, root_of, heap, slabs, size_at, bounds_of, ArenaState, call_events, begins_call, Entry, TraceCall, Stage}
use Rattle.heap_model.specs.declared.call.Reply.TheVariants.{Placed, Freed, Wrote, Moved}
use Rattle.heap_check.specs.State.{HasState}
use Rattle.image_tables.proofs.Tables.{word_table}
use Rattle.arena_core.specs.ByCall.{IsSteadyLeft}
use Rattle.arena_core.proofs.ByCall.{law_of_crashes}
use Rattle.arena_journal.specs.Journals.{HasBegun, HasDone, HasAnswered}
use Rattle.arena_journal.proofs.Journals.{begun_done}
use Rattle.trace_crashes.specs.Crash.{log}
use Rattle.trace_crashes.specs.Seek.{last_stage, IsTold, IsAnswered}
use Rattle.trace_crashes.specs.Steps.{IsStepAt}
use Rattle.trace_crashes.proofs.Changes.{Stores, HasEffect, has_effect}
use Rattle.trace_crashes.proofs.Sides.{is_some-told, IsSide-told}
use Rattle.trace_crashes.proofs.Roots.{root-fits, root-inside}

-- events

-- a call that has events begins one
pub begins_some : (begins : Bool) (n : ℕ) → 0 < (if begins then n else 0) → begins ≡ true
begins_some true n some = refl
begins_some false n some = absurd (omega (arith, some))

no_events : 0 < 0 → ⊥
no_events some = omega (arith, some)

-- and stores
stores : (words : List ℕ) (line : ℕ) (call : Call) (reply : Reply) → 0 < length (call_events words line call reply) → Stores call reply
stores words line (Malloc root size) (Placed at given) some = tt
stores words line (Malloc root size) reply some = absurd (no_events some)
stores words line (Free root) (Freed at size) some = tt
stores words line (Free root) reply some = absurd (no_events some)
stores words line (Write root index word) Wrote some = tt
stores words line (Write root index word) reply some = absurd (no_events some)
stores words line (Read root index) reply some = absurd (no_events some)
stores words line (Move from to) (Moved at size) some = tt
stores words line (Move from to) reply some = absurd (no_events some)

-- the device's events are those of the call where the call begins one, and the call has none where it is a Read
events_done : (old new : ArenaState) (call : Call) (reply : Reply) → HasDone old new call reply → length (call_events (words_of old.device) old.line call reply) ≡ (if begins_call call then length new.device.events else 0)
events_done old new (Malloc root size) reply done = sym (ap (λ (s : PmemState). length s.events) done.device)
events_done old new (Free root) reply done = sym (ap (λ (s : PmemState). length s.events) done.device)
events_done old new (Write root index word) reply done = sym (ap (λ (s : PmemState). length s.events) done.device)
events_done old new (Read root index) reply done = refl
events_done old new (Move from to) reply done = sym (ap (λ (s : PmemState). length s.events) done.device)

-- images

-- the state that an image has, where nothing is known of the words of its blocks
machine_of : List ℕ → Machine
machine_of words = record { block = heap (tables_of words); slab = slabs (tables_of words); value = λ _ _. None }

HasState-machine_of : (words : List ℕ) → HasState words (machine_of words)
unfolding machine_of
HasState-machine_of words = record { blocks = λ root. refl; slabs = λ start. refl; values = λ root index word is. absurd (cc) }

-- the block of each root by an image's words
abbrev block_in : List ℕ → ℕ → Option Range
block_in words = heap (tables_of words)

-- a root that holds its word has a block where the word is not 0
block_told : (words : List ℕ) (root : ℕ) → (tables_of words).root root ≡ (tables_of words).word root → root < (layout_of (version_in words)).roots →
    (word_at words (root_word root) ≡ 0 → is_some (block_in words root) ≡ false) × ((word_at words (root_word root) ≡ 0 → ⊥) → is_some (block_in words root) ≡ true)
block_told words root held below =
    let at = (tables_of words).root root in
    let word = word_at words (root_word root) in
    let block : Option Range = Some (record { at = at; size = size_at (tables_of words) root at }) in
    let is : at ≡ word = held ∙ word_table words root below in
    (λ (none : word ≡ 0). ap is_some (cond-true _ None block (eq-eqb at 0 (is ∙ none))), λ (some : word ≡ 0 → ⊥). ap is_some (cond-false _ None block (ne_eqb at 0 (λ e. some (sym is ∙ e)))))

-- an arena answered a call that has events
module _ (seat : ℕ) (old new : ArenaState) (call : Call) (reply : Reply) (answered : HasAnswered seat old new call reply) (some : 0 < length (call_events (words_of old.device) old.line call reply)) where
  did : HasBegun old new call reply
  did = begun_done old new call reply (begins_some (begins_call call) (length new.device.events) (subst (λ n. 0 < n) (events_done old new call reply answered.done) some)) answered.done

  effect : HasEffect block_in (words_of old.device) (words_of new.device) (bounds_of (words_of old.device)).roots (root_of call) reply
  effect =
      let m = machine_of (words_of old.device) in
      let was = HasState-machine_of (words_of old.device) in
      let next = answered.step.each m was in
      has_effect block_in (bounds_of (words_of old.device)) (words_of old.device) (words_of new.device) m next.0 was.blocks next.2.blocks call reply next.1.step (stores (words_of old.device) old.line call reply some)

  told : (image : List ℕ) → IsSteadyLeft (root_of call) (words_of old.device) (words_of new.device) image → IsTold log call reply (words_of old.device) (words_of new.device) image
  told image left =
      let root = root_of call in
      let below : root < (layout_of (version_in image)).roots = subst (λ (b : Bounds). root < b.roots) (sym left.bounds) effect.below in
      let block = block_told image root left.held below in
      record {
        whole = left.steady;
        fits = root-fits (version_in image) root below;
        inside = root-inside image root left.steady.formed below;
        side = λ has reads. IsSide-told log block_in (λ words other same. same.each) (λ words other same. record { each = same }) (words_of old.device) (words_of new.device) image left.heap root reply has effect.effect
            (is_some-told image root (block_in image root) has block.0 block.1 reads);
      }

  -- the device went through it last
  is_last : record { words = words_of old.device; events = call_events (words_of old.device) old.line call reply } ≡ last_stage new.device
  is_last = sym (ap last_stage did.device)

  crash_told : CrashOnly new.device.base new.device.events (IsTold log call reply new.device.base (words_of new.device))
  crash_told = record {
    each = λ n image one.
        subst (λ (words : List ℕ). IsTold log call reply words (words_of new.device) image) (sym (ap (λ (s : PmemState). s.base) did.device))
        (told image (law_of_crashes call (words_of old.device) (words_of new.device) image (did.crash.each n image one)));
  }

-- whether it has or not
pub answered_stage : (old new : ArenaState) (call : TraceCall) (entry : Entry) → entry.call ≡ call.call → HasAnswered call.thread old new call.call entry.reply → (stage : Stage) × IsStepAt old call stage new × IsAnswered log new.device call entry stage
answered_stage old new call entry is answered =
    let stage : Stage = record { words = words_of old.device; events = call_events (words_of old.device) old.line call.call entry.reply } in
    let Behind : Call → Type 0 = λ asked. CrashOnly new.device.base new.device.events (IsTold log asked entry.reply new.device.base (words_of new.device)) in (
      stage,
      record { reply = entry.reply; answered = answered; is = refl },
      record {
        count = events_done old new call.call entry.reply answered.done;
        last = λ some. (is_last call.thread old new call.call entry.reply answered some, subst Behind (sym is) (crash_told call.thread old new call.call entry.reply answered some));
      },
    )
