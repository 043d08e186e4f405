-- What an arena says of its device, once it has answered a call.
use Rattle.std.proofs.Common.{◌≡◌, ◌⊎◌, inl, ℕ, ◌<◌, if◌then◌else◌, List, length, is_some, sym, ap, ◌∙◌, refl, arith, subst}
use Rattle.pmem_lines.specs.Events.{CrashOnly}
use Rattle.pmem_lines.specs.Pmem.{PmemState, words_of}
use Rattle.pool_layout.specs.Header.{version_in}
use Rattle.heap_model.specs.declared.call.Call.{Call}
use Rattle.heap_model.specs.declared.call.Call.TheVariants.{Malloc, Free, Write, Read, Move}
use Rattle.heap_model.specs.declared.call.Reply.{Reply}
use Rattle.heap_model.specs.declared.call.Reply.TheVariants.{Placed, Freed, Wrote}
use Rattle.heap_model.specs.declared.call.Entry.{Entry}
use Rattle.heap_model.specs.Machine.{Bounds}
use Rattle.trace_text.specs.declared.call.TraceCall.{TraceCall}
use Rattle.trace_runs.specs.Runs.{Stage}
use Rattle.heap_model.specs.Step.{root_of}
use Rattle.heap_check.specs.Image.{bounds_of}
use Rattle.gc_check.specs.Heap.{gc_tables}
use Rattle.gc_check.specs.Image.{IsGcSoundImage}
use Rattle.gc_check.specs.State.{gc_blocks, HasGcState, HaveSameGcHeap}
use Rattle.gc_check.proofs.Heaps.{gc_heap-some}
use Rattle.gc_check.proofs.Steps.{gc_sizes}
use Rattle.gc_heap.specs.Arena.{GcState, state_in}
use Rattle.gc_heap.specs.Events.{gc_call_events}
use Rattle.gc_heap.proofs.RootBlocks.{word_is, no_block}
use Rattle.gc_runs.specs.Answered.{IsGcLeftBy, HasGcBegun, HasGcDone, HasGcAnswered}
use Rattle.gc_runs.proofs.Behind.{begun_done}
use Rattle.arena_journal.specs.Journals.{begins_call}
use Rattle.trace_crashes.specs.Seek.{last_stage, IsTold, IsAnswered}
use Rattle.trace_crashes.proofs.Changes.{Stores, HasEffect, has_effect}
use Rattle.trace_crashes.proofs.Roots.{root-fits}
use Rattle.trace_crashes.proofs.Sides.{is_some-told, IsSide-told}
use Rattle.trace_crashes.proofs.Stages.{begins_some}
use Rattle.gc_crashes.specs.Crash.{gc, IsGcStepAt}

-- events

no_events : 0 < 0 → ⊥
no_events some = omega (arith, some)

-- a call that has events stores
stores : (words : List ℕ) (call : Call) (reply : Reply) → 0 < length (gc_call_events words call reply) → Stores call reply
stores words (Malloc root size) (Placed at given) some = tt
stores words (Malloc root size) reply some = absurd (no_events some)
stores words (Free root) (Freed at size) some = tt
stores words (Free root) reply some = absurd (no_events some)
stores words (Write root index word) Wrote some = tt
stores words (Write root index word) reply some = absurd (no_events some)
stores words (Read root index) reply some = absurd (no_events some)
stores words (Move from to) reply some = absurd (no_events some)

-- the device's events are those of the call where the call begins one, and the call has none where it is a Read
events_done : (old new : GcState) (call : Call) (reply : Reply) → HasGcDone old new call reply → length (gc_call_events (words_of old.device) call reply) ≡ (if begins_call call then length new.device.events else 0)
events_done old new (Malloc root size) reply done = sym (ap (λ (s : PmemState). length s.events) done.device)
events_done old new (Free root) reply done = sym (ap (λ (s : PmemState). length s.events) done.device)
events_done old new (Write root index word) reply done = sym (ap (λ (s : PmemState). length s.events) done.device)
events_done old new (Read root index) reply done = refl
events_done old new (Move from to) reply done = absurd done

-- images

has_state : (words : List ℕ) → HasGcState words (state_in words)
has_state words = record { blocks = λ root. refl; slabs = λ start. refl; values = λ root index word is. absurd (cc) }

-- what a crash within a call leaves: a sound image with the same numbers and the heap from before the call or from after it
record IsSoundLeft (old new image : List ℕ) : Type 0 where
  sound : IsGcSoundImage image
  bounds : bounds_of image ≡ bounds_of old
  heap : HaveSameGcHeap old image ⊎ HaveSameGcHeap new image

sound_left : (call : Call) (old new image : List ℕ) → IsGcLeftBy call old new image → IsSoundLeft old new image
sound_left (Write root index word) old new image left = record { sound = record { formed = left.exact.formed; sound = left.exact.exact.sound }; bounds = left.bounds; heap = inl left.heap }
sound_left (Malloc root size) old new image left = record { sound = left.sound; bounds = left.bounds; heap = left.heap }
sound_left (Free root) old new image left = record { sound = left.sound; bounds = left.bounds; heap = left.heap }
sound_left (Read root index) old new image left = record { sound = left.sound; bounds = left.bounds; heap = left.heap }
sound_left (Move from to) old new image left = record { sound = left.sound; bounds = left.bounds; heap = left.heap }

-- an arena answered a call that has events
module _ (seat : ℕ) (old new : GcState) (call : Call) (reply : Reply) (answered : HasGcAnswered seat old new call reply) (some : 0 < length (gc_call_events (words_of old.device) call reply)) where
  did : HasGcBegun old new call reply
  did = begun_done old new call reply (begins_some (begins_call call) (length new.device.events) (subst (λ n. 0 < n) (events_done old new call reply answered.done) some)) answered.done

  effect : HasEffect gc_blocks (words_of old.device) (words_of new.device) (bounds_of (words_of old.device)).roots (root_of call) reply
  effect =
      let was = has_state (words_of old.device) in
      let next = answered.step.each (state_in (words_of old.device)) was in
      has_effect gc_blocks (bounds_of (words_of old.device)) (words_of old.device) (words_of new.device) (state_in (words_of old.device)) next.0 was.blocks next.2.blocks call reply next.1.step
      (stores (words_of old.device) call reply some)

  told : (image : List ℕ) → IsSoundLeft (words_of old.device) (words_of new.device) image → IsTold gc call reply (words_of old.device) (words_of new.device) image
  told image left =
      let root = root_of call in
      let below : root < (bounds_of image).roots = subst (λ (b : Bounds). root < b.roots) (sym left.bounds) effect.below in
      let is = word_is image root below in
      record {
        whole = left.sound;
        fits = root-fits (version_in image) root below;
        inside = (gc_sizes image left.sound.formed).inside root below;
        side = λ has reads. IsSide-told gc gc_blocks (λ words other same. same.each) (λ words other same. record { each = same }) (words_of old.device) (words_of new.device) image left.heap root reply has effect.effect
            (is_some-told image root (gc_blocks image root) has (λ none. ap is_some (no_block image root (is ∙ none))) (λ some. ap is_some (gc_heap-some (gc_tables image) root (λ none. some (sym is ∙ none)))) reads);
      }

  -- the device went through it last
  is_last : record { words = words_of old.device; events = gc_call_events (words_of old.device) call reply } ≡ last_stage new.device
  is_last = sym (ap last_stage did.device)

  crash_told : CrashOnly new.device.base new.device.events (IsTold gc call reply new.device.base (words_of new.device))
  crash_told = record {
    each = λ n image one.
        subst (λ (words : List ℕ). IsTold gc call reply words (words_of new.device) image) (sym (ap (λ (s : PmemState). s.base) did.device))
        (told image (sound_left call (words_of old.device) (words_of new.device) image (did.crash.each n image one)));
  }

-- whether it has or not
pub answered_stage : (old new : GcState) (call : TraceCall) (entry : Entry) → entry.call ≡ call.call → HasGcAnswered call.thread old new call.call entry.reply → (stage : Stage) × IsGcStepAt old call stage new × IsAnswered gc new.device call entry stage
answered_stage old new call entry is answered =
    let stage : Stage = record { words = words_of old.device; events = gc_call_events (words_of old.device) call.call entry.reply } in
    let Behind : Call → Type 0 = λ asked. CrashOnly new.device.base new.device.events (IsTold gc asked entry.reply new.device.base (words_of new.device)) in (
      stage,
      record { reply = entry.reply; answered = answered; is = refl },
      record {
        count = events_done old new call.call entry.reply answered.done;
        last = λ some. (is_last call.thread old new call.call entry.reply answered some, subst Behind (sym is) (crash_told call.thread old new call.call entry.reply answered some));
      },
    )
