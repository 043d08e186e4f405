-- A device that recovery made exact, from what its steps say.
use Rattle.std.proofs.Common.{◌≡◌, ◌≤◌, ◌-◌, List, ℕ, length, sym, ap, subst, ◌∙◌, arith}
use Rattle.pmem_lines.specs.declared.event.Event.{Event}
use Rattle.pmem_lines.specs.Pmem.{PmemState, words_of, began, appended, fresh}
use Rattle.pmem_lines.specs.Events.{CrashOnly}
use Rattle.pool_layout.specs.Layout.{layout_of}
use Rattle.pool_layout.specs.Header.{version_in}
use Rattle.pool_layout.proofs.Layouts.{layout_rules}
use Rattle.heap_check.specs.Image.{IsExactImage, IsSteadyImage}
use Rattle.settle_steps.specs.Settled.{KeepsHeap}
use Rattle.transition_steps.specs.Transitions.{LeavesHeap}
use Rattle.recovery_steps.specs.Parts.{IsPart, IsLeft}
use Rattle.recovery_steps.specs.Recovery.{Recovers, RecoversSound}
use Rattle.recover.specs.Recovered.{HasVersionRoom, IsRecovered, IsRecoveredDevice}

-- the events of a part that begins a call are those of the call
events_are : {Leaves : List ℕ → List ℕ → Type 0} {Stores : List ℕ → List Event → Type 0} {most : ℕ} (old new : PmemState) (part : IsPart Leaves (began old) new Stores most) → part.events ≡ new.events
events_are old new part = sym (ap (λ (s : PmemState). s.events) part.step.appends.state)

-- the whole of it, where it begins a call
pub recovered : (old new : PmemState) → IsPart LeavesHeap (began old) new RecoversSound (layout_of (version_in (words_of old))).recovery_events →
    (IsSteadyImage (words_of old) → IsPart KeepsHeap (began old) new Recovers ((layout_of (version_in (words_of old))).recovery_events - 3)) →
    IsExactImage (words_of new) → KeepsHeap (words_of old) (words_of new) → IsLeft (words_of old) (words_of new) → IsRecovered old new
recovered old new part steady exact keeps left =
    let same = events_are old new part in
    record {
      state = part.step.appends.state ∙ ap (λ (es : List Event). appended (began old) es) same;
      image = record { quiet = part.step.quiet; exact = exact; heap = keeps.heap; blocks = keeps.blocks };
      header = left.header;
      slabs = left.slabs;
      stores = subst (λ (es : List Event). RecoversSound (words_of old) es) same part.stores;
      few = subst (λ (es : List Event). length es ≤ (layout_of (version_in (words_of old))).recovery_events) same part.few;
      steady_stores = λ is. subst (λ (es : List Event). Recovers (words_of old) es) (events_are old new (steady is)) (steady is).stores;
      crash = λ is. subst (λ (es : List Event). CrashOnly (words_of old) es (KeepsHeap (words_of old))) (events_are old new (steady is)) (steady is).step.crash;
    }

-- a device that was made with these words
pub recovered_device : (words : List ℕ) (room : ℕ) (device : PmemState) → IsRecovered (fresh words room) device → IsRecoveredDevice words device
recovered_device words room device is = record {
  base = ap (λ (s : PmemState). s.base) is.state;
  begins = ap (λ (s : PmemState). s.begins) is.state;
  image = is.image;
}

-- a device that has the room of every row of the table
pub room_of_any : (device : PmemState) → 4096 ≤ device.room → HasVersionRoom device
room_of_any device few header here = omega (arith, few, (layout_rules header.version).most_room)
