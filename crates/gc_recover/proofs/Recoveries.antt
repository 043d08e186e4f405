-- A device that recovery made exact, from what its steps say.
use Rattle.std.proofs.Common.{◌≡◌, ◌≤◌, List, ℕ, length, refl, sym, ap, subst, ◌∙◌}
use Rattle.pmem_lines.specs.declared.event.Event.{Event}
use Rattle.pmem_lines.specs.Pmem.{PmemState, words_of, began, appended, fresh}
use Rattle.pmem_lines.specs.Events.{CrashOnly}
use Rattle.pmem_lines.specs.Words.{word_at}
use Rattle.pool_layout.specs.Layout.{layout_of}
use Rattle.pool_layout.specs.Places.{fields_word}
use Rattle.pool_layout.specs.Header.{version_in}
use Rattle.gc_check.specs.Image.{IsGcSoundImage, IsGcExactImage}
use Rattle.gc_recovery_steps.specs.Recovery.{KeepsGcHeap, KeepsGcSlabs, GcRecovers, IsPart}
use Rattle.gc_recover.specs.Recovered.{IsGcRecovered, IsGcRecoveredDevice}

-- the events of a part that begins a call are those of the call
events_are : {Stores : List ℕ → List Event → Type 0} {most : ℕ} (old new : PmemState) (part : IsPart (began old) new Stores most) → part.events ≡ new.events
events_are old new part = sym (ap (λ (s : PmemState). s.events) part.step.appends.state)

-- the whole of it, where it begins a call
pub recovered : (old new : PmemState) → IsPart (began old) new GcRecovers (layout_of (version_in (words_of old))).recovery_events → IsGcExactImage (words_of new) → KeepsGcHeap (words_of old) (words_of new) → KeepsGcSlabs (words_of old) (words_of new) →
    word_at (words_of new) fields_word ≡ word_at (words_of old) fields_word → IsGcRecovered old new
recovered old new part exact keeps slabs header =
    let same = events_are old new part in
    record {
      state = part.step.appends.state ∙ ap (λ (es : List Event). appended (began old) es) same;
      quiet = part.step.quiet;
      exact = exact;
      keeps = keeps;
      slabs = slabs;
      header = header;
      stores = subst (λ (es : List Event). GcRecovers (words_of old) es) same part.stores;
      few = subst (λ (es : List Event). length es ≤ (layout_of (version_in (words_of old))).recovery_events) same part.few;
      crash = subst (λ (es : List Event). CrashOnly (words_of old) es (KeepsGcHeap (words_of old))) same part.step.crash;
    }

-- a device that was made with these words
pub gc_recovered_device : (words : List ℕ) (room : ℕ) (device : PmemState) → IsGcRecovered (fresh words room) device → IsGcRecoveredDevice words device
gc_recovered_device words room device is = record {
  base = ap (λ (s : PmemState). s.base) is.state;
  begins = ap (λ (s : PmemState). s.begins) is.state;
  quiet = is.quiet;
  exact = is.exact;
  keeps = is.keeps;
}

-- recovery of an arena of version 1 has so few events
row_few : (version : ℕ) → version ≡ 1 → (layout_of version).recovery_events ≡ 909
unfolding layout_of
row_few version is = rw is refl

pub recovery_few : (words : List ℕ) → IsGcSoundImage words → (layout_of (version_in words)).recovery_events ≡ 909
recovery_few words image = row_few (version_in words) image.formed.header.valid.first
