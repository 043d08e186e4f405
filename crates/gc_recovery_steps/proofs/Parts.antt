-- The Tombs of recovery, one and then the other.
use Rattle.std.proofs.Common.{◌+◌, ◌≤◌, ℕ, List, [], ◌++◌, length, refl, subst, arith, inl, inr, length-append}
use Rattle.pmem_lines.specs.Pmem.{PmemState, words_of}
use Rattle.pmem_lines.specs.Events.{IsQuiet}
use Rattle.pmem_lines.specs.Steps.{IsQuietStep}
use Rattle.pmem_lines.proofs.Steps.{step_none, step_then, step_wider, step_end}
use Rattle.image_defects.specs.Least.{HasNone}
use Rattle.gc_check.specs.Heap.{gc_tables}
use Rattle.gc_check.specs.Image.{IsGcSoundImage}
use Rattle.gc_check.specs.State.{HaveSameGcHeap, IsEitherGcHeap}
use Rattle.gc_steps.specs.Extents.{drop_events}
use Rattle.gc_recovery_steps.specs.declared.search.Loose.{Loose}
use Rattle.gc_recovery_steps.specs.declared.search.Loose.TheVariants.{Large, Empty}
use Rattle.gc_recovery_steps.specs.Kinds.{IsLooseOf}
use Rattle.gc_recovery_steps.specs.Recovery.{KeepsGcHeap, DropsLoose, GcRecovers, IsPart}
use Rattle.gc_recovery_steps.proofs.Kept.{keeps_self, either_keeps, keeps_on}

-- nothing is stored where there is no such thing
pub part_none : {s : PmemState} (kind : Loose) (most : ℕ) → IsQuiet s.events → IsGcSoundImage (words_of s) → HasNone (IsLooseOf kind (gc_tables (words_of s))) → IsPart s s (DropsLoose kind) most
part_none {s} kind most quiet image none = record { events = []; stores = inl (none, refl); few = omega arith; step = step_none quiet (keeps_self (words_of s) image) }

-- a thing that was found gets its Tomb
pub part_one : {s t : PmemState} (kind : Loose) (most start : ℕ) → IsLooseOf kind (gc_tables (words_of s)) start → HaveSameGcHeap (words_of s) (words_of t) →
    IsQuietStep s t (drop_events (words_of s) start) (IsEitherGcHeap (words_of s) (words_of t)) → length t.events ≤ length s.events + most → IsPart s t (DropsLoose kind) most
part_one {s} {t} kind most start here same step few = record {
  events = drop_events (words_of s) start;
  stores = inr (record { start = start; loose = here; is = refl });
  few = omega (arith, few, step.appends.count);
  step = step_wider (λ image is. either_keeps (words_of s) (words_of t) image same is) step;
}

-- the large extent, and then the slab
pub both : {s t u : PmemState} {m n : ℕ} (most : ℕ) (first : IsPart s t (DropsLoose Large) m) (second : IsPart t u (DropsLoose Empty) n) → length first.events + n ≤ most → IsPart s u GcRecovers most
both {s} {t} {u} {m} {n} most first second is = record {
  events = first.events ++ second.events;
  stores = record {
    front = first.events;
    back = second.events;
    is = refl;
    large = first.stores;
    slab = subst (λ (ws : List ℕ). DropsLoose Empty ws second.events) first.step.appends.words second.stores;
  };
  few = omega (arith, is, second.few, length-append first.events second.events);
  step = step_then (KeepsGcHeap (words_of s)) (λ ws. second.events) first.step second.step (λ image kept. kept) (λ image kept. keeps_on (words_of s) (words_of t) image (step_end first.step) kept);
}
