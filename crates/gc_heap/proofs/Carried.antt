-- What a malloc and a free did on the words, step by step.
use Rattle.std.proofs.Common.{◌≡◌, ℕ, ◌++◌, subst}
use Rattle.pmem_lines.specs.Pmem.{PmemState, words_of}
use Rattle.pmem_lines.specs.Steps.{IsQuietStep}
use Rattle.pmem_lines.proofs.Steps.{step_then, step_end}
use Rattle.heap_check.specs.Image.{bounds_of}
use Rattle.heap_indexes.specs.declared.answer.Place.{Place}
use Rattle.gc_check.specs.State.{HaveSameGcHeap, IsEitherGcHeap}
use Rattle.gc_check.proofs.Stages.{either_before, either_behind, either_first, either_second}
use Rattle.gc_steps.specs.Roots.{root_events}
use Rattle.gc_steps.specs.Extents.{drop_events}
use Rattle.gc_heap.specs.Events.{gone_events}
use Rattle.gc_heap.specs.Plan.{word_of_place, prepare_events, IsPrepared}

-- a place is there for a root, and then the root gets its word
pub place_step : {s t u : PmemState} (place : Place) (root word : ℕ) → word ≡ word_of_place place → IsPrepared (words_of s) place (words_of t) →
    IsQuietStep s t (prepare_events (words_of s) place) (IsEitherGcHeap (words_of s) (words_of t)) → IsQuietStep t u (root_events root word) (IsEitherGcHeap (words_of t) (words_of u)) →
    IsQuietStep s u (prepare_events (words_of s) place ++ root_events root (word_of_place place)) (IsEitherGcHeap (words_of s) (words_of u))
place_step {s} {t} {u} place root word is made first second =
    step_then (IsEitherGcHeap (words_of s) (words_of u)) (λ ws. root_events root (word_of_place place)) first
    (subst (λ w. IsQuietStep t u (root_events root w) (IsEitherGcHeap (words_of t) (words_of u))) is second)
    (λ image. either_before (words_of s) (words_of t) (words_of u) image made.heap)
    (λ image. either_behind (words_of s) (words_of t) (words_of u) image made.bounds made.heap (step_end first).words)

-- a root loses its word, and then its extent goes
pub gone_step : {s t u : PmemState} (root start : ℕ) → bounds_of (words_of t) ≡ bounds_of (words_of s) → HaveSameGcHeap (words_of t) (words_of u) → IsQuietStep s t (root_events root 0) (IsEitherGcHeap (words_of s) (words_of t)) →
    IsQuietStep t u (drop_events (words_of t) start) (IsEitherGcHeap (words_of t) (words_of u)) → IsQuietStep s u (gone_events (words_of s) root start) (IsEitherGcHeap (words_of s) (words_of u))
gone_step {s} {t} {u} root start bounds same first second =
    step_then (IsEitherGcHeap (words_of s) (words_of u)) (λ ws. drop_events ws start) first second
    (λ image. either_first (words_of s) (words_of t) (words_of u) image same)
    (λ image. either_second (words_of s) (words_of t) (words_of u) image bounds same (step_end first).words)
