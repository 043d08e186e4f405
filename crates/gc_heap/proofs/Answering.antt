-- A call was carried out behind its begin: what the arena answers and leaves, by what the arena means.
use Rattle.std.proofs.Common.{◌≡◌, ℕ, List, [], Result, refl, sym, subst, inl, arith}
use Rattle.pmem_lines.specs.declared.event.Event.{Event}
use Rattle.pmem_lines.specs.Pmem.{PmemState, words_of, began}
use Rattle.pmem_lines.specs.Steps.{IsQuietStep}
use Rattle.pmem_lines.proofs.Steps.{step_by, step_none, step_end}
use Rattle.heap_model.specs.declared.call.Call.{Call}
use Rattle.heap_model.specs.declared.call.Reply.{Reply}
use Rattle.heap_model.specs.Placement.{Stacks}
use Rattle.thread_cache.specs.Stacks.{stacks_of}
use Rattle.gc_check.specs.State.{IsEitherGcHeap}
use Rattle.gc_check.proofs.Steps.{keeps_blocks}
use Rattle.gc_heap.specs.Events.{gc_call_events}
use Rattle.book_log.specs.Book.{Book}
use Rattle.heap_indexes.specs.Indexes.{Indexes}
use Rattle.arena_core.specs.declared.answer.BlockRefusal.{BlockRefusal}
use Rattle.gc_check.specs.Image.{IsGcExactImage}
use Rattle.gc_heap.specs.Arena.{GcState, IsGcArena}
use Rattle.gc_heap.specs.Answered.{IsOneGcCall, IsGcStepOf, IsGcAnswered}
use Rattle.gc_heap.specs.Payload.{IsGcWriteAnswered}
use Rattle.gc_heap.specs.Writing.{IsGcWriteCarried}

-- what an arena means
abbrev pub meant : PmemState → Indexes → GcState
meant device indexes = record { device = device; stacks = indexes.supply.stacks }

-- an arena that begins a call
pub IsGcArena-began : {device : PmemState} {book : Book} {indexes : Indexes} → IsGcArena device book indexes → IsGcArena (began device) book indexes
IsGcArena-began {device} {book} {indexes} arena = grind arith

-- what every call has in common
pub one_call : {device new : PmemState} {book : Book} {indexes : Indexes} {events : List Event} {Left : List ℕ → Type 0} → IsGcExactImage (words_of device) → IsQuietStep (began device) new events Left → IsGcArena new book indexes → IsOneGcCall device new events Left
one_call {device} {new} {book} {indexes} {events} {Left} exact step arena = grind arith

-- a write, which leaves what stands beside the words
pub answered_write : {begun new : PmemState} {book : Book} {indexes : Indexes} {now : GcState} {root from : ℕ} {words : List ℕ} {result : Result (Unit {0}) BlockRefusal} (device : PmemState) → meant device indexes ≡ now → begun ≡ began device → IsGcArena device book indexes →
    IsGcWriteCarried begun new root from words result → IsGcWriteAnswered now (meant new indexes) root from words result
answered_write {begun} {new} {book} {indexes} {now} {root} {from} {words} {result} device view is arena carried =
    let done : IsGcWriteCarried (began device) new root from words result = rw is at carried in
    rw (← view) (record { did = one_call arena.exact done.carried (done.arena book indexes (IsGcArena-began arena)); step = done.step; stacks = refl; written = done.written })

-- what is said of the begin of a call
pub at_begin : {begun : PmemState} (device : PmemState) (P : PmemState → Type 0) → begun ≡ began device → P begun → P (began device)
at_begin {begun} device P is p = subst P is p

-- a malloc or a free
pub answered_call : {new : PmemState} {book : Book} {left : Indexes} {now : GcState} {seat : ℕ} {call : Call} {reply : Reply} (device : PmemState) (was : Indexes) → meant device was ≡ now → IsGcExactImage (words_of device) →
    IsQuietStep (began device) new (gc_call_events (words_of device) call reply) (IsEitherGcHeap (words_of device) (words_of new)) → IsGcArena new book left → IsGcStepOf seat (words_of device) (stacks_of was.supply.stacks) (words_of new) (stacks_of left.supply.stacks) call reply →
    IsGcAnswered seat now (meant new left) call reply
answered_call {new} {book} {left} {now} {seat} {call} {reply} device was view exact did arena to =
    subst (λ (state : GcState). IsGcAnswered seat state (meant new left) call reply) view (record { did = one_call exact did arena; step = to; keeps = (step_end did).words })

-- one that is refused, and leaves the stacks
pub answered_none : {begun : PmemState} {book : Book} {left : Indexes} {now : GcState} {seat : ℕ} {call : Call} {reply : Reply} (device : PmemState) (was : Indexes) → meant device was ≡ now → begun ≡ began device → IsGcExactImage (words_of device) → gc_call_events (words_of device) call reply ≡ [] →
    IsGcArena (began device) book left → stacks_of left.supply.stacks ≡ stacks_of was.supply.stacks → ((stacks : Stacks) → IsGcStepOf seat (words_of device) stacks (words_of device) stacks call reply) → IsGcAnswered seat now (meant begun left) call reply
answered_none {begun} {book} {left} {now} {seat} {call} {reply} device was view is exact none kept same placed =
    let words = words_of device in
    let still : IsEitherGcHeap words words words = record { sound = record { formed = exact.formed; sound = exact.exact.sound }; bounds = refl; heap = inl (record { each = λ root. refl }); words = keeps_blocks words words exact.exact.sound (λ k high. refl) } in
    let did : IsQuietStep (began device) (began device) (gc_call_events words call reply) (IsEitherGcHeap words words) = step_by [] (gc_call_events words call reply) (sym none) (step_none kept.ready.quiet still) in
    let to : IsGcStepOf seat words (stacks_of was.supply.stacks) words (stacks_of left.supply.stacks) call reply = subst (λ s. IsGcStepOf seat words (stacks_of was.supply.stacks) words s call reply) (sym same) (placed (stacks_of was.supply.stacks)) in
    subst (λ s. IsGcAnswered seat now (meant s left) call reply) (sym is) (subst (λ (state : GcState). IsGcAnswered seat state (meant (began device) left) call reply) view (record { did = one_call exact did kept; step = to; keeps = still.words }))
