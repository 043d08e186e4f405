-- Parts of recovery, one after another.
use Rattle.std.proofs.Common.{◌≡◌, ◌⊎◌, ◌+◌, ◌≤◌, ℕ, List, [], ◌++◌, length, refl, ap, subst, ◌∙◌, arith, inl, inr, ⊎_elim, length-append}
use Rattle.pmem_lines.specs.declared.event.Event.{Event}
use Rattle.recovery_steps.proofs.Common.{PmemState, words_of, appended, step_none, step_then, step_wider, step_end, Tables, tables_of, IsSteadyImage, HasNone, KeepsHeap, KeepsHeap-then, LeavesHeap, Book, IsBookOf, entry_is}
use Rattle.pmem_lines.specs.Events.{IsQuiet}
use Rattle.pmem_lines.specs.Steps.{IsQuietStep}
use Rattle.heap_check.specs.State.{HaveSameHeap, IsEitherHeap}
use Rattle.pmem_lines.proofs.States.{appended_none}
use Rattle.recovery_steps.specs.Parts.{PartMayBegin, IsPart, KeepsClasses, Does, Then}
use Rattle.recovery_steps.specs.Recovery.{TakesOne, IsSettling, SettlesOpen, FinishesMorphing, DropsLarge, DropsSlab, EndsDone, Recovers}

-- nothing is stored
pub part_none : {s : PmemState} (Stores : List ℕ → List Event → Type 0) (most : ℕ) → IsQuiet s.events → IsSteadyImage (words_of s) → Stores (words_of s) [] → IsPart KeepsHeap s s Stores most
part_none {s} Stores most quiet image stores = record {
  events = [];
  stores = stores;
  few = omega arith;
  step = step_none quiet (record { steady = image; bounds = refl; heap = record { each = λ root. refl }; blocks = record { each = λ root other range k was is word. refl } });
}

-- a step that keeps the heap
pub part_of : {s t : PmemState} (Stores : List ℕ → List Event → Type 0) {most : ℕ} {events : List Event} → Stores (words_of s) events → IsQuietStep s t events (KeepsHeap (words_of s)) → length events ≤ most → IsPart KeepsHeap s t Stores most
part_of Stores {most} {events} stores step few = record { events = events; stores = stores; few = few; step = step }

-- the heap is kept where it is the one of before or of afterwards, and both are the same
either_keeps : (words new image : List ℕ) → HaveSameHeap words new → IsEitherHeap words new image → KeepsHeap words image
either_keeps words new image same is = record {
  steady = is.steady;
  bounds = is.bounds;
  heap = ⊎_elim (λ old. old) (λ other. record { each = λ root. other.each root ∙ same.each root }) is.heap;
  blocks = is.words;
}

pub drop_step : {s t : PmemState} {events : List Event} → HaveSameHeap (words_of s) (words_of t) → IsQuietStep s t events (IsEitherHeap (words_of s) (words_of t)) → IsQuietStep s t events (KeepsHeap (words_of s))
drop_step {s} {t} same step = step_wider (λ image is. either_keeps (words_of s) (words_of t) image same is) step

-- two parts, where of the whole is said what follows from what is said of each of them
both_parts : {s t u : PmemState} {Front Back : List ℕ → List ℕ → Type 0} {First Second : List ℕ → List Event → Type 0} {m n : ℕ} (Leaves : List ℕ → List ℕ → Type 0) (most : ℕ) → m + n ≤ most →
    IsPart Front s t First m → IsPart Back t u Second n → ((image : List ℕ) → Front (words_of s) image → Leaves (words_of s) image) → ((image : List ℕ) → Back (words_of t) image → Leaves (words_of s) image) → IsPart Leaves s u (Then First Second) most
both_parts {s} {t} {u} {Front} {Back} {First} {Second} {m} {n} Leaves most is first second before behind = record {
  events = first.events ++ second.events;
  stores = record {
    front = first.events;
    back = second.events;
    is = refl;
    first = first.stores;
    second = subst (λ (ws : List ℕ). Second ws second.events) first.step.appends.words second.stores;
  };
  few = omega (arith, is, first.few, second.few, length-append first.events second.events);
  step = step_then (Leaves (words_of s)) (λ ws. second.events) first.step second.step before behind;
}

-- and then another
pub part_then : {s t u : PmemState} {First Second : List ℕ → List Event → Type 0} {m n : ℕ} (most : ℕ) → m + n ≤ most → IsPart KeepsHeap s t First m → IsPart KeepsHeap t u Second n → IsPart KeepsHeap s u (Then First Second) most
part_then {s} {t} most is first second =
    both_parts KeepsHeap most is first second (λ image kept. kept) (λ image kept. KeepsHeap-then (words_of s) (words_of t) image (step_end first.step) kept)

-- how many events a part adds, and that the room is the same
pub adds_few : {s t : PmemState} {Leaves : List ℕ → List ℕ → Type 0} {Stores : List ℕ → List Event → Type 0} {m : ℕ} → IsPart Leaves s t Stores m → (length t.events ≤ length s.events + m) × (t.room ≡ s.room)
adds_few part = (omega (arith, part.few, part.step.appends.count), part.step.appends.room)

-- what a part takes: nothing, or one thing

pub takes_none : {IsLoose : ℕ → Type 0} {taken : ℕ → List Event} → HasNone IsLoose → TakesOne IsLoose taken []
takes_none none = inl (none, refl)

pub takes_one : {IsLoose : ℕ → Type 0} {taken : ℕ → List Event} (start : ℕ) → IsLoose start → TakesOne IsLoose taken (taken start)
takes_one start here = inr (record { start = start; here = here; is = refl })

-- one thing that was found is taken
pub does_one : {s t : PmemState} {found : List ℕ} {log : Book} {Leaves Left : List ℕ → List ℕ → Type 0} {most : ℕ} (IsLoose : Tables → ℕ → Type 0) (taken : List ℕ → ℕ → List Event) (start : ℕ) → found ≡ words_of s → IsLoose (tables_of found) start →
    IsQuietStep s t (taken (words_of s) start) (Leaves (words_of s)) → length t.events ≤ length s.events + most →
    (IsLoose (tables_of (words_of s)) start → Left (words_of s) (words_of t) × IsBookOf log (words_of t)) → Does log Leaves Left s t (λ words events. TakesOne (IsLoose (tables_of words)) (taken words) events) most
does_one {s} IsLoose taken start same is step few done =
    let here = subst (λ (ws : List ℕ). IsLoose (tables_of ws) start) same is in
    record {
      part = record { events = taken (words_of s) start; stores = takes_one start here; few = omega (arith, few, step.appends.count); step = step };
      left = (done here).0;
      book = (done here).1;
    }

-- nothing is stored where there is no such thing
pub does_none : {s : PmemState} {found : List ℕ} {log : Book} {Is : List ℕ → Type 0} {Left : List ℕ → List ℕ → Type 0} (IsLoose : Tables → ℕ → Type 0) (taken : List ℕ → ℕ → List Event) (most : ℕ) → PartMayBegin Is log s most → IsSteadyImage (words_of s) →
    found ≡ words_of s → HasNone (IsLoose (tables_of found)) → (HasNone (IsLoose (tables_of (words_of s))) → Left (words_of s) (words_of s)) → Does log KeepsHeap Left s s (λ words events. TakesOne (IsLoose (tables_of words)) (taken words) events) most
does_none {s} IsLoose taken most begins image same is left =
    let none = subst (λ (ws : List ℕ). HasNone (IsLoose (tables_of ws))) same is in
    record {
      part = part_none (λ words events. TakesOne (IsLoose (tables_of words)) (taken words) events) most begins.quiet image (takes_none none);
      left = left none;
      book = begins.book;
    }

-- from a sound image: first it becomes steady
pub part_after : {s t u : PmemState} {First Second : List ℕ → List Event → Type 0} {m n : ℕ} (most : ℕ) → m + n ≤ most → IsPart LeavesHeap s t First m → KeepsHeap (words_of s) (words_of t) → IsPart KeepsHeap t u Second n → IsPart LeavesHeap s u (Then First Second) most
part_after {s} {t} most is first keeps second =
    both_parts LeavesHeap most is first second (λ image left. left) (λ image kept. λ steady. KeepsHeap-then (words_of s) (words_of t) image keeps kept)

-- where the first part stores nothing, all is done by the second
pub part_alone : {s t u : PmemState} {Leaves : List ℕ → List ℕ → Type 0} {First Second : List ℕ → List Event → Type 0} {m n : ℕ} (first : IsPart Leaves s t First m) → first.events ≡ [] → IsPart KeepsHeap t u Second n → IsPart KeepsHeap s u Second n
part_alone {s} {t} {u} {Leaves} {First} {Second} {m} {n} first none second =
    subst (λ (p : PmemState). IsPart KeepsHeap p u Second n) (first.step.appends.state ∙ ap (appended s) none ∙ appended_none s) second

-- nothing is taken where there is no such thing
pub none_taken : {IsLoose : ℕ → Type 0} {taken : ℕ → List Event} {events : List Event} → HasNone IsLoose → TakesOne IsLoose taken events → events ≡ []
none_taken none takes = ⊎_elim (λ nothing. nothing.1) (λ found. absurd (none.none found.start found.here)) takes

-- nothing is stored, in a sound image
pub leaves_none : {s : PmemState} {Stores : List ℕ → List Event → Type 0} {most : ℕ} → IsQuiet s.events → Stores (words_of s) [] → IsPart LeavesHeap s s Stores most
leaves_none {s} quiet stores = record {
  events = [];
  stores = stores;
  few = omega arith;
  step = step_none quiet (λ steady. record { steady = steady; bounds = refl; heap = record { each = λ root. refl }; blocks = record { each = λ root other range k was is word. refl } });
}

-- an entry is settled or a transition finished, not both
not_both : (words new : List ℕ) {settled finished : List Event} → IsSteadyImage words → KeepsClasses (tables_of words) (tables_of new) → SettlesOpen words settled → FinishesMorphing new finished → (settled ≡ []) ⊎ (finished ≡ [])
not_both words new image keeps settles finishes = ⊎_elim
    (λ closed. inl closed.1)
    (λ (settling : IsSettling words _).
    let opens = entry_is words settling.line settling.below settling.entry (record { image = image; here = settling.here }) in
    let none_morphing = (image.steady.sound.owned.open_entry settling.entry opens).none_morphing in
    inr (none_taken (record { none = λ start morphing. let was = keeps.morphing start morphing in none_morphing start was.slab was.kind }) finishes))
    settles

-- so few events do both
pub first_parts : {s t u : PmemState} (settled : IsPart KeepsHeap s t SettlesOpen 6) (finished : IsPart KeepsHeap t u FinishesMorphing 76) → IsSteadyImage (words_of s) → KeepsClasses (tables_of (words_of s)) (tables_of (words_of t)) → length settled.events + length finished.events ≤ 76
first_parts {s} {t} settled finished image keeps = ⊎_elim
    (λ none. omega (arith, ap length none, finished.few))
    (λ none. omega (arith, ap length none, settled.few))
    (not_both (words_of s) (words_of t) image keeps settled.stores finished.stores)

-- a part has as many as it has
counted : {s t : PmemState} {Stores : List ℕ → List Event → Type 0} {most : ℕ} (part : IsPart KeepsHeap s t Stores most) → IsPart KeepsHeap s t Stores (length part.events)
counted part = record { events = part.events; stores = part.stores; few = omega arith; step = part.step }

-- the five parts in their order
pub all_parts : {s t u v w x : PmemState} {m n : ℕ} (most : ℕ) → m + n + 79 ≤ most → IsSteadyImage (words_of s) → KeepsClasses (tables_of (words_of s)) (tables_of (words_of t)) → IsPart KeepsHeap s t SettlesOpen 6 → IsPart KeepsHeap t u FinishesMorphing 76 →
    IsPart KeepsHeap u v DropsLarge m → IsPart KeepsHeap v w DropsSlab n → IsPart KeepsHeap w x EndsDone 3 → IsPart KeepsHeap s x Recovers most
all_parts {s} {t} {u} {v} {w} {x} {m} {n} most few image keeps settled finished large slab ended =
    let both = first_parts settled finished image keeps in
    part_then most (omega (arith, few, both)) (counted settled) (part_then (length finished.events + (m + n + 3)) (omega arith) (counted finished) (part_then (m + n + 3) (omega arith) large (part_then (n + 3) (omega arith) slab ended)))
