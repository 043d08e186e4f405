-- A free was carried out, or refused: its events, its step, and what the arena keeps.
use Rattle.std.proofs.Common.{◌≡◌, ℕ, ◌/◌, ◌<◌, ◌≤◌, List, [], Some, None, Err, refl, sym, subst, ◌∙◌, arith, inl, inr, ⊎_elim}
use Rattle.std.proofs.lemmas.Bool.{cases_lt}
use Rattle.pmem_lines.specs.Pmem.{PmemState, words_of}
use Rattle.book_log.specs.Book.{Book}
use Rattle.log_steps.specs.Log.{IsBookOf}
use Rattle.heap_model.specs.declared.call.Call.TheVariants as calls
use Rattle.heap_model.specs.declared.call.Reply.TheVariants as replies
use Rattle.heap_model.specs.Machine.{Range, Machine}
use Rattle.heap_model.specs.Placement.{Stacks, IsPlacedStep, AreSound}
use Rattle.heap_model.specs.Step.{slabs_without, without_block}
use Rattle.heap_model.proofs.Maps.{with_key-here}
use Rattle.thread_cache.specs.Stacks.{stacks_of}
use Rattle.heap_indexes.specs.Indexes.{Indexes, AreIndexesOf}
use Rattle.heap_indexes.specs.Steps.{IsGivenBy}
use Rattle.heap_indexes.specs.declared.answer.Given.{Given}
use Rattle.heap_indexes.specs.declared.answer.Given.TheVariants as given
use Rattle.heap_check.specs.Image.{bounds_of}
use Rattle.arena_core.specs.declared.answer.FreeRefusal.{FreeRefusal}
use Rattle.arena_core.specs.declared.answer.FreeRefusal.TheVariants.{NoRoot, Empty}
use Rattle.arena_core.specs.Answer.{free_reply}
use Rattle.arena_core.specs.Call.{IsReady}
use Rattle.gc_check.specs.Image.{IsGcExactImage}
use Rattle.gc_check.specs.State.{gc_blocks, gc_slabs, HasGcState, KeepsGcBlocks}
use Rattle.gc_check.proofs.ExactStates.{law_of_exact_gc_state}
use Rattle.gc_heap.specs.Answered.{IsGcStepOf}
use Rattle.gc_heap.specs.Arena.{state_in, IsGcArena}
use Rattle.gc_heap.specs.Events.{freed_events, gc_call_events}
use Rattle.gc_heap.specs.Plan.{HasGivenAs, IsFreedWords, IsGcFreePlan, given_events}
use Rattle.gc_heap.proofs.Freed.{begins_here, is_slab_t, no_other, home, home_slab, home_lies, other_here}
use Rattle.gc_heap.proofs.Places.{apart}
use Rattle.gc_heap.proofs.Starts.{slab_is, has_other-some, has_other-none, freed_block, freed_last, freed_large}
use Rattle.gc_heap.proofs.States.{state_of_image, indexes_of, indexes_in}
use Rattle.gc_heap.proofs.Stepped.{after_call, AreSound-in, sound_after, slabs_same}
use Rattle.gc_heap.proofs.RootBlocks.{root_named}

-- the events of a free, by what came back and by the block
pub given_are : {words : List ℕ} {root : ℕ} {range : Range} (what : Given) → IsGcExactImage words → HasGivenAs words root range what → given_events words root what ≡ freed_events words root range.at range.size
given_are {words} {root} {range} (given.Granules start) image has = freed_large words root start range.at range.size has.as_what.0 has.as_what.1
given_are {words} {root} {range} given.Block image has =
    let start = (home image has.rooted has.named has.as_what.0 has.as_what.1).0 in
    let slab = home_slab image has.rooted has.named has.as_what.0 has.as_what.1 in
    let lies = home_lies image has.rooted has.named has.as_what.0 has.as_what.1 in
    let other = other_here image has.rooted has.named has.as_what.0 has.as_what.1 in
    let small : range.size ≤ 16384 = ⊎_elim (λ (large : 16384 < range.size). absurd (has.as_what.0 large)) (λ less. less) (cases_lt 16384 range.size) in
    freed_block words root start range.at range.size small (slab_is image.exact.sound start (range.at / 16384) slab (omega (arith, lies.0)) (omega (arith, lies.1)))
    (has_other-some words root start other (root_named words image other.other other.some))
given_are {words} {root} {range} (given.Slab start) image has =
    let class = has.as_what.1.0 in
    let slab = has.as_what.1.1 in
    let gone : slabs_without (bounds_of words) (state_in words) root range start ≡ None = has.as_what.2 start ∙ with_key-here (gc_slabs words) start None in
    let lies = begins_here image has.rooted has.named start class slab gone in
    let there = is_slab_t image has.rooted has.named start class slab gone in
    let small : range.size ≤ 16384 = ⊎_elim (λ (large : 16384 < range.size). absurd (has.as_what.0 large)) (λ less. less) (cases_lt 16384 range.size) in
    freed_last words root start range.at range.size small (slab_is image.exact.sound start (range.at / 16384) there (omega (arith, lies.0)) (omega (arith, lies.1)))
    (has_other-none words root start there (no_other image has.rooted has.named start class slab gone))

-- what came back, of a root's block
pub given_as : {words : List ℕ} {root seat : ℕ} {range : Range} {what : Given} {old left : Indexes} → IsGcExactImage words → root < (bounds_of words).roots → gc_blocks words root ≡ Some range → AreIndexesOf (bounds_of words) (state_in words) old → IsGivenBy seat range old what left →
    HasGivenAs words root range what
given_as {words} {root} {seat} {range} {what} {old} {left} image below named are back = record { rooted = below; named = named; as_what = (back (bounds_of words) (state_in words) root (apart image) are named).1 }

-- the step

module _ {words new : List ℕ} {root seat : ℕ} {range : Range} {what : Given} {old left : Indexes} (image : IsGcExactImage words) (has : HasGivenAs words root range what) (are : AreIndexesOf (bounds_of words) (state_in words) old)
    (back : IsGivenBy seat range old what left) (freed : IsFreedWords words root range new) (keeps : KeepsGcBlocks words new) where
  -- from any state of the words
  freed_from : (m : Machine) → HasGcState words m → IsPlacedStep (bounds_of words) seat (record { machine = m; stacks = stacks_of old.supply.stacks }) (calls.Free root) (replies.Freed range.at range.size) (record { machine = without_block (bounds_of words) m root range; stacks = stacks_of left.supply.stacks })
  freed_from m state =
      let named = sym (state.blocks root) ∙ has.named in
      let given = back (bounds_of words) m root (law_of_exact_gc_state words m image state) (indexes_of state old are) named in
      record { step = inr ((λ past. omega (arith, past, has.rooted)), inl (record { range = range; named = named }, (refl, refl))); stacked = inl (record { range = range; is = refl }, given.0.stacked) }

  pub freed_step : IsGcStepOf seat words (stacks_of old.supply.stacks) new (stacks_of left.supply.stacks) (calls.Free root) (replies.Freed range.at range.size)
  freed_step = record {
    bounds = freed.bounds;
    each = λ m state. (
      without_block (bounds_of words) m root range,
      freed_from m state,
      after_call root None (slabs_without (bounds_of words) m root range) state keeps freed.blocks (λ s. freed.slabs s ∙ slabs_same state root range s),
    );
  }

  -- what the arena keeps
  pub freed_arena : {device : PmemState} (book : Book) → words_of device ≡ new → IsReady device → IsBookOf book (words_of device) → seat < 64 → AreSound (record { machine = state_in words; stacks = stacks_of old.supply.stacks }) → IsGcArena device book left
  freed_arena {device} book is ready log is_seat sound =
      let b = bounds_of words in
      let m = state_in words in
      let free = apart image in
      let given = (back b m root free are has.named).0 in
      let next = without_block b m root range in
      let step = freed_from m (state_of_image words) in
      record {
        ready = ready;
        exact = subst IsGcExactImage (sym is) freed.image;
        log = log;
        are = subst (λ ws. AreIndexesOf (bounds_of ws) (state_in ws) left) (sym is) (indexes_in new next left freed.bounds freed.blocks freed.slabs given.indexes);
        sound = subst (λ ws. AreSound (record { machine = state_in ws; stacks = stacks_of left.supply.stacks })) (sym is) (AreSound-in new next (stacks_of left.supply.stacks) freed.blocks freed.slabs
            (sound_after b seat (record { machine = m; stacks = stacks_of old.supply.stacks }) (record { machine = next; stacks = stacks_of left.supply.stacks }) (calls.Free root) (replies.Freed range.at range.size) is_seat free sound step));
      }

-- a refusal

pub refused_events : (words : List ℕ) (root : ℕ) (refusal : FreeRefusal) → gc_call_events words (calls.Free root) (free_reply (Err refusal)) ≡ []
refused_events words root NoRoot = refl
refused_events words root Empty = refl

pub refused_free : (words : List ℕ) (seat root : ℕ) (refusal : FreeRefusal) → IsGcFreePlan words root (Err refusal) → (stacks : Stacks) → IsGcStepOf seat words stacks words stacks (calls.Free root) (free_reply (Err refusal))
refused_free words seat root NoRoot past stacks = record {
  bounds = refl;
  each = λ m state. (m, record { step = inl (past, (refl, refl)); stacked = inr ((λ took. absurd (let is = took.is in cc)), refl) }, state);
}
refused_free words seat root Empty plan stacks = record {
  bounds = refl;
  each = λ m state. (
    m,
    record {
      step = inr ((λ past. omega (arith, past, plan.0)), inr ((λ held. absurd (let named = held.named in let none = sym (state.blocks root) ∙ plan.1 in cc)), (refl, refl)));
      stacked = inr ((λ took. absurd (let is = took.is in cc)), refl);
    },
    state,
  );
}
