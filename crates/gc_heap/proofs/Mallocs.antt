-- A malloc was carried out, or refused: its events, its step, and what the arena keeps.
use Rattle.std.proofs.Common.{◌≡◌, ℕ, ◌/◌, ◌<◌, Bool, true, false, cond, List, [], ◌++◌, Some, None, Err, refl, sym, ap, subst, ◌∙◌, arith, inl, inr}
use Rattle.pmem_lines.specs.Pmem.{PmemState, words_of}
use Rattle.size_classes.specs.Classes.{class_size, class_capacity}
use Rattle.size_classes.proofs.Spacing.{class_size-least}
use Rattle.image_tables.specs.Tables.{Tables}
use Rattle.book_log.specs.Book.{Book}
use Rattle.log_steps.specs.Log.{IsBookOf}
use Rattle.heap_model.specs.declared.call.Call.TheVariants as calls
use Rattle.heap_model.specs.declared.call.Reply.TheVariants as replies
use Rattle.heap_model.specs.Machine.{Range, Machine, slab_block}
use Rattle.heap_model.specs.Choice.{Site, range_of, slabs_with}
use Rattle.heap_model.specs.Placement.{Stacks, IsPlacedStep, AreSound}
use Rattle.heap_model.specs.Step.{with_block}
use Rattle.heap_model.proofs.Slabbing.{LiesIn-block}
use Rattle.thread_cache.specs.Stacks.{stacks_of}
use Rattle.block_supply.specs.Supply.{Supply}
use Rattle.heap_indexes.specs.Indexes.{Indexes, AreIndexesOf}
use Rattle.heap_indexes.specs.Steps.{site_of, HasPlaced}
use Rattle.heap_indexes.specs.declared.answer.Place.{Place}
use Rattle.heap_indexes.specs.declared.answer.Place.TheVariants.{Granules, InSlab, InMorph, InNewSlab}
use Rattle.heap_check.specs.Image.{bounds_of}
use Rattle.arena_core.specs.declared.answer.MallocRefusal.{MallocRefusal}
use Rattle.arena_core.specs.declared.answer.MallocRefusal.TheVariants.{NoRoot, Occupied, ZeroSize, TooLarge, NoSpace}
use Rattle.arena_core.specs.Answer.{malloc_reply}
use Rattle.arena_core.specs.Call.{IsReady}
use Rattle.arena_core.specs.Events.{start_at}
use Rattle.gc_check.specs.Heap.{gc_tables}
use Rattle.gc_check.specs.Image.{IsGcExactImage}
use Rattle.gc_check.specs.State.{gc_slabs, HasGcState, KeepsGcBlocks}
use Rattle.gc_steps.specs.Roots.{root_events}
use Rattle.gc_heap.specs.Answered.{IsGcStepOf}
use Rattle.gc_heap.specs.Arena.{state_in, IsGcArena}
use Rattle.gc_heap.specs.Events.{placed_events, gc_call_events}
use Rattle.gc_heap.specs.Plan.{HasPlaceFor, IsRequest, word_of_place, prepare_events, IsPlacedWords, IsGcMallocPlan}
use Rattle.gc_heap.proofs.NewSlabs.{first_number}
use Rattle.gc_heap.proofs.Places.{apart, in_reach, slab_there, fit_creatable}
use Rattle.gc_heap.proofs.Sizes.{first_sizes}
use Rattle.gc_heap.proofs.Starts.{slab_is, placed_large, placed_there, placed_morph, placed_new}
use Rattle.gc_heap.proofs.States.{state_of_image, indexes_in}
use Rattle.gc_heap.proofs.Stepped.{after_call, AreSound-in, sound_after, slabs_with_same}

-- what the indexes found, of each state of the words
abbrev pub HasFound : List ℕ → (seat size : ℕ) → Indexes → Place → Indexes → Type 0
HasFound words seat size old place left = (m : Machine) → HasGcState words m → HasPlaced (bounds_of words) m seat size old (site_of place) left

-- it is a place for a request
pub place_for : {words : List ℕ} {seat size : ℕ} {old left : Indexes} {place : Place} → HasFound words seat size old place left → HasPlaceFor words place
place_for {words} {seat} {size} {old} {left} {place} found = record { size = size; chosen = (found (state_in words) (state_of_image words)).chosen }

-- events

class_there : (t : Tables) (start class : ℕ) → cond (t.slab start) (Some (t.header start).class) None ≡ Some class → (t.header start).class ≡ class
class_there t start class is = by (t.slab start) is
  where
    by : (here : Bool) → cond here (Some (t.header start).class) None ≡ Some class → (t.header start).class ≡ class
    by true is = cc
    by false is = absurd (cc)

-- the slab that has the block of a place in it
slab_at : {words : List ℕ} → IsGcExactImage words → (start own class number : ℕ) → gc_slabs words start ≡ Some own → class < 36 → number < class_capacity class → start_at (gc_tables words) (slab_block start class number).at ≡ start
slab_at {words} image start own class number slab few within =
    let lies = LiesIn-block start class (slab_block start class number) (record { number = number; within = within; is = refl }) in
    slab_is image.exact.sound start ((slab_block start class number).at / 16384) (slab_there (gc_tables words) start own slab) (omega (arith, lies.low)) (omega (arith, lies.high, class_size-least class few))

-- those of a malloc, by its place and by its block
pub placed_are : {words : List ℕ} {seat size : ℕ} {old left : Indexes} (place : Place) (root : ℕ) → IsGcExactImage words → AreSound (record { machine = state_in words; stacks = stacks_of old.supply.stacks }) → HasFound words seat size old place left →
    (prepare_events words place ++ root_events root (word_of_place place)) ≡ placed_events words root (range_of (site_of place)).at (range_of (site_of place)).size
placed_are {words} {seat} {size} {old} {left} (Granules start granules) root image sound found = placed_large words root start granules (in_reach image (Granules start granules) (place_for found)).0
placed_are {words} {seat} {size} {old} {left} (InSlab start class number) root image sound found =
    let is = (found (state_in words) (state_of_image words)).chosen in
    let few = is.least.is_class in
    placed_there words root start class number few (slab_at image start class class number is.slab few is.block.within) (slab_there (gc_tables words) start class is.slab) (class_there (gc_tables words) start class is.slab)
placed_are {words} {seat} {size} {old} {left} (InMorph start class number) root image sound found =
    let is = (found (state_in words) (state_of_image words)).chosen in
    let few = is.least.is_class in
    let fit = is.best.fit in
    placed_morph words root start class number few (slab_at image start fit.class class number fit.slab few is.block.within) (slab_there (gc_tables words) start fit.class fit.slab)
    (λ same. fit.differs (sym same ∙ class_there (gc_tables words) start fit.class fit.slab))
placed_are {words} {seat} {size} {old} {left} (InNewSlab start class number) root image sound found =
    let placed = found (state_in words) (state_of_image words) in
    let is = placed.chosen in
    let vacant = (fit_creatable image start 4 is.fit).vacant start (omega arith) (omega arith) in
    let first : number ≡ 0 = first_number (apart image) sound is refl root (class_size class) (with_block (state_in words) root (site_of (InNewSlab start class number))) (placed.stacked root) in
    subst (λ n. (prepare_events words (InNewSlab start class n) ++ root_events root (word_of_place (InNewSlab start class n))) ≡ placed_events words root (slab_block start class n).at (class_size class)) (sym first)
    (placed_new words root (bounds_of words) start class is.least.is_class (omega (arith, vacant.low, (first_sizes words image.formed).first)) vacant)

-- the step

module _ {words new : List ℕ} {root seat size : ℕ} {place : Place} {old left : Indexes} (image : IsGcExactImage words) (request : IsRequest words root size) (found : HasFound words seat size old place left)
    (placed : IsPlacedWords words root place new) (keeps : KeepsGcBlocks words new) where
  abbrev site : Site
  site = site_of place

  abbrev range : Range
  range = range_of site

  -- from any state of the words
  placed_from : (m : Machine) → HasGcState words m → IsPlacedStep (bounds_of words) seat (record { machine = m; stacks = stacks_of old.supply.stacks }) (calls.Malloc root size) (replies.Placed range.at range.size) (record { machine = with_block m root site; stacks = stacks_of left.supply.stacks })
  placed_from m state =
      let there = found m state in
      let none = sym (state.blocks root) ∙ request.none in
      record {
        step = inr ((λ past. omega (arith, past, request.rooted)), inr ((λ held. absurd (let named = held.named in cc)), inr (request.some, inr ((λ many. omega (arith, many, request.fits)), inl (record { site = site; chosen = there.chosen; is = refl; after = refl })))));
        stacked = there.stacked root;
      }

  pub placed_step : IsGcStepOf seat words (stacks_of old.supply.stacks) new (stacks_of left.supply.stacks) (calls.Malloc root size) (replies.Placed range.at range.size)
  placed_step = record {
    bounds = placed.bounds;
    each = λ m state. (
      with_block m root site,
      placed_from m state,
      after_call root (Some range) (slabs_with m.slab site) state keeps placed.blocks (λ s. placed.slabs s ∙ slabs_with_same state site s),
    );
  }

  -- what the arena keeps
  pub placed_arena : {device : PmemState} (book : Book) → words_of device ≡ new → IsReady device → IsBookOf book (words_of device) → seat < 64 → AreSound (record { machine = state_in words; stacks = stacks_of old.supply.stacks }) → IsGcArena device book left
  placed_arena {device} book is ready log is_seat sound =
      let b = bounds_of words in
      let m = state_in words in
      let next = with_block m root site in
      let are = (found m (state_of_image words)).indexes root request.rooted request.none in
      record {
        ready = ready;
        exact = subst IsGcExactImage (sym is) placed.image;
        log = log;
        are = subst (λ ws. AreIndexesOf (bounds_of ws) (state_in ws) left) (sym is) (indexes_in new next left placed.bounds placed.blocks placed.slabs are);
        sound = subst (λ ws. AreSound (record { machine = state_in ws; stacks = stacks_of left.supply.stacks })) (sym is) (AreSound-in new next (stacks_of left.supply.stacks) placed.blocks placed.slabs
            (sound_after b seat (record { machine = m; stacks = stacks_of old.supply.stacks }) (record { machine = next; stacks = stacks_of left.supply.stacks }) (calls.Malloc root size) (replies.Placed range.at range.size) is_seat (apart image) sound (placed_from m (state_of_image words))));
      }

-- a refusal

pub refused_events : (words : List ℕ) (root size : ℕ) (refusal : MallocRefusal) → gc_call_events words (calls.Malloc root size) (malloc_reply (Err refusal)) ≡ []
refused_events words root size NoRoot = refl
refused_events words root size (Occupied at) = refl
refused_events words root size ZeroSize = refl
refused_events words root size TooLarge = refl
refused_events words root size NoSpace = refl

module _ (words : List ℕ) (seat root size : ℕ) (old left : Indexes) where
  pub refused_malloc : (refusal : MallocRefusal) → IsGcMallocPlan words seat root size old (Err refusal) left → (stacks : Stacks) → IsGcStepOf seat words stacks words stacks (calls.Malloc root size) (malloc_reply (Err refusal))
  refused_malloc NoRoot plan stacks = record {
    bounds = refl;
    each = λ m state. (m, record { step = inl (plan.0, (refl, refl)); stacked = inr ((λ gave. absurd (let is = gave.is in cc)), refl) }, state);
  }
  refused_malloc (Occupied at) plan stacks = record {
    bounds = refl;
    each = λ m state.
        let is = plan.0.1 in (
          m,
          record {
            step = inr ((λ past. omega (arith, past, plan.0.0)), inl (record { range = is.0; named = sym (state.blocks root) ∙ is.1 }, (ap (λ a. replies.Occupied a) is.2, refl)));
            stacked = inr ((λ gave. absurd (let is = gave.is in cc)), refl);
          },
          state,
        );
  }
  refused_malloc ZeroSize plan stacks = record {
    bounds = refl;
    each = λ m state.
        let none = sym (state.blocks root) ∙ plan.0.1 in (
          m,
          record {
            step = inr ((λ past. omega (arith, past, plan.0.0)), inr ((λ held. absurd (let named = held.named in cc)), inl (plan.0.2, (refl, refl))));
            stacked = inr ((λ gave. absurd (let is = gave.is in cc)), refl);
          },
          state,
        );
  }
  refused_malloc TooLarge plan stacks = record {
    bounds = refl;
    each = λ m state.
        let none = sym (state.blocks root) ∙ plan.0.1 in (
          m,
          record {
            step = inr ((λ past. omega (arith, past, plan.0.0)), inr ((λ held. absurd (let named = held.named in cc)), inr (plan.0.2, inl (plan.0.3, (refl, refl)))));
            stacked = inr ((λ gave. absurd (let is = gave.is in cc)), refl);
          },
          state,
        );
  }
  refused_malloc NoSpace plan stacks = record {
    bounds = refl;
    each = λ m state.
        let request = plan.0 in
        let none = sym (state.blocks root) ∙ request.none in (
          m,
          record {
            step = inr ((λ past. omega (arith, past, request.rooted)), inr ((λ held. absurd (let named = held.named in cc)), inr (request.some, inr ((λ many. omega (arith, many, request.fits)), inr ((plan.1 m state).none, (refl, refl))))));
            stacked = inr ((λ gave. absurd (let is = gave.is in cc)), refl);
          },
          state,
        );
  }

  -- the same blocks may be given out, and the indexes are those of the same state

  pub refused_supply : (refusal : MallocRefusal) → IsGcMallocPlan words seat root size old (Err refusal) left → left.supply ≡ old.supply
  refused_supply NoRoot plan = ap (λ (x : Indexes). x.supply) plan.1
  refused_supply (Occupied at) plan = ap (λ (x : Indexes). x.supply) plan.1
  refused_supply ZeroSize plan = ap (λ (x : Indexes). x.supply) plan.1
  refused_supply TooLarge plan = ap (λ (x : Indexes). x.supply) plan.1
  refused_supply NoSpace plan = (plan.1 (state_in words) (state_of_image words)).supply

  refused_are : (refusal : MallocRefusal) → IsGcMallocPlan words seat root size old (Err refusal) left → AreIndexesOf (bounds_of words) (state_in words) old → AreIndexesOf (bounds_of words) (state_in words) left
  refused_are NoRoot plan are = subst (AreIndexesOf (bounds_of words) (state_in words)) (sym plan.1) are
  refused_are (Occupied at) plan are = subst (AreIndexesOf (bounds_of words) (state_in words)) (sym plan.1) are
  refused_are ZeroSize plan are = subst (AreIndexesOf (bounds_of words) (state_in words)) (sym plan.1) are
  refused_are TooLarge plan are = subst (AreIndexesOf (bounds_of words) (state_in words)) (sym plan.1) are
  refused_are NoSpace plan are = (plan.1 (state_in words) (state_of_image words)).indexes

  pub refused_arena : {device : PmemState} {book : Book} (refusal : MallocRefusal) → words_of device ≡ words → IsGcMallocPlan words seat root size old (Err refusal) left → IsGcArena device book old → IsGcArena device book left
  refused_arena {device} {book} refusal is plan arena = record {
    ready = arena.ready;
    exact = arena.exact;
    log = arena.log;
    are = subst (λ ws. AreIndexesOf (bounds_of ws) (state_in ws) left) (sym is) (refused_are refusal plan (subst (λ ws. AreIndexesOf (bounds_of ws) (state_in ws) old) is arena.are));
    sound = subst (λ (stacks : Stacks). AreSound (record { machine = state_in (words_of device); stacks = stacks })) (sym (ap (λ (s : Supply). stacks_of s.stacks) (refused_supply refusal plan))) arena.sound;
  }
