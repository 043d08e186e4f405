-- What a call has done, put together: by the place of its block.
use Rattle.std.proofs.Common.{◌==◌, ◌≡◌, ◌≢◌, ◌*◌, ◌/◌, ◌+◌, ◌%◌, ◌<◌, ◌≤◌, ℕ, true, false, cond, leb, List, [], Option, Some, refl, sym, ap, ◌∙◌, arith, ◌++◌, ◌&&◌}
use Rattle.arena_core.proofs.Common.{bounds_of-same, IsUnusedIn-same, ne_eqb, class_size, class_capacity, class_size-least, class_size-most, class_size-rises, Event, reading, PmemState, words_of, IsQuietStep, step_none, Tables, tables_of, stacks_of, Call, Reply, Bounds, Range, slab_block, is_old, heap, slabs, Holds, IsVacant, IsInSlab, IsSound, IsInSlab-held, SmallBlock, attach_events, detach_old_events, bounds_of, IsExactImage, IsEitherHeap, live_in, IsCurrent, IsArena, Volatile, IsStepOf, IsStepOfAny, IsDone, IsCalled, GivesRoot, KeepsSlabs, IsNamedSmall, IsHeldBy, range_held, IsNamedOld, sizes_of, start_at, place_events, take_events, placed_events, freed_events, call_events, line_after, tidy_events, OldBlock, Held, is_old-held, same_heap, counts_kept, normal_of-same}
use Rattle.std.proofs.lemmas.Bool.{lt-leb}
use Rattle.heap_model.specs.declared.call.Reply.TheVariants as replies
use Rattle.heap_check.specs.Heap.{slab_of}
use Rattle.heap_check.proofs.Geometry.{slab_of-here}
use Rattle.log_steps.proofs.Entries.{first_zero-is}
use Rattle.arena_core.specs.declared.plan.Held.TheVariants as holding
use Rattle.arena_core.proofs.Arenas.{slabs_kept}
use Rattle.arena_core.specs.Events.{is_small, class_for, block_at, fresh_events, morphed_events, unsmall_events, old_place}
use Rattle.heap_check.proofs.SmallPlaces.{no_old-held}
use Rattle.arena_core.proofs.HeldBlocks.{heap_held, class_holds, old_holds, class_detachable, old_detachable}
use Rattle.arena_core.proofs.LiveSlabs.{lives_kept}
use Rattle.heap_model.proofs.Slabbing.{one_number}
use Rattle.arena_core.proofs.LargeStages.{heap-takable}

-- a call that placed or freed a block, by its events
pub IsCalled-done : {old new : PmemState} {was done_left left : Volatile} {seat root : ℕ} {block : Option Range} {slab : ℕ → Option ℕ} {events : List Event} (call : Call) (reply : Reply) →
    IsDone old new done_left root block slab events → events ≡ call_events (words_of old) was.line call reply → left ≡ record done_left { line = left.line } → left.line ≡ line_after was.line reply → left.line < 8 →
    IsStepOf seat (words_of old) (stacks_of was.supply.stacks) (words_of new) (stacks_of done_left.supply.stacks) call reply → IsCalled old new was left seat call reply
IsCalled-done {old} {new} {was} {done_left} {left} {seat} {root} {block} {slab} {events} call reply done same left_is line_is few step = grind arith

-- sizes

-- that of a class is small
small_class : (class : ℕ) → class < 36 → is_small (class_size class) ≡ true
small_class class is_class = grind (arith, class_size-most)

-- large blocks
module _ (words : List ℕ) (line root start count : ℕ) (many : 2 ≤ count) where
  pub placed_large : placed_events words line root (16384 * start) (16384 * count) ≡ place_events words root start count
  placed_large = grind (arith, lt-leb)

  pub freed_large : freed_events words line root (16384 * start) (16384 * count) ≡ take_events words root start
  freed_large = grind arith

-- the line stays behind them
pub line_large : (line start count : ℕ) → 2 ≤ count → (line_after line (replies.Placed (16384 * start) (16384 * count)) ≡ line) × (line_after line (replies.Freed (16384 * start) (16384 * count)) ≡ line)
line_large line start count many = grind arith

-- a class is the least that holds its size
class_is : (class : ℕ) → class < 36 → class_for (class_size class) ≡ class
class_is class is_class = first_zero-is (λ k. cond (leb (class_size class) (class_size k)) 0 1) 36 class is_class (grind arith) (λ earlier before. grind (arith, class_size-rises))

-- small blocks

module _ (words : List ℕ) (line root : ℕ) (block : SmallBlock) (class : ℕ) (is_class : class < 36) (at : block.at ≡ (slab_block block.start class block.number).at) where
  abbrev t : Tables
  t = tables_of words

  abbrev range : Range
  range = slab_block block.start class block.number

  module _ (here : start_at t range.at ≡ block.start) where
    -- the block is found by its address
    found : block_at (start_at t range.at) range.at (class_size class) ≡ block
    found = grind (arith, class_size-least)

    pub placed_there : t.slab block.start ≡ true → (t.header block.start).class ≡ class → attach_events words line root block ≡ placed_events words line root range.at (class_size class)
    placed_there slab of_class = grind (arith, class_is, small_class, found)

    pub placed_morph : t.slab block.start ≡ true → (t.header block.start).class ≢ class → morphed_events words line root block class ≡ placed_events words line root range.at (class_size class)
    placed_morph slab of_other = grind (arith, ne_eqb, class_is, small_class, found)

    pub freed_there : is_old (t.header block.start) block.start range.at ≡ false → unsmall_events words line root block ≡ freed_events words line root range.at (class_size class)
    freed_there new = grind (arith, small_class, found)

-- the slab of a block
pub start_is : {b : Bounds} {t : Tables} → IsSound b t → (start class number : ℕ) → t.slab start ≡ true → class < 36 → number < class_capacity class → start_at t (slab_block start class number).at ≡ start
start_is {b} {t} sound start class number slab is_class below = slab_of-here sound start _ slab (grind arith) (grind (arith, class_size-least))

-- no slab has a vacant granule
vacant_none : {b : Bounds} (t : Tables) (start : ℕ) → 3 ≤ start → IsVacant b t start → t.slab (slab_of t.slab start) ≡ false
unfolding slab_of
vacant_none {b} t start high vacant = grind arith

-- the first block of a slab that is opened
pub placed_fresh : (b : Bounds) (words : List ℕ) (line root start class : ℕ) → class < 36 → 3 ≤ start → IsVacant b (tables_of words) start →
    fresh_events words line root start class ≡ placed_events words line root (slab_block start class 0).at (class_size class)
placed_fresh b words line root start class is_class high vacant =
    let granule : (slab_block start class 0).at / 16384 ≡ start = omega arith in
    grind (arith, small_class, class_is, vacant_none (tables_of words) start high vacant)

-- the line behind a small block
pub line_small : (line at class : ℕ) → class < 36 → (line_after line (replies.Placed at (class_size class)) ≡ (line + 1) % 8) × (line_after line (replies.Freed at (class_size class)) ≡ (line + 1) % 8)
line_small line at class is_class = grind (arith, small_class)

-- what a root names

-- a block of a slab is the root's in the heap
module _ (words : List ℕ) (image : IsExactImage words) (root : ℕ) (block : SmallBlock) (class : ℕ) (named : IsNamedSmall (bounds_of words) (tables_of words) root block class) where
  abbrev at_class : Range
  at_class = slab_block block.start class block.number

  -- no live old block begins where it does
  pub named_new : is_old ((tables_of words).header block.start) block.start at_class.at ≡ false
  named_new = rw named.class_is at (no_old-held image.exact.sound image.exact.closed block.start block.number named.slab (class_detachable image named).block_in.below (class_holds (class_detachable image named)))

  -- it lies in the slab, and is the root's in the heap
  pub named_lies : IsInSlab (tables_of words) block.start at_class.at × (heap (tables_of words) root ≡ Some at_class)
  named_lies =
      let held : Holds (tables_of words) block.start at_class = grind (arith, class_holds, class_detachable) in
      (IsInSlab-held image.exact.sound block.start at_class held, heap_held image.exact.sound image.exact.closed root block.start at_class held (named.named ∙ named.at))

-- so is an old one
module _ (words : List ℕ) (image : IsExactImage words) (root : ℕ) (block : OldBlock) (class : ℕ) (named : IsNamedOld (bounds_of words) (tables_of words) root block class) where
  abbrev at_old : Range
  at_old = record { at = block.at; size = class_size class }

  pub old_lies : IsInSlab (tables_of words) block.start block.at × (heap (tables_of words) root ≡ Some at_old)
  old_lies =
      let held : Holds (tables_of words) block.start at_old = grind (arith, old_holds, old_detachable) in
      (IsInSlab-held image.exact.sound block.start at_old held, heap_held image.exact.sound image.exact.closed root block.start at_old held named.named)

  -- its class is another than that of the slab now
  pub old_differs : class ≢ ((tables_of words).header block.start).class
  old_differs same = grind arith

  abbrev other_there : ℕ → ℕ
  other_there place = cond (((tables_of words).header block.start).live place && ((slab_block block.start ((tables_of words).header block.start).old (((tables_of words).header block.start).number place)).at == block.at)) 0 1

  -- it is the first of the index table that begins there
  old_place_is : old_place (tables_of words) block.start block.at ≡ block.place
  old_place_is =
      let valid = image.exact.sound.slabs block.start named.slab in
      let number = λ (place : ℕ). one_number block.start ((tables_of words).header block.start).old (((tables_of words).header block.start).number place) (((tables_of words).header block.start).number block.place) (omega (arith, class_size-least _ valid.state.is_old_class)) in
      first_zero-is other_there ((tables_of words).header block.start).index_count block.place named.place.below (grind arith) (λ place before none. let one = number place in grind arith)

  pub freed_old : (line : ℕ) → (detach_old_events (tables_of words) line root block.at block.start block.place ++ tidy_events (reading words (detach_old_events (tables_of words) line root block.at block.start block.place)) block.start)
      ≡ freed_events words line root block.at (class_size class)
  freed_old line =
      let here = slab_of-here image.exact.sound block.start (block.at / 16384) named.slab (omega (arith, old_lies.0)) (omega (arith, old_lies.0)) in
      grind (arith, small_class, old_place_is, is_old-held ((tables_of words).header block.start) block.start block.at at_old)

-- so is what a root holds
pub held_heap : (words : List ℕ) → IsExactImage words → (root : ℕ) (held : Held) → IsHeldBy (bounds_of words) (tables_of words) root held → heap (tables_of words) root ≡ Some (range_held held)
held_heap words image root (holding.Large start count) taken = heap-takable (bounds_of words) (tables_of words) root start count (omega (arith, (sizes_of words image.formed).first)) taken
held_heap words image root (holding.Small block class) named = (named_lies words image root block class named).1
held_heap words image root (holding.Old block class) named = (old_lies words image root block class named).1

-- a large block was given or taken
pub IsDone-large : {old new : PmemState} {was left : Volatile} {root : ℕ} {block : Option Range} {events : List Event} → IsArena old was → left.supply ≡ was.supply → left.lives ≡ was.lives → ((s : ℕ) → live_in (words_of new) s ≡ live_in (words_of old) s) →
    IsQuietStep old new events (IsEitherHeap (words_of old) (words_of new)) → IsCurrent new left → GivesRoot (words_of old) root block (slabs (tables_of (words_of old))) (words_of new) → KeepsSlabs (words_of old) (words_of new) →
    IsDone old new left root block (slabs (tables_of (words_of old))) events
IsDone-large {old} {new} {was} {left} {root} {block} {events} arena same same_lives lives step kept gives keeps =
    let granules = ap (λ (b : Bounds). b.granules) (bounds_of-same (words_of old) (words_of new) gives.header) in
    let counts = counts_kept (words_of old) (words_of new) was.lives.counts granules lives arena.lives.counts in
    let lives_now = lives_kept (words_of old) (words_of new) was.lives was.lives counts arena.lives (λ s. refl) (λ s. normal_of-same (tables_of (words_of old)) (tables_of (words_of new)) s (keeps.each s)) refl (λ s class number. (IsUnusedIn-same (keeps.each s) class number).1) in
    record { step = step; current = kept; slabs = rw same (slabs_kept was.supply keeps granules arena.slabs); lives = rw same_lives lives_now; gives = gives }

-- a call that is refused
pub IsCalled-refused : {old : PmemState} {was : Volatile} {seat : ℕ} (call : Call) (reply : Reply) → IsArena old was →
    call_events (words_of old) was.line call reply ≡ [] → line_after was.line reply ≡ was.line → IsStepOfAny (words_of old) (words_of old) call reply → IsCalled old old was was seat call reply
IsCalled-refused {old} {was} {seat} call reply arena none stays step = record { carried = rw none (step_none arena.current.ready.quiet (same_heap (words_of old) (words_of old) arena.current.exact)); arena = arena; line_is = sym stays; step = step seat (stacks_of was.supply.stacks); keeps = grind arith }
