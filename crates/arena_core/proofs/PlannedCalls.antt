-- What a malloc or a free has done, put together: a malloc by its plan, of which all but the supply of an arena is as it was,
-- and a free by what the root held.
use Rattle.std.proofs.Common.{◌≡◌, ℕ, ◌<◌, Option, Some, None, Result, Ok, Err, refl, sym, ap, subst, ◌∙◌, List, ◌+◌, ◌*◌, ◌%◌, inl, inr, ⊎_elim, arith, ◌++◌}
use Rattle.arena_core.proofs.Common.{bounds_of-same, place_events, placed_events, line_after, sizes_of, slabs, IsUnusedIn, attach_events, class_in, Site, IsSite, range_of, slabs_with, Event, PmemState, words_of, began, Tables, tables_of, class_size, class_capacity, Bounds, slab_block, class_small, Supply, MayBeGiven, HasSlabMore, HasSlabLess, TookBlock, Volatile, AreLivesOf, bounds_of, malloc_reply, IsCalled, IsHeldFor, IsDone, HasClassNow, IsSlabFor, SmallBlock, IsArena, IsAskedOf, tables_view, reading, stacks_of, IsPutOn, Range, heap, IsInSlab, OldBlock, detach_events, detach_old_events, free_reply, IsTaken, IsTidied, stacks_but, holds_none, take_events, freed_events, tidy_events, IsTakable, IsNamedSmall, IsNamedOld, IsFreePlan, open_events, none_open, morph_events, Granules, InSlab, InMorph, InNewSlab, Small, Morph, Fresh, MallocRefusal, NoSpace, MayOpen, MayTakeClass, FreeRefusal, slab_parts}
use Rattle.arena_core.proofs.StackSteps.{IsSuppliedFresh, IsSuppliedMorph}
use Rattle.arena_core.proofs.MachineSteps.{IsServedAt, placed_reply, placed_step, refused_malloc, Returns, refused_free, freed_step, large_stays, small_stays, large_returned, small_returned, old_returned}
use Rattle.arena_core.proofs.CallEvents.{IsCalled-done, IsCalled-refused, placed_large, line_large, placed_there, placed_morph, placed_fresh, start_is, line_small, freed_large, freed_there, named_lies, named_new, old_lies, old_differs, freed_old}
use Rattle.arena_core.proofs.Plans.{class_capacity-some}
use Rattle.block_supply.proofs.Firsts.{in_new, first_of}
use Rattle.heap_model.specs.declared.call.Call.TheVariants as calls
use Rattle.heap_model.specs.declared.call.Reply.TheVariants as replies
use Rattle.arena_core.specs.declared.plan.Place.{Place}
use Rattle.arena_core.specs.declared.plan.Place.TheVariants.{Large}
use Rattle.std.specs.Option.{ok_or}
use Rattle.arena_core.specs.Plan.{IsFound, IsSuppliedFor, IsPlanned, IsBlockAs, number_of}
use Rattle.arena_core.proofs.SmallCalls.{slabs_without}
use Rattle.arena_core.proofs.RootBlocks.{done_behind, last_taken, done_taken}
use Rattle.arena_core.proofs.LargeStages.{heap-takable}

-- what is found is a plan, and none where the heap has no place
pub planned_found : {device : PmemState} {was now : Volatile} {seat root size : ℕ} (place : Option Place) → IsArena device was → IsAskedOf (bounds_of (words_of device)) (tables_of (words_of device)) root size → IsSuppliedFor was.supply now.supply seat place → now ≡ record was { supply = now.supply; lives = now.lives } →
    AreLivesOf now.lives (words_of device) → IsFound (bounds_of (words_of device)) (tables_of (words_of device)) root size place → IsPlanned device (record was { lives = now.lives }) now seat root size (ok_or place NoSpace)
planned_found {device} {was} {now} {seat} {root} {size} place arena asked supplied rest lives found =
    let noted : IsArena device (record was { lives = now.lives }) = record { current = record { ready = arena.current.ready; exact = arena.current.exact; log = arena.current.log; index = arena.current.index }; slabs = arena.slabs; lives = lives; few = arena.few } in
    grind arith

-- what is found for whole granules takes nothing of the supply
pub supplied_found : (b : Bounds) (t : Tables) (root size : ℕ) (old : Supply) (seat : ℕ) (found : Option Place) → 16384 < size → IsFound b t root size found → IsSuppliedFor old old seat found
supplied_found b t root size old seat None large none = refl
supplied_found b t root size old seat (Some (Large start count)) large placing = refl
supplied_found b t root size old seat (Some (Small block class)) large placing = absurd (class_small size class placing.site.least large)
supplied_found b t root size old seat (Some (Morph start class)) large placing = absurd (class_small size class placing.site.least large)
supplied_found b t root size old seat (Some (Fresh start class)) large placing = absurd (class_small size class placing.site.least large)

-- where the supply stays, all does
pub all_same : (was now : Volatile) → now ≡ record was { supply = now.supply } → now.supply ≡ was.supply → now ≡ was
all_same was now rest same = rest ∙ ap (λ (s : Supply). record was { supply = s }) same

pub arena_same : {device : PmemState} (was now : Volatile) → IsArena device was → now ≡ record was { supply = now.supply } → now.supply ≡ was.supply → IsArena device now
arena_same {device} was now arena rest same = grind (arith, all_same)

-- the line of the next entry stays, and the counts
pub line_same : (was now : Volatile) → now ≡ record was { supply = now.supply } → now.line ≡ was.line
line_same was now rest = ap (λ (v : Volatile). v.line) rest

-- a block that was taken for the plan is held for the root
pub planned_held : {device : PmemState} {was now : Volatile} {seat root size class : ℕ} {block : SmallBlock} → IsPlanned device was now seat root size (Ok (Small block class)) → IsHeldFor device now root block
planned_held {device} {was} {now} {seat} {root} {size} {class} {block} planned = grind (arith, slabs_without block.start block.number planned.arena.slabs planned.supplied.without)

-- a slab of the class may come
pub may_open : {device : PmemState} {was now : Volatile} {seat root size start class : ℕ} → IsPlanned device was now seat root size (Ok (Fresh start class)) → MayOpen device now start class
may_open {device} {was} {now} planned = grind (arith, arena_same)

pub may_take_class : {device : PmemState} {was now : Volatile} {seat root size start class : ℕ} → IsPlanned device was now seat root size (Ok (Morph start class)) → MayTakeClass device now start class
may_take_class {device} {was} {now} planned = grind (arith, arena_same)

-- and is there for the root then
came_for : {old mid : PmemState} {was now part : Volatile} {seat root size start class : ℕ} {place : Place} {events : List Event} → IsPlanned old was now seat root size (Ok place) → class < 36 → HasClassNow old mid now part start class events →
    (number : ℕ) → MayBeGiven part.supply start number → ((s i : ℕ) → class_in part.supply.slabs s ≡ Some class → MayBeGiven part.supply s i → s ≡ start) → IsSlabFor mid part root start class
came_for {old} {mid} {was} {now} {part} {seat} {root} planned is_class came number is_open alone =
    let asked = planned.is.0 in
    record {
      arena = came.arena;
      lively = came.lively;
      few = omega (arith, came.line, line_same was now planned.rest, planned.arena.few);
      is_class = is_class;
      class_is = came.class_is;
      below = subst (λ (b : Bounds). root < b.roots) (sym (bounds_of-same (words_of old) (words_of mid) came.header)) asked.below;
      none = came.roots root ∙ asked.none;
      number = number;
      is_open = is_open;
      alone = alone;
    }

-- of a new slab all blocks are open
pub fresh_for : {old mid : PmemState} {was now part : Volatile} {seat root size start class : ℕ} {events : List Event} → IsPlanned old was now seat root size (Ok (Fresh start class)) → HasClassNow old mid now part start class events →
    HasSlabMore now.supply part.supply start class (λ i. i < class_capacity class) → IsSlabFor mid part root start class
fresh_for {old} {mid} {was} {now} {part} {seat} {root} {size} {start} {class} planned came more =
    let is_class = planned.is.1.site.least.is_class in
    came_for planned is_class came 0 ((more.here 0).1 (class_capacity-some class is_class)) (in_new (none_open now.supply class (rw planned.supplied.same planned.supplied.none)) more)

-- where none of a class was open, none is once a slab went
none_less : {old less : Supply} {start class : ℕ} → HasSlabLess old less start → ((s i : ℕ) → class_in old.slabs s ≡ Some class → ¬ (MayBeGiven old s i)) → (s i : ℕ) → class_in less.slabs s ≡ Some class → ¬ (MayBeGiven less s i)
none_less {old} {less} {start} {class} gone none s i slab is = grind (arith, none s i, gone.others s i)

-- of one that takes the class, those that are unused
pub morph_for : {old mid : PmemState} {was now part : Volatile} {seat root size start class : ℕ} {events : List Event} → IsPlanned old was now seat root size (Ok (Morph start class)) → HasClassNow old mid now part start class events →
    {less : Supply} → HasSlabLess now.supply less start → HasSlabMore less part.supply start class (λ i. (i < class_capacity class) × IsUnusedIn (tables_of (words_of old)) start class i) → IsSlabFor mid part root start class
morph_for {old} {mid} {was} {now} {part} {seat} {root} {size} {start} {class} planned came {less} gone more =
    let fit = planned.is.1.place_for.fit in
    let none = none_open now.supply class (rw planned.supplied.same planned.supplied.none) in
    let unused : IsUnusedIn (tables_of (words_of old)) start class fit.number = record { each = λ range holds. ⊎_elim inr inl (fit.block.unused.each range holds) } in
    came_for planned planned.is.1.site.least.is_class came fit.number ((more.here fit.number).1 (fit.block.within, unused)) (in_new (none_less gone none) more)

-- the plan is one for the state at the call's begin too
pub planned_begun : {device : PmemState} (begun : PmemState) {was now : Volatile} {seat root size : ℕ} {plan same : Result Place MallocRefusal} → begun ≡ began device → plan ≡ same → IsPlanned device was now seat root size plan → IsPlanned begun was now seat root size same
planned_begun {device} begun {was} {now} {seat} {root} {size} {plan} is told planned = grind arith

-- a plan that refuses changes nothing
pub refused_plan : {old : PmemState} {was now : Volatile} {seat root size : ℕ} (refusal : MallocRefusal) → IsPlanned old was now seat root size (Err refusal) → IsCalled old old was now seat (calls.Malloc root size) (malloc_reply (Err refusal))
refused_plan {old} {was} {now} {seat} {root} {size} refusal planned =
    rw (all_same was now planned.rest planned.supplied) (IsCalled-refused (calls.Malloc root size) (malloc_reply (Err refusal)) planned.arena (grind arith) (grind arith) (refused_malloc (words_of old) root size refusal planned.arena.current.exact planned.is))

-- a block was placed at a site
called_at : {old new : PmemState} {was now left : Volatile} {seat root size : ℕ} {place : Place} {events : List Event} → IsPlanned old was now seat root size (Ok place) → (site : Site) → IsSite (tables_view (bounds_of (words_of old)) (tables_of (words_of old))) size site →
    IsServedAt (tables_of (words_of old)) was.supply left.supply seat site → IsDone old new left root (Some (range_of site)) (slabs_with (slabs (tables_of (words_of old))) site) events → events ≡ placed_events (words_of old) was.line root (range_of site).at (range_of site).size →
    left.line ≡ line_after was.line (placed_reply (range_of site)) → IsCalled old new was left seat (calls.Malloc root size) (placed_reply (range_of site))
called_at {old} {new} {was} {now} {left} {seat} {root} {size} planned site is served done same line_is =
    let step = placed_step (words_of old) (words_of new) was.supply left.supply seat root size site planned.arena.current.exact planned.arena.slabs planned.is.0 is served done.gives in
    IsCalled-done (calls.Malloc root size) (placed_reply (range_of site)) done same refl line_is (let few = planned.arena.few in grind arith) step

-- whole granules
pub called_large : {old new : PmemState} {was now left : Volatile} {seat root size start count : ℕ} → IsPlanned old was now seat root size (Ok (Large start count)) →
    IsDone old new left root (Some (record { at = 16384 * start; size = 16384 * count })) (slabs (tables_of (words_of old))) (place_events (words_of old) root start count) → left.line ≡ now.line → left.supply ≡ now.supply →
    IsCalled old new was left seat (calls.Malloc root size) (replies.Placed (16384 * start) (16384 * count))
called_large {old} {new} {was} {now} {left} {seat} {root} {size} {start} {count} planned done line_is supply_is =
    let many = planned.is.1.place_for.many in
    called_at planned (Granules start count) planned.is.1.site (rw (supply_is, planned.supplied) refl) done (sym (placed_large (words_of old) was.line root start count many)) (rw (line_is, line_same was now planned.rest) (sym (line_large was.line start count many).0))

-- a block of a slab
pub called_small : {old new : PmemState} {was now left : Volatile} {seat root size class : ℕ} {block : SmallBlock} → IsPlanned old was now seat root size (Ok (Small block class)) →
    IsDone old new left root (Some (slab_block block.start class block.number)) (slabs (tables_of (words_of old))) (attach_events (words_of old) now.line root block) → left ≡ record now { lives = left.lives; line = (now.line + 1) % 8 } →
    IsCalled old new was left seat (calls.Malloc root size) (replies.Placed block.at (class_size class))
called_small {old} {new} {was} {now} {left} {seat} {root} {size} {class} {block} planned done left_is =
    let may = planned.is.1.place_for in
    let is_class = planned.is.1.site.least.is_class in
    let line_is = line_same was now planned.rest in
    let there = start_is planned.arena.current.exact.exact.sound block.start class block.number may.slab is_class may.below in
    rw may.at (called_at planned (InSlab block.start class block.number) planned.is.1.site (rw left_is planned.supplied) done (rw line_is (placed_there (words_of old) was.line root block class is_class may.at there may.slab may.class_is)) (grind (arith, line_small was.line block.at class is_class)))

-- a block of a slab that takes the class
pub called_morph : {old mid new : PmemState} {was now part left : Volatile} {seat root size start class : ℕ} (block : SmallBlock) → IsPlanned old was now seat root size (Ok (Morph start class)) →
    HasClassNow old mid now part start class (morph_events (tables_of (words_of old)) start class) →
    {less : Supply} → HasSlabLess now.supply less start → HasSlabMore less part.supply start class (λ i. (i < class_capacity class) × IsUnusedIn (tables_of (words_of old)) start class i) →
    IsBlockAs block start class block.number → TookBlock part.supply seat class (number_of block) left.supply →
    IsDone mid new left root (Some (slab_block start class block.number)) (slabs (tables_of (words_of mid))) (attach_events (words_of mid) part.line root block) → left.line ≡ (part.line + 1) % 8 →
    IsCalled old new was left seat (calls.Malloc root size) (replies.Placed block.at (class_size class))
called_morph {old} {mid} {new} {was} {now} {part} {left} {seat} {root} {size} {start} {class} block planned came {less} gone more lies took done left_line =
    let words = words_of old in
    let site = planned.is.1.site in
    let is_class = site.least.is_class in
    let line_is : part.line ≡ was.line = came.line ∙ line_same was now planned.rest in
    let here : TookBlock part.supply seat class (record { start = start; number = block.number }) left.supply = rw lies.start_is at took in
    let supplied : IsSuppliedMorph (tables_of words) was.supply left.supply seat start class block.number = grind arith in
    let both = (more.here block.number).0 here.was_open in
    let there = start_is planned.arena.current.exact.exact.sound start class block.number planned.is.1.place_for.slab is_class both.0 in
    let events = placed_morph words was.line root (record { start = start; number = block.number; at = (slab_block start class block.number).at }) class is_class refl there planned.is.1.place_for.slab (grind (arith, slab_parts)) in
    rw lies.at_is (called_at planned (InMorph start class block.number) (record { least = site.least; full = site.full; best = site.best; block = record { within = both.0; unused = both.1 } }) (planned.supplied.none, supplied)
    (done_behind (λ ws. attach_events ws part.line root block) came done) (rw (line_is, lies.start_is, lies.at_is) events) (left_line ∙ ap (λ n. (n + 1) % 8) line_is ∙ sym (line_small was.line block.at class is_class).0))

-- the first block of a slab that is opened
pub called_fresh : {old mid new : PmemState} {was now part left : Volatile} {seat root size start class : ℕ} (block : SmallBlock) → IsPlanned old was now seat root size (Ok (Fresh start class)) →
    HasClassNow old mid now part start class (open_events (words_of old) start class) → HasSlabMore now.supply part.supply start class (λ i. i < class_capacity class) →
    IsBlockAs block start class block.number → TookBlock part.supply seat class (number_of block) left.supply →
    IsDone mid new left root (Some (slab_block start class block.number)) (slabs (tables_of (words_of mid))) (attach_events (words_of mid) part.line root block) → left.line ≡ (part.line + 1) % 8 →
    IsCalled old new was left seat (calls.Malloc root size) (replies.Placed block.at (class_size class))
called_fresh {old} {mid} {new} {was} {now} {part} {left} {seat} {root} {size} {start} {class} block planned came more lies took done left_line =
    let words = words_of old in
    let row = planned.is.1.place_for in
    let is_class = planned.is.1.site.least.is_class in
    let line_is : part.line ≡ was.line = came.line ∙ line_same was now planned.rest in
    let zero = (first_of now.supply part.supply left.supply seat start class (rw planned.supplied.same planned.supplied.none) more is_class (class_capacity-some class is_class) (number_of block) took).1 in
    let at : block.at ≡ (slab_block start class 0).at = rw zero at lies.at_is in
    let first : block ≡ record { start = start; number = 0; at = 16384 * start + 2048 } = grind arith in
    let supplied : IsSuppliedFresh was.supply left.supply seat start class = grind arith in
    let events = placed_fresh (bounds_of words) words was.line root start class is_class (omega (arith, row.low, (sizes_of words planned.arena.current.exact.formed).first)) (row.vacant start (omega arith) (omega arith)) in
    rw at (called_at planned (InNewSlab start class 0) planned.is.1.site (planned.supplied.none, supplied, refl) (rw first at (done_behind (λ ws. attach_events ws part.line root block) came done)) (rw line_is events)
    (left_line ∙ ap (λ n. (n + 1) % 8) line_is ∙ sym (line_small was.line block.at class is_class).0))

-- a free

-- whole granules
pub freed_granules : {old new : PmemState} {was left : Volatile} {seat root start count : ℕ} → IsArena old was → IsTakable (bounds_of (words_of old)) (tables_of (words_of old)) root start count →
    IsDone old new left root None (slabs (tables_of (words_of old))) (take_events (words_of old) root start) → left.line ≡ was.line → left.supply ≡ was.supply → IsCalled old new was left seat (calls.Free root) (replies.Freed (16384 * start) (16384 * count))
freed_granules {old} {new} {was} {left} {seat} {root} {start} {count} arena taken done line_is supply_is =
    let words = words_of old in
    let exact = arena.current.exact in
    let stacks = stacks_of was.supply.stacks in
    let named = heap-takable (bounds_of words) (tables_of words) root start count (omega (arith, (sizes_of words exact.formed).first)) taken in
    let step = freed_step words (words_of new) stacks stacks seat root _ (slabs (tables_of words)) taken.below named (large_stays words root start count exact taken) (large_returned words stacks seat root start count exact taken) done.gives in
    IsCalled-done (calls.Free root) (replies.Freed (16384 * start) (16384 * count)) done (sym (freed_large words was.line root start count taken.many)) refl (line_is ∙ sym (line_large was.line start count taken.many).1) (omega (arith, line_is, arena.few)) (rw supply_is step)

-- a block of a slab, which was tidied
freed_block : {old mid new : PmemState} {was part left : Volatile} {root start : ℕ} {events : List Event} (seat class : ℕ) (range : Range) → IsArena old was → IsTaken old mid was part root start events → IsTidied mid new left start → left.line ≡ part.line →
    class < 36 → range.size ≡ class_size class → root < (bounds_of (words_of old)).roots → heap (tables_of (words_of old)) root ≡ Some range → IsInSlab (tables_of (words_of old)) start range.at →
    Returns (words_of old) (stacks_of was.supply.stacks) seat root range (stacks_of left.supply.stacks) → (events ++ tidy_events (reading (words_of old) events) start) ≡ freed_events (words_of old) was.line root range.at range.size →
    IsCalled old new was left seat (calls.Free root) (replies.Freed range.at range.size)
freed_block {old} {mid} {new} {was} {part} {left} {root} {start} {events} seat class range arena taken tidied same_line is_class wide rooted named inside returned same =
    let done = done_taken taken tidied in
    let step = freed_step (words_of old) (words_of new) (stacks_of was.supply.stacks) (stacks_of left.supply.stacks) seat root range _ rooted named (small_stays (words_of old) root start range _ arena.current.exact inside (last_taken taken)) returned done.gives in
    IsCalled-done (calls.Free root) (replies.Freed range.at range.size) done same refl (rw (wide, same_line, taken.line) (sym (line_small was.line range.at class is_class).1)) (omega (arith, same_line, taken.line)) step

-- of its class
pub freed_small : {old mid new : PmemState} {was part left : Volatile} {seat root class : ℕ} {block : SmallBlock} → IsArena old was → IsNamedSmall (bounds_of (words_of old)) (tables_of (words_of old)) root block class →
    IsTaken old mid was part root block.start (detach_events (words_of old) was.line root block) → IsPutOn (stacks_of was.supply.stacks) seat (((tables_of (words_of old)).header block.start).class) block.at (stacks_of part.supply.stacks) → IsTidied mid new left block.start → left.line ≡ part.line →
    stacks_of left.supply.stacks ≡ stacks_but (stacks_of part.supply.stacks) block.start (holds_none (tables_of (words_of mid)) block.start) → IsCalled old new was left seat (calls.Free root) (replies.Freed (slab_block block.start class block.number).at (class_size class))
freed_small {old} {mid} {new} {was} {part} {left} {seat} {root} {class} {block} arena named taken put tidied same_line stacks =
    let words = words_of old in
    let exact = arena.current.exact in
    let start = block.start in
    let is_class : class < 36 = omega (arith, named.class_is, (exact.exact.sound.slabs start named.slab).state.is_class) in
    let lies = named_lies words exact root block class named in
    freed_block seat class (slab_block start class block.number) arena taken tidied same_line is_class refl named.rooted lies.1 lies.0
    (small_returned words (stacks_of was.supply.stacks) (stacks_of left.supply.stacks) seat root start class block.number (holds_none (tables_of (reading words (detach_events words was.line root block))) start) exact named.class_is named.below lies.0 (last_taken taken)
    (record { mid = stacks_of part.supply.stacks; put = rw (named.class_is, named.at) at put; left = rw taken.step.appends.words at stacks }))
    (freed_there words was.line root block class is_class named.at (start_is exact.exact.sound start class block.number named.slab is_class named.below) (named_new words exact root block class named))

-- an old one
pub freed_old_block : {old mid new : PmemState} {was part left : Volatile} {seat root class : ℕ} {block : OldBlock} → IsArena old was → IsNamedOld (bounds_of (words_of old)) (tables_of (words_of old)) root block class →
    IsTaken old mid was part root block.start (detach_old_events (tables_of (words_of old)) was.line root block.at block.start block.place) → part.supply.stacks ≡ was.supply.stacks → IsTidied mid new left block.start → left.line ≡ part.line →
    stacks_of left.supply.stacks ≡ stacks_but (stacks_of part.supply.stacks) block.start (holds_none (tables_of (words_of mid)) block.start) → IsCalled old new was left seat (calls.Free root) (replies.Freed block.at (class_size class))
freed_old_block {old} {mid} {new} {was} {part} {left} {seat} {root} {class} {block} arena named taken kept tidied same_line stacks =
    let words = words_of old in
    let exact = arena.current.exact in
    let lies = old_lies words exact root block class named in
    freed_block seat class (record { at = block.at; size = class_size class }) arena taken tidied same_line named.is_class refl named.rooted lies.1 lies.0
    (old_returned words (stacks_of was.supply.stacks) (stacks_of left.supply.stacks) seat root block.start class _ _ exact named.is_class (old_differs words exact root block class named) refl lies.0 (last_taken taken) (rw (taken.step.appends.words, kept) at stacks))
    (freed_old words exact root block class named was.line)

-- a plan that refuses changes nothing
pub refused_held : {old : PmemState} {was : Volatile} {seat root : ℕ} (refusal : FreeRefusal) → IsArena old was → IsFreePlan (bounds_of (words_of old)) (tables_of (words_of old)) root (Err refusal) → IsCalled old old was was seat (calls.Free root) (free_reply (Err refusal))
refused_held {old} {was} {seat} {root} refusal arena plan = IsCalled-refused (calls.Free root) (free_reply (Err refusal)) arena (grind arith) (grind arith) (refused_free (words_of old) root refusal plan)
