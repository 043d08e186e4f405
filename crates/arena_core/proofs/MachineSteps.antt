-- What a call means to the heap machine: the step from the state that the old words have to one that the new words have.
use Rattle.std.proofs.Common.{◌≡◌, ◌≢◌, ◌*◌, ◌<◌, ℕ, Bool, List, Option, Some, None, Err, refl, sym, ap, ◌∙◌, arith, inl, inr, ⊎_elim}
use Rattle.arena_core.proofs.Common.{Tables, tables_of, Call, Reply, Range, Machine, with_key, view_of, Site, IsSite, range_of, slabs_with, slabs_without, forgotten, class_size, class_capacity, slab_block, class_small, stacks_of, Supply, supply_view, TookBlock, HasNoOpen, IsSlabsOf, heap, slabs, IsInSlab, bounds_of, IsExactImage, HasState, is_large-start, malloc_reply, free_reply, IsStepOf, IsStepOfAny, slabs_but, stacks_but, IsLastOf, GivesRoot, IsAskedOf, tables_view, IsTakable, IsFreePlan, Granules, InSlab, InMorph, InNewSlab, IsClassOf, Stacks, without_left, IsReturned, AgreeOnBlocks, law_of_exact_state, MallocRefusal, NoSpace, FreeRefusal, iff_then, named_at, block_view}
use Rattle.heap_model.specs.declared.call.Call.TheVariants as calls
use Rattle.heap_model.specs.declared.call.Reply.TheVariants as replies
use Rattle.heap_model.specs.Step.{with_block, without_block, IsStep}
use Rattle.heap_model.specs.Placement.{GaveSmall, IsStacked}
use Rattle.heap_model.proofs.Sites.{IsStep-granted}
use Rattle.heap_model.proofs.Views.{IsSite-same, HasNoSite-same}
use Rattle.arena_core.proofs.Plans.{slab_of_set, block_is}
use Rattle.arena_core.proofs.StackSteps.{way_fresh, way_morph, returned_small, returned_old, IsPutBack, IsSuppliedFresh, IsSuppliedMorph}
use Rattle.arena_core.specs.declared.answer.MallocRefusal.TheVariants.{NoRoot, Occupied, ZeroSize, TooLarge}
use Rattle.arena_core.specs.Plan.{IsMallocPlan}
use Rattle.block_supply.proofs.Ways.{way_there}
use Rattle.heap_model.proofs.LeftSlabs.{returned_large}
use Rattle.heap_check.proofs.States.{naming, naming_slab, nameless, after_call, fit_clear, tables_agree, slabs_without-large, slabs_without-other, slabs_without-none}

-- the new words have the state in which the root has this block, and these are the slabs
pub HasState-gives : (old new : List ℕ) (root : ℕ) (block : Option Range) (slab : ℕ → Option ℕ) (m : Machine) (next : ℕ → Option ℕ) → HasState old m → GivesRoot old root block slab new → ((start : ℕ) → slab start ≡ next start) →
    HasState new (record { block = with_key m.block root block; slab = next; value = forgotten m.value root })
HasState-gives old new root block slab m next state gives same = grind (arith, after_call)

-- malloc

-- the reply where a block is placed
abbrev pub placed_reply : Range → Reply
placed_reply range = replies.Placed range.at range.size

-- what became of the supply where a block is placed at a site
abbrev pub IsServedAt : Tables → Supply → Supply → ℕ → Site → Type 0
IsServedAt t was next seat (Granules start count) = next.stacks ≡ was.stacks
IsServedAt t was next seat (InSlab start class number) = TookBlock was seat class (record { start = start; number = number }) next
IsServedAt t was next seat (InMorph start class number) = HasNoOpen was class × IsSuppliedMorph t was next seat start class number
IsServedAt t was next seat (InNewSlab start class number) = HasNoOpen was class × IsSuppliedFresh was next seat start class × (number ≡ 0)

-- a block is placed at a site
pub placed_step : (old new : List ℕ) (was next : Supply) (seat root size : ℕ) (site : Site) → IsExactImage old → IsSlabsOf was old → IsAskedOf (bounds_of old) (tables_of old) root size → IsSite (tables_view (bounds_of old) (tables_of old)) size site →
    IsServedAt (tables_of old) was next seat site → GivesRoot old root (Some (range_of site)) (slabs_with (slabs (tables_of old)) site) new → IsStepOf seat old (stacks_of was.stacks) new (stacks_of next.stacks) (calls.Malloc root size) (placed_reply (range_of site))
placed_step old new was next seat root size site image supply asked chosen served gives = record {
  header = gives.header;
  each = λ m state.
      let fits = IsSite-same (tables_view (bounds_of old) (tables_of old)) (view_of (bounds_of old) m) (tables_agree image state) size site chosen in (
        with_block m root site,
        record { step = IsStep-granted (bounds_of old) m root size asked.below (nameless state root asked.none) asked.some asked.most site fits; stacked = stacked m state site fits served },
        HasState-gives old new root _ _ m (slabs_with m.slab site) state gives (λ s. grind (arith, state.slabs s)),
      );
}
  where
    agree : (m : Machine) → HasState old m → AgreeOnBlocks (supply_view was) (block_view (view_of (bounds_of old) m))
    agree m state = record { slab = grind arith; unused = λ s c n slab within. let is = slab_of_set supply s c slab in iff_then (block_is supply s c n is.0 is.1 within) ((tables_agree image state).unused s c c n (sym (supply.classes s) ∙ slab) within) }

    gave : (start class number : ℕ) → IsClassOf size class → GaveSmall size (placed_reply (slab_block start class number))
    gave start class number least = record { class = class; least = least; at = (slab_block start class number).at; given = class_size class; is = refl }

    stacked : (m : Machine) (state : HasState old m) (site : Site) → IsSite (view_of (bounds_of old) m) size site → IsServedAt (tables_of old) was next seat site →
        IsStacked (bounds_of old) seat (record { machine = m; stacks = stacks_of was.stacks }) (calls.Malloc root size) (placed_reply (range_of site)) (record { machine = with_block m root site; stacks = stacks_of next.stacks })
    stacked m state (Granules start count) site served = inr (λ gave. class_small size gave.class gave.least site.large, ap stacks_of served)
    stacked m state (InSlab start class number) site served = inl (gave start class number site.least, way_there (bounds_of old) m was next seat class (agree m state) (record { start = start; number = number }) served)
    stacked m state (InMorph start class number) site served =
        inl (gave start class number site.least, way_morph (bounds_of old) m was next seat class (agree m state) (tables_of old) start number served.0 site.best served.1 (λ n within. (tables_agree image state).unused start site.best.fit.class class n (state.slabs start ∙ site.best.fit.slab) within))
    stacked m state (InNewSlab start class number) site served =
        inl (gave start class number site.least, rw served.2 (way_fresh (bounds_of old) m was next seat class (agree m state) start served.0 site.no_fit served.1 (λ n below. fit_clear image state start class n below site.fit) site.fit))

-- a refusal is a step that changes nothing
refused_step : (words : List ℕ) (call : Call) (reply : Reply) → ((seat : ℕ) (m : Machine) (stacks : Stacks) → HasState words m → IsStacked (bounds_of words) seat (record { machine = m; stacks = stacks }) call reply (record { machine = m; stacks = stacks })) → ((m : Machine) → HasState words m → IsStep (bounds_of words) m call reply m) → IsStepOfAny words words call reply
refused_step words call reply none step seat stacks = record { header = refl; each = λ m state. (m, record { step = step m state; stacked = none seat m stacks state }, state) }

-- a malloc is refused
pub refused_malloc : (words : List ℕ) (root size : ℕ) (refusal : MallocRefusal) → IsExactImage words → IsMallocPlan (bounds_of words) (tables_of words) root size (Err refusal) →
    IsStepOfAny words words (calls.Malloc root size) (malloc_reply (Err refusal))
refused_malloc words root size refusal image plan = refused_step words (calls.Malloc root size) (malloc_reply (Err refusal)) (λ seat m stacks state. grind arith) (λ m state. step m state refusal plan)
  where
    step : (m : Machine) → HasState words m → (refusal : MallocRefusal) → IsMallocPlan (bounds_of words) (tables_of words) root size (Err refusal) →
        IsStep (bounds_of words) m (calls.Malloc root size) (malloc_reply (Err refusal)) m
    step m state NoRoot past = grind arith
    step m state (Occupied at) held = inr (grind arith, inl (record { range = _; named = named_at image state root at held.1 held.2 }, (refl, refl)))
    step m state ZeroSize zero_size = let none = nameless state root zero_size.1 in inr (grind arith, inr (grind arith, inl (zero_size.2, (refl, refl))))
    step m state TooLarge big = let none = nameless state root big.1 in inr (grind arith, inr (grind arith, inr (grind arith, inl (big.2, (refl, refl)))))
    step m state NoSpace full =
        let none = nameless state root full.0.none in
        inr (grind arith, inr (grind arith, inr (full.0.some, inr (grind arith, inr (HasNoSite-same (tables_view (bounds_of words) (tables_of words)) (view_of (bounds_of words) m) (tables_agree image state) size full.1, (refl, refl))))))

-- free

-- a free of this block leaves these stacks, whatever the state is
abbrev pub Returns : List ℕ → Stacks → (seat root : ℕ) → Range → Stacks → Type 0
Returns words was seat root range after = (m : Machine) → HasState words m → m.block root ≡ Some range → IsReturned (without_block (bounds_of words) m root range) (without_left (bounds_of words) m (without_block (bounds_of words) m root range) was) seat range after

-- a block is freed, whose slabs stay or go as the machine's do, and the stacks as the placement's
pub freed_step : (old new : List ℕ) (was after : Stacks) (seat root : ℕ) (range : Range) (slab : ℕ → Option ℕ) → root < (bounds_of old).roots → heap (tables_of old) root ≡ Some range →
    ((m : Machine) → HasState old m → m.block root ≡ Some range → (s : ℕ) → slab s ≡ slabs_without (bounds_of old) m root range s) →
    Returns old was seat root range after → GivesRoot old root None slab new → IsStepOf seat old was new after (calls.Free root) (replies.Freed range.at range.size)
freed_step old new was after seat root range slab below named same returned gives = record {
  header = gives.header;
  each = λ m state.
      let block = naming state root range named in (
        without_block (bounds_of old) m root range,
        record { step = inr (grind arith, inl (record { range = range; named = block }, (refl, refl))); stacked = inl (record { range = range; is = refl }, returned m state block) },
        HasState-gives old new root None slab m (slabs_without (bounds_of old) m root range) state gives (same m state block),
      );
}

-- the slabs stay where a large block goes
pub large_stays : (words : List ℕ) (root start count : ℕ) → IsExactImage words → IsTakable (bounds_of words) (tables_of words) root start count → (m : Machine) → HasState words m →
    m.block root ≡ Some (record { at = 16384 * start; size = 16384 * count }) → (s : ℕ) → slabs (tables_of words) s ≡ slabs_without (bounds_of words) m root (record { at = 16384 * start; size = 16384 * count }) s
large_stays words root start count image taken m state named s =
    state.slabs s ∙ sym (slabs_without-large image state root _ named (rw taken.named (is_large-start (tables_of words).large start (omega (arith, taken.live, taken.many)))) s)

-- they stay, or the block's slab goes, where a small block goes
pub small_stays : (words : List ℕ) (root start : ℕ) (range : Range) (gone : Bool) → IsExactImage words → IsInSlab (tables_of words) start range.at → IsLastOf (tables_of words) root start gone → (m : Machine) → HasState words m →
    m.block root ≡ Some range → (s : ℕ) → slabs_but (slabs (tables_of words)) start gone s ≡ slabs_without (bounds_of words) m root range s
small_stays words root start range gone image inside last m state named s = ⊎_elim
    (λ empty. grind (arith, empty.0, slabs_without-none image state root start range inside empty.1 s))
    (λ more. grind (arith, more.0, slabs_without-other image state root start range inside more.1 s))
    last.is

-- so a large block goes on no stack
pub large_returned : (words : List ℕ) (stacks : Stacks) (seat root start count : ℕ) → IsExactImage words → IsTakable (bounds_of words) (tables_of words) root start count → Returns words stacks seat root (record { at = 16384 * start; size = 16384 * count }) stacks
large_returned words stacks seat root start count image taken m state named =
    let range : Range = record { at = 16384 * start; size = 16384 * count } in
    returned_large (bounds_of words) m (without_block (bounds_of words) m root range) stacks seat range (omega (arith, taken.many)) (λ s. sym (large_stays words root start count image taken m state named s) ∙ state.slabs s)

-- behind a block of a slab the slabs are the state's, or all but one
slabs_but_state : (words : List ℕ) (m : Machine) → HasState words m → (start : ℕ) (gone : Bool) (s : ℕ) → slabs_but (slabs (tables_of words)) start gone s ≡ slabs_but m.slab start gone s
slabs_but_state words m state start gone s = grind arith

-- a block of its slab's class goes on the seat's stack, where that has room and the slab stays
pub small_returned : (words : List ℕ) (stacks after : Stacks) (seat root start class number : ℕ) (gone : Bool) → IsExactImage words → let t = tables_of words in let range = slab_block start class number in
    (t.header start).class ≡ class → number < class_capacity class → IsInSlab t start range.at → IsLastOf t root start gone → IsPutBack stacks seat class range.at start gone after → Returns words stacks seat root range after
small_returned words stacks after seat root start class number gone image class_is within inside last back m state named =
    let range = slab_block start class number in
    returned_small (bounds_of words) m (law_of_exact_state words m image state) start class range (naming_slab state start inside.slab ∙ ap (λ c. Some c) class_is) inside.low inside.high
    (without_block (bounds_of words) m root range) stacks after seat gone (λ s. sym (small_stays words root start range gone image inside last m state named s) ∙ slabs_but_state words m state start gone s)
    (record { number = number; within = within; is = refl }) back

-- an old one goes on none
pub old_returned : (words : List ℕ) (stacks after : Stacks) (seat root start old : ℕ) (range : Range) (gone : Bool) → IsExactImage words → old < 36 → old ≢ ((tables_of words).header start).class → range.size ≡ class_size old → IsInSlab (tables_of words) start range.at →
    IsLastOf (tables_of words) root start gone → after ≡ stacks_but stacks start gone → Returns words stacks seat root range after
old_returned words stacks after seat root start old range gone image is_class differ wide inside last is m state named =
    returned_old (bounds_of words) m (law_of_exact_state words m image state) start ((tables_of words).header start).class range (naming_slab state start inside.slab) inside.low inside.high
    (without_block (bounds_of words) m root range) stacks after seat old gone (λ s. sym (small_stays words root start range gone image inside last m state named s) ∙ slabs_but_state words m state start gone s) is_class differ wide is

-- a free is refused
pub refused_free : (words : List ℕ) (root : ℕ) (refusal : FreeRefusal) → IsFreePlan (bounds_of words) (tables_of words) root (Err refusal) →
    IsStepOfAny words words (calls.Free root) (free_reply (Err refusal))
refused_free words root refusal plan = refused_step words (calls.Free root) (free_reply (Err refusal)) (λ seat m stacks state. grind arith) (λ m state. grind (arith, nameless))
