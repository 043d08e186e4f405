-- Every placed step keeps the stacks sound: behind each call of a seat they are what the placement says that they are.
use Rattle.std.proofs.Common.{◌≡◌, ◌≢◌, ◌⊎◌, ◌==◌, ◌&&◌, ℕ, zero, suc, ◌+◌, ◌-◌, ◌*◌, ◌<◌, ◌≤◌, Bool, true, false, cond, true≢false, not, List, [], ◌∷◌, Some, None, Option, refl, sym, ap, ◌∙◌, subst, arith, inl, inr, ⊎_elim}
use Rattle.std.proofs.lemmas.Bool.{cases_eq, cases_lt, and_from}
use native.Mathlib.Nat.{mul-le-mul_right}
use Rattle.size_classes.specs.Classes.{class_size, class_capacity, IsClassOf}
use Rattle.size_classes.proofs.Spacing.{class_size-least}
use Rattle.heap_model.specs.declared.call.Call.{Call}
use Rattle.heap_model.specs.declared.call.Call.TheVariants.{Malloc, Free, Write, Read, Move}
use Rattle.heap_model.specs.declared.call.Reply.{Reply}
use Rattle.heap_model.specs.declared.call.Reply.TheVariants.{Placed, Freed}
use Rattle.heap_model.specs.Machine.{Bounds, Range, Machine, with_key, slab_block, AreApart, IsFreeGranule, IsOverlapFree}
use Rattle.heap_model.specs.Runs.{IsFreeRow}
use Rattle.heap_model.specs.Choice.{HasUnusedBlock, IsBestSlab, Site, range_of, IsSite, IsFromGranules, block_view, slab_view}
use Rattle.heap_model.specs.Choice.Site.{Granules, InSlab, InMorph, InNewSlab}
use Rattle.heap_model.specs.Slabs.{is_within, begins_in, live_below, view_of}
use Rattle.heap_model.specs.Step.{with_block, with_moved, without_block, IsGrant}
use Rattle.heap_model.specs.Placement.{Stacks, PlacedState, bare, with_stack, without_slab, without_left, with_class, has_left, addresses, Has, HasTop, HasStacked, HasAvailable, IsInNoStack, IsAvailable, IsRefill, IsMorphRefill, IsNewRefill, IsWay, GaveSmall, IsKeepable, IsReturned, IsStacked, IsPlacedStep, IsReserved, AreSound}
use Rattle.heap_model.specs.Journal.{LawOfNoStacks, LawOfSoundStacks}
use Rattle.heap_model.proofs.Maps.{with_key-cases, with_key-other}
use Rattle.heap_model.specs.Below.{any_below}
use Rattle.heap_model.proofs.Below.{any_below-true}
use Rattle.heap_model.proofs.AddressLists.{Has-filter, has_address, lowest_passes, lowest_few, addresses_rise}
use Rattle.heap_model.proofs.Distinct.{stack_here, stack_there, here_or_there, AreDistinct-popped, AreDistinct-put, AreDistinct-filled, AreDistinct-keeping, AreDistinct-none, top_gone}
use Rattle.heap_model.proofs.Sites.{best_once, best_slab_once, block_once, class_known, class_once, class_small}
use Rattle.heap_model.proofs.Placing.{with_range, rows_apart, moved_named}
use Rattle.heap_model.proofs.Slabbing.{IsOverlapFree-morph, IsOverlapFree-slab, LiesIn-block, blocks_apart}
use Rattle.heap_model.proofs.Freeing.{begins_in-here, left_named}
use Rattle.heap_model.proofs.Steps.{row_of_fit, step}
use Rattle.heap_model.proofs.Outcomes.{outcome, IsOfHeap, IsTaken}
use Rattle.heap_model.proofs.Outcomes.Outcome.{Stayed, Given, Taken, Written, Passed}

-- a state of the machine with stacks beside it
abbrev placed : Machine → Stacks → PlacedState
placed m stacks = record { machine = m; stacks = stacks }

-- blocks of slabs

-- a block of a slab lies in it
module _ (s c number : ℕ) (within : number < class_capacity c) where
  low : 16384 * s ≤ (slab_block s c number).at
  low = (LiesIn-block s c (slab_block s c number) (record { number = number; within = within; is = refl })).low

  high : (slab_block s c number).at + (slab_block s c number).size ≤ 16384 * s + 65536
  high = (LiesIn-block s c (slab_block s c number) (record { number = number; within = within; is = refl })).high

  some : 0 < (slab_block s c number).size
  some = omega (arith, class_size-least c (class_known c number within))

  begins : is_within s (slab_block s c number).at ≡ true
  begins = begins_in-here s (slab_block s c number) low (omega (arith, high, some))

-- one address is of one slab
one_slab : (b : Bounds) (m : Machine) (s t c d i j : ℕ) → IsOverlapFree b m → m.slab s ≡ Some c → m.slab t ≡ Some d → i < class_capacity c → j < class_capacity d → (slab_block s c i).at ≡ (slab_block t d j).at → s ≡ t
one_slab b m s t c d i j free first second is_block other at = ⊎_elim
    (λ same. same)
    (λ differ. absurd (⊎_elim
    (λ before. omega (arith, before, at, high s c i is_block, some s c i is_block, low t d j other))
    (λ behind. omega (arith, behind, at, high t d j other, some t d j other, low s c i is_block))
    (free.slabs_apart s t c d differ first second)))
    (cases_eq s t)

-- stacks beside a state

-- the state becomes another in which what is reserved stays reserved
AreSound-at : (m n : Machine) (stacks : Stacks) → AreSound (placed m stacks) → ((seat class at : ℕ) → Has (stacks seat class) at → IsReserved m class at → IsReserved n class at) → AreSound (placed n stacks)
AreSound-at m n stacks sound stays = record {
  distinct = sound.distinct;
  reserved = λ seat class at has. stays seat class at has (sound.reserved seat class at has);
}

-- so where its slabs are the same and each block was there
AreSound-fewer : (m n : Machine) (stacks : Stacks) → AreSound (placed m stacks) → ((seat class at : ℕ) → Has (stacks seat class) at → (r : IsReserved m class at) → n.slab r.start ≡ Some class) →
    ((root : ℕ) (range : Range) → n.block root ≡ Some range → (other : ℕ) × (m.block other ≡ Some range)) → AreSound (placed n stacks)
AreSound-fewer m n stacks sound slabs blocks = AreSound-at m n stacks sound (λ seat class at has r. record {
  start = r.start;
  slab = slabs seat class at has r;
  number = r.number;
  within = r.within;
  unused = record { each = λ root range named. let was = blocks root range named in r.unused.each was.0 range was.1 };
  is = r.is;
})

-- a block of a class that was reserved or available is out, and the stacks are sound without it
record IsOut (m : Machine) (class at : ℕ) (after : Stacks) : Type 0 where
  sound : AreSound (placed m after)
  block : IsReserved m class at
  loose : IsInNoStack after at

module _ (m : Machine) (stacks : Stacks) (sound : AreSound (placed m stacks)) where
  -- one stack becomes another of reserved blocks
  AreSound-with : (seat class : ℕ) (stack : List ℕ) → ((at : ℕ) → Has stack at → IsReserved m class at) → (other c at : ℕ) → Has (with_stack stacks seat class stack other c) at → IsReserved m c at
  AreSound-with seat class stack each other c at has = ⊎_elim
      (λ same. subst (λ (k : ℕ). IsReserved m k at) (sym same.1) (each at (subst (λ (xs : List ℕ). Has xs at) (stack_here stacks seat class other c stack same.0 same.1) has)))
      (λ is. sound.reserved other c at (subst (λ (xs : List ℕ). Has xs at) (stack_there stacks seat class other c stack is) has))
      (here_or_there seat class other c)

  -- a stack gives its top
  popped : (seat class at : ℕ) (after : Stacks) (top : HasTop stacks seat class) → at ≡ top.top → after ≡ with_stack stacks seat class top.rest → IsOut m class at after
  popped seat class at after top at_is after_is =
      let block : IsReserved m class top.top = sound.reserved seat class top.top (subst (λ (xs : List ℕ). Has xs top.top) (sym top.is) (inl refl)) in
      let is_seat : seat < 64 = ⊎_elim (λ below. below) (λ past. absurd (let none = sound.distinct.seated seat class past in let is = top.is in cc)) (cases_lt seat 64) in
      subst (λ (a : ℕ). IsOut m class a after) (sym at_is)
      (subst (λ (q : Stacks). IsOut m class top.top q) (sym after_is)
      (record {
        sound = record {
          distinct = AreDistinct-popped sound.distinct seat class top.top top.rest is_seat (class_known class block.number block.within) top.is;
          reserved = AreSound-with seat class top.rest (λ one has. sound.reserved seat class one (subst (λ (xs : List ℕ). Has xs one) (sym top.is) (inr has)));
        };
        block = block;
        loose = top_gone sound.distinct seat class top;
      }))

  -- a slab gives up to eight of its available blocks, of which one is out
  module _ (b : Bounds) (seat class at : ℕ) (after : Stacks) (is_seat : seat < 64) (fill : IsRefill (block_view (view_of b m)) stacks seat class at after) where
    abbrev Passes : ℕ → Type 0
    Passes = IsAvailable (block_view (view_of b m)) stacks fill.start class

    abbrev rest : List ℕ
    rest = addresses fill.start class fill.rest

    is_class : class < 36
    is_class = class_known class fill.number fill.taken.1.passes.block.within

    block_of : (number : ℕ) → Passes number → IsReserved m class (slab_block fill.start class number).at
    block_of number passes = record { start = fill.start; slab = fill.slab; number = number; within = passes.block.within; unused = passes.block.unused; is = refl }

    of_rest : (one : ℕ) → Has rest one → IsReserved m class one × IsInNoStack stacks one × ((slab_block fill.start class fill.number).at < one)
    of_rest one has =
        let it = has_address fill.start class fill.rest one has in
        let passes = lowest_passes Passes (fill.number + 1) 7 fill.rest it.number fill.taken.2 it.has in
        let rows : (fill.number + 1) * class_size class ≤ it.number * class_size class = mul-le-mul_right (class_size class) passes.1 in
        let next : (fill.number + 1) * class_size class ≡ fill.number * class_size class + class_size class = omega arith in
        let behind : (slab_block fill.start class fill.number).at < (slab_block fill.start class it.number).at = omega (arith, rows, next, class_size-least class is_class) in (
          subst (λ (a : ℕ). IsReserved m class a) (sym it.is) (block_of it.number passes.0),
          subst (λ (a : ℕ). IsInNoStack stacks a) (sym it.is) passes.0.loose,
          omega (arith, behind, it.is),
        )

    refilled : IsOut m class at after
    refilled =
        subst (λ (a : ℕ). IsOut m class a after) (sym fill.is)
        (subst (λ (q : Stacks). IsOut m class (slab_block fill.start class fill.number).at q) (sym fill.after_is)
        (record {
          sound = record {
            distinct = AreDistinct-filled sound.distinct seat class rest is_seat is_class (omega (arith, lowest_few Passes (fill.number + 1) 7 fill.start class fill.rest fill.taken.2))
                (addresses_rise Passes (fill.number + 1) 7 fill.start class fill.rest (omega (arith, class_size-least class is_class)) fill.taken.2)
                (record { each = λ one has. (of_rest one has).1 });
            reserved = AreSound-with seat class rest (λ one has. (of_rest one has).0);
          };
          block = block_of fill.number fill.taken.1.passes;
          loose = record {
            none = λ other c has. ⊎_elim
                (λ same. let above = (of_rest _ (subst (λ (xs : List ℕ). Has xs (slab_block fill.start class fill.number).at) (stack_here stacks seat class other c rest same.0 same.1) has)).2 in omega (arith, above))
                (λ is. fill.taken.1.passes.loose.none other c (subst (λ (xs : List ℕ). Has xs (slab_block fill.start class fill.number).at) (stack_there stacks seat class other c rest is) has))
                (here_or_there seat class other c);
          };
        }))

  -- a stack of a class that has a top, and so a first one
  top_or_none : (seat class : ℕ) → HasTop stacks seat class ⊎ (¬ (HasTop stacks seat class))
  top_or_none seat class = cases (stacks seat class) refl
    where
      cases : (xs : List ℕ) → stacks seat class ≡ xs → HasTop stacks seat class ⊎ (¬ (HasTop stacks seat class))
      cases [] is = inr (λ has. let other = has.is in cc)
      cases (x ∷ xs) is = inl (record { top = x; rest = xs; is = is })

  first_of : (class n : ℕ) → HasStacked stacks class ⊎ ((other : ℕ) → other < n → ¬ (HasTop stacks other class))
  first_of class zero = inr (λ other less. absurd (omega (arith, less)))
  first_of class (suc n) = ⊎_elim
      (λ found. inl found)
      (λ none. ⊎_elim
      (λ top. inl (record { seat = n; first = record { top = top; first = none } }))
      (λ bare. inr (λ other less top. ⊎_elim
      (λ (lower : other < n). none other lower top)
      (λ (last : n ≤ other). let same : other ≡ n = omega (arith, last, less) in bare (subst (λ (k : ℕ). HasTop stacks k class) same top))
      (cases_lt other n)))
      (top_or_none n class))
      (first_of class n)

  -- where none is available and no stack of the class has one, no block of the class is unused
  none_unused : (b : Bounds) (class : ℕ) → IsOverlapFree b m → ¬ (HasAvailable (block_view (view_of b m)) stacks class) → ¬ (HasStacked stacks class) → ¬ (HasUnusedBlock (block_view (view_of b m)) class)
  none_unused b class free no_block no_stack has = no_block (record {
    start = has.start;
    slab = has.slab;
    number = has.number;
    available = record {
      block = has.block;
      loose = record {
        none = λ seat c stands.
            let r = sound.reserved seat c (slab_block has.start class has.number).at stands in
            let same : r.start ≡ has.start = one_slab b m r.start has.start c class r.number has.number free r.slab has.slab r.within has.block.within (sym r.is) in
            let one : Some c ≡ Some class = sym r.slab ∙ ap m.slab same ∙ has.slab in
            let is : c ≡ class = cc in
            let stack = subst (λ (k : ℕ). Has (stacks seat k) (slab_block has.start class has.number).at) is stands in
            top_behind seat (stacks seat class) refl stack;
      };
    };
  })
    where
      top_behind : (seat : ℕ) (xs : List ℕ) → stacks seat class ≡ xs → Has (stacks seat class) (slab_block has.start class has.number).at → ⊥
      top_behind seat [] is stack = subst (λ (ys : List ℕ). Has ys (slab_block has.start class has.number).at) is stack
      top_behind seat (x ∷ xs) is stack = ⊎_elim no_stack (λ none. none seat (omega arith) (record { top = x; rest = xs; is = is })) (first_of class (seat + 1))

-- the slab at a start takes a class, and its addresses are gone
classed : (m : Machine) (stacks : Stacks) (start class : ℕ) → AreSound (placed m stacks) → AreSound (placed (with_class m start class) (without_slab stacks start))
classed m stacks start class sound = record {
  distinct = AreDistinct-keeping sound.distinct (λ at. not (is_within start at));
  reserved = λ seat c at has.
      let left = Has-filter (λ a. not (is_within start a)) (stacks seat c) at has in
      let r = sound.reserved seat c at left.0 in
      let other : r.start ≢ start = λ same.
      let inside : is_within start at ≡ true = ap (is_within start) r.is ∙ ap (λ s. is_within s (slab_block r.start c r.number).at) (sym same) ∙ begins r.start c r.number r.within in
      true≢false (sym left.1 ∙ ap not inside) in
      record { start = r.start; slab = with_key-other m.slab start r.start (Some class) other ∙ r.slab; number = r.number; within = r.within; unused = record { each = r.unused.each }; is = r.is };
}

-- a slab is made on free granules
made : (b : Bounds) (m : Machine) (stacks : Stacks) (start class : ℕ) → IsFreeRow (IsFreeGranule b m) start 4 → AreSound (placed m stacks) → AreSound (placed (with_class m start class) stacks)
made b m stacks start class row sound = record {
  distinct = sound.distinct;
  reserved = λ seat c at has.
      let r = sound.reserved seat c at has in
      let other : r.start ≢ start = λ same. ⊎_elim (λ left. omega (arith, left, same)) (λ right. omega (arith, right, same)) ((row.each start (omega arith) (omega arith)).no_slab r.start c r.slab) in
      record { start = r.start; slab = with_key-other m.slab start r.start (Some class) other ∙ r.slab; number = r.number; within = r.within; unused = record { each = r.unused.each }; is = r.is };
}

-- the block that is out is given to a root
given : (b : Bounds) (m : Machine) (root class at s i : ℕ) (after : Stacks) → IsOverlapFree b m → IsOut m class at after → at ≡ (slab_block s class i).at → AreSound (placed (with_range m root (slab_block s class i)) after)
given b m root class at s i after free out at_is =
    let range = slab_block s class i in
    let one : slab_block out.block.start class out.block.number ≡ range = block_once out.block.start s class class out.block.number i (sym out.block.is ∙ at_is) refl in
    record {
      distinct = out.sound.distinct;
      reserved = λ seat c other has.
          let r = out.sound.reserved seat c other has in
          let apart : AreApart (slab_block r.start c r.number) range = subst (λ (x : Range). AreApart (slab_block r.start c r.number) x) one (two_apart seat c other has) in
          record {
            start = r.start;
            slab = r.slab;
            number = r.number;
            within = r.within;
            unused = record {
              each = λ another x named. ⊎_elim
                  (λ here. let same : range ≡ x = (let is = here.1 in cc) in subst (λ (y : Range). AreApart (slab_block r.start c r.number) y) same apart)
                  (λ there. r.unused.each another x there.1)
                  (with_key-cases m.block root another (Some range) (Some x) named);
            };
            is = r.is;
          };
    }
  where
    two_apart : (seat c other : ℕ) (has : Has (after seat c) other) → AreApart (slab_block (out.sound.reserved seat c other has).start c (out.sound.reserved seat c other has).number) (slab_block out.block.start class out.block.number)
    two_apart seat c other has =
        let r = out.sound.reserved seat c other has in
        ⊎_elim
        (λ (same : r.start ≡ out.block.start).
        let both : Some c ≡ Some class = sym r.slab ∙ ap m.slab same ∙ out.block.slab in
        let is : c ≡ class = cc in
        let differ : r.number ≢ out.block.number = λ number.
        let address : other ≡ at = r.is ∙ (λ k. (slab_block (same k) (is k) (number k)).at) ∙ sym out.block.is in
        out.loose.none seat c (subst (λ (a : ℕ). Has (after seat c) a) address has) in
        subst (λ (k : ℕ). AreApart (slab_block r.start k r.number) (slab_block out.block.start class out.block.number)) (sym is)
        (subst (λ (t : ℕ). AreApart (slab_block t class r.number) (slab_block out.block.start class out.block.number)) (sym same) (blocks_apart out.block.start class r.number out.block.number differ)))
        (λ (differ : r.start ≢ out.block.start). ⊎_elim
        (λ before. inl (omega (arith, before, high r.start c r.number r.within, low out.block.start class out.block.number out.block.within)))
        (λ behind. inr (omega (arith, behind, high out.block.start class out.block.number out.block.within, low r.start c r.number r.within)))
        (free.slabs_apart r.start out.block.start c class differ r.slab out.block.slab))
        (cases_eq r.start out.block.start)

module _ (b : Bounds) (was : PlacedState) (free : IsOverlapFree b was.machine) (sound : AreSound was) where
  -- whole granules are given
  given_granules : (root size start count : ℕ) → IsFromGranules (view_of b was.machine) size start count → AreSound (placed (with_block was.machine root (Granules start count)) was.stacks)
  given_granules root size start count is = AreSound-at was.machine _ was.stacks sound (λ seat class at has r. record {
    start = r.start;
    slab = r.slab;
    number = r.number;
    within = r.within;
    unused = record {
      each = λ another x named. ⊎_elim
          (λ here. let same : range_of (Granules start count) ≡ x = (let is = here.1 in cc) in subst (λ (y : Range). AreApart (slab_block r.start class r.number) y) same (clear r.start class r.number r.slab r.within))
          (λ there. r.unused.each another x there.1)
          (with_key-cases was.machine.block root another (Some (range_of (Granules start count))) (Some x) named);
    };
    is = r.is;
  })
    where
      clear : (s c i : ℕ) → was.machine.slab s ≡ Some c → i < class_capacity c → AreApart (slab_block s c i) (range_of (Granules start count))
      clear s c i slab within =
          let row = row_of_fit (IsFreeGranule b was.machine) count start is.fit in
          let both = rows_apart s 4 start count (omega arith) (omega (arith, is.large, is.count_is)) (λ k from to first last. ⊎_elim (λ left. omega (arith, left, from)) (λ right. omega (arith, right, to)) ((row.each k first last).no_slab s c slab)) in
          ⊎_elim
          (λ before. inl (omega (arith, before, high s c i within)))
          (λ behind. inr (omega (arith, behind, low s c i within)))
          both

  module _ (root size seat class at : ℕ) (after : Stacks) (is_seat : seat < 64) (least : IsClassOf size class) where
    -- the site of a small block, and the state once it is given
    abbrev Sound : Site → Type 0
    Sound site = AreSound (placed (with_block was.machine root site) after)

    -- a block of a slab of the class is out
    in_slab : (site : Site) → IsSite (view_of b was.machine) size site → at ≡ (range_of site).at → IsOut was.machine class at after → Sound site
    in_slab (Granules s n) is at_is out = absurd (class_small size class least is.large)
    in_slab (InSlab s c i) is at_is out =
        given b was.machine root c at s i after free (subst (λ (k : ℕ). IsOut was.machine k at after) (class_once size class c least is.least) out) at_is
    in_slab (InMorph s c i) is at_is out = absurd (is.full (unused c is.least out))
      where
        unused : (c : ℕ) → IsClassOf size c → IsOut was.machine class at after → HasUnusedBlock (block_view (view_of b was.machine)) c
        unused c also out = subst (λ (k : ℕ). HasUnusedBlock (block_view (view_of b was.machine)) k) (class_once size class c least also) (record { start = out.block.start; slab = out.block.slab; number = out.block.number; block = record { within = out.block.within; unused = out.block.unused } })
    in_slab (InNewSlab s c i) is at_is out = absurd (is.full (unused c is.least out))
      where
        unused : (c : ℕ) → IsClassOf size c → IsOut was.machine class at after → HasUnusedBlock (block_view (view_of b was.machine)) c
        unused c also out = subst (λ (k : ℕ). HasUnusedBlock (block_view (view_of b was.machine)) k) (class_once size class c least also) (record { start = out.block.start; slab = out.block.slab; number = out.block.number; block = record { within = out.block.within; unused = out.block.unused } })

    -- a slab takes the class
    in_morph : (site : Site) → IsSite (view_of b was.machine) size site → at ≡ (range_of site).at → ¬ (HasUnusedBlock (block_view (view_of b was.machine)) class) → IsMorphRefill b was seat class at after → Sound site
    in_morph (Granules s n) is at_is none morph = absurd (class_small size class least is.large)
    in_morph (InSlab s c i) is at_is none morph = absurd (none (subst (λ (k : ℕ). HasUnusedBlock (block_view (view_of b was.machine)) k) (class_once size c class is.least least) (record { start = s; slab = is.slab; number = i; block = is.block })))
    in_morph (InMorph s c i) is at_is none morph =
        let same = class_once size class c least is.least in
        let start = best_slab_once (view_of b was.machine) c morph.start s (subst (λ (k : ℕ). IsBestSlab (slab_view (view_of b was.machine)) k morph.start) same morph.best) is.best in
        let out = refilled (with_class was.machine morph.start class) (without_slab was.stacks morph.start) (classed was.machine was.stacks morph.start class sound) b seat class at after is_seat morph.refill in
        given b (with_class was.machine s c) root c at s i after (IsOverlapFree-morph b was.machine s c is.best.fit.class free is.best.fit.slab)
        (subst (λ (t : ℕ). IsOut (with_class was.machine t c) c at after) start (subst (λ (k : ℕ). IsOut (with_class was.machine morph.start k) k at after) same out)) at_is
    in_morph (InNewSlab s c i) is at_is none morph = absurd (is.no_fit.none morph.start (subst (λ (k : ℕ). IsBestSlab (slab_view (view_of b was.machine)) k morph.start) (class_once size class c least is.least) morph.best).fit)

    -- a slab is made
    in_new_slab : (site : Site) → IsSite (view_of b was.machine) size site → at ≡ (range_of site).at → ¬ (HasUnusedBlock (block_view (view_of b was.machine)) class) → IsNewRefill b was seat class at after → Sound site
    in_new_slab (Granules s n) is at_is none new = absurd (class_small size class least is.large)
    in_new_slab (InSlab s c i) is at_is none new = absurd (none (subst (λ (k : ℕ). HasUnusedBlock (block_view (view_of b was.machine)) k) (class_once size c class is.least least) (record { start = s; slab = is.slab; number = i; block = is.block })))
    in_new_slab (InMorph s c i) is at_is none new = absurd (new.no_fit.none s (subst (λ (k : ℕ). IsBestSlab (slab_view (view_of b was.machine)) k s) (class_once size c class is.least least) is.best).fit)
    in_new_slab (InNewSlab s c i) is at_is none new =
        let same = class_once size class c least is.least in
        let start = best_once (IsFreeGranule b was.machine) 4 new.start s new.fit is.fit in
        let out = refilled (with_class was.machine new.start class) was.stacks (made b was.machine was.stacks new.start class (row_of_fit (IsFreeGranule b was.machine) 4 new.start new.fit) sound) b seat class at after is_seat new.refill in
        given b (with_class was.machine s c) root c at s i after (IsOverlapFree-slab b was.machine s c free (row_of_fit (IsFreeGranule b was.machine) 4 s is.fit))
        (subst (λ (t : ℕ). IsOut (with_class was.machine t c) c at after) start (subst (λ (k : ℕ). IsOut (with_class was.machine new.start k) k at after) same out)) at_is

    -- a small block is given where the placement says
    given_small : (site : Site) → IsSite (view_of b was.machine) size site → at ≡ (range_of site).at → IsWay b was seat class at after → Sound site
    given_small site is at_is way = ⊎_elim
        (λ own. in_slab site is at_is (popped was.machine was.stacks sound seat class at after own.0 own.1.0 own.1.1))
        (λ empty. ⊎_elim
        (λ here. in_slab site is at_is (refilled was.machine was.stacks sound b seat class at after is_seat here.1))
        (λ no_block. ⊎_elim
        (λ stacked. in_slab site is at_is (popped was.machine was.stacks sound stacked.0.seat class at after stacked.0.first.top stacked.1.0 stacked.1.1))
        (λ no_stack.
        let none = none_unused was.machine was.stacks sound b class free no_block.0 no_stack.0 in
        ⊎_elim (in_morph site is at_is none) (in_new_slab site is at_is none) no_stack.1)
        no_block.1)
        empty.1)
        way

  -- a block is given
  given_step : (root size seat : ℕ) (reply : Reply) (next : PlacedState) → seat < 64 → IsGrant b was.machine root size reply next.machine → IsStacked b seat was (Malloc root size) reply next → AreSound next
  given_step root size seat reply next is_seat grant stacked = subst (λ (n : Machine). AreSound (placed n next.stacks)) (sym grant.after) (⊎_elim
      (λ gave.
      let is = gave.0.is in
      let reply_is = grant.is in
      let at : gave.0.at ≡ (range_of grant.site).at = cc in
      given_small root size seat gave.0.class gave.0.at next.stacks is_seat gave.0.least grant.site grant.chosen at gave.1)
      (λ none. large grant.site grant.chosen grant.is none.0 none.1)
      stacked)
    where
      large : (site : Site) → IsSite (view_of b was.machine) size site → reply ≡ Placed (range_of site).at (range_of site).size → ¬ (GaveSmall size reply) → next.stacks ≡ was.stacks → AreSound (placed (with_block was.machine root site) next.stacks)
      large (Granules s n) is reply_is none same = subst (λ (q : Stacks). AreSound (placed (with_block was.machine root (Granules s n)) q)) (sym same) (given_granules root size s n is)
      large (InSlab s c i) is reply_is none same = absurd (none (record { class = c; least = is.least; at = _; given = _; is = reply_is }))
      large (InMorph s c i) is reply_is none same = absurd (none (record { class = c; least = is.least; at = _; given = _; is = reply_is }))
      large (InNewSlab s c i) is reply_is none same = absurd (none (record { class = c; least = is.least; at = _; given = _; is = reply_is }))

  -- a block is freed
  module _ (seat root : ℕ) (range : Range) (is_seat : seat < 64) (below : root < b.roots) (named : was.machine.block root ≡ Some range) where
    abbrev next : Machine
    next = without_block b was.machine root range

    abbrev left : Stacks
    left = without_left b was.machine next was.stacks

    -- the address of a slab that left is in no stack
    stays : (c at : ℕ) (other : ℕ) → Has (left other c) at → (r : IsReserved was.machine c at) → next.slab r.start ≡ Some c
    stays c at other has r = ⊎_elim
        (λ gone. absurd (let test = (Has-filter (λ a. not (any_below (λ s. has_left (was.machine.slab s) (next.slab s) && is_within s a) b.granules)) (was.stacks other c) at has).1 in
        let some = any_below-true (λ s. has_left (was.machine.slab s) (next.slab s) && is_within s at) b.granules r.start (omega (arith, (free.slabs r.start c r.slab).1))
        (and_from _ _ (ap (λ (x : Option ℕ). has_left x (next.slab r.start)) r.slab ∙ ap (has_left (Some c)) gone) (ap (is_within r.start) r.is ∙ begins r.start c r.number r.within)) in
        true≢false (sym test ∙ ap not some)))
        (λ (same : next.slab r.start ≡ was.machine.slab r.start). same ∙ r.slab)
        (slab_cases r.start)
      where
        cond_cases : (gone : Bool) (x : Option ℕ) → (cond gone None x ≡ None) ⊎ (cond gone None x ≡ x)
        cond_cases true x = inl refl
        cond_cases false x = inr refl

        slab_cases : (s : ℕ) → (next.slab s ≡ None) ⊎ (next.slab s ≡ was.machine.slab s)
        slab_cases s = cond_cases (begins_in s (Some range) && (live_below (with_key was.machine.block root None) s b.roots == 0)) (was.machine.slab s)

    left_sound : AreSound (placed next left)
    left_sound = AreSound-fewer was.machine next left
        (record {
          distinct = AreDistinct-keeping sound.distinct _;
          reserved = λ other c at has. sound.reserved other c at (Has-filter _ (was.stacks other c) at has).0;
        })
        (λ other c at has r. stays c at other has r)
        (λ other x there. (other, (left_named was.machine root other x there).1))

    -- the freed block is in no stack
    range_loose : IsInNoStack left range.at
    range_loose = record {
      none = λ other c has.
          let r = sound.reserved other c range.at (Has-filter _ (was.stacks other c) range.at has).0 in
          ⊎_elim
          (λ before. omega (arith, before, r.is, some r.start c r.number r.within))
          (λ behind. omega (arith, behind, r.is, free.sized root range named))
          (r.unused.each root range named);
    }

    -- and it is unused now
    range_reserved : (keep : IsKeepable next left seat range) → IsReserved next keep.class range.at
    range_reserved keep = record {
      start = keep.start;
      slab = keep.slab;
      number = keep.block.number;
      within = keep.block.within;
      unused = record {
        each = λ other x there.
            let was_there = left_named was.machine root other x there in
            subst (λ (y : Range). AreApart y x) keep.block.is (free.apart root other range x (λ same. was_there.0 (sym same)) named was_there.1);
      };
      is = ap (λ (y : Range). y.at) keep.block.is;
    }

    given_back : (after : Stacks) → IsReturned next left seat range after → AreSound (placed next after)
    given_back after returned = ⊎_elim
        (λ kept.
        let keep = kept.0 in
        let block = range_reserved keep in
        subst (λ (q : Stacks). AreSound (placed next q)) (sym kept.1) (record {
          distinct = AreDistinct-put left_sound.distinct seat keep.class range.at is_seat (class_known keep.class block.number block.within) keep.room range_loose;
          reserved = AreSound-with next left left_sound seat keep.class (range.at ∷ left seat keep.class) (λ at has. ⊎_elim
              (λ is. subst (λ (a : ℕ). IsReserved next keep.class a) (sym is) block)
              (λ behind. left_sound.reserved seat keep.class at behind)
              has);
        }))
        (λ lost. subst (λ (q : Stacks). AreSound (placed next q)) (sym lost.1) left_sound)
        returned

-- a call that places or frees nothing leaves the stacks
stacks_stay : (b : Bounds) (seat : ℕ) (was last : PlacedState) (call : Call) (reply : Reply) → ¬ (IsOfHeap reply) → IsStacked b seat was call reply last → last.stacks ≡ was.stacks
stacks_stay b seat was last (Malloc root size) reply not stacked = ⊎_elim (λ gave. absurd (not (subst IsOfHeap (sym gave.0.is) tt))) (λ none. none.1) stacked
stacks_stay b seat was last (Free root) reply not stacked = ⊎_elim (λ took. absurd (not (subst IsOfHeap (sym took.0.is) tt))) (λ none. none.1) stacked
stacks_stay b seat was last (Write root index word) reply not stacked = stacked
stacks_stay b seat was last (Read root index) reply not stacked = stacked
stacks_stay b seat was last (Move from to) reply not stacked = stacked

-- one step
module _ (b : Bounds) (seat : ℕ) (was next : PlacedState) (call : Call) (reply : Reply) (is_seat : seat < 64) (free : IsOverlapFree b was.machine) (sound : AreSound was) where
  -- the state is another with the same slabs and no new block, and the stacks stay
  still : (m : Machine) → next.machine ≡ m → next.stacks ≡ was.stacks → ((s : ℕ) → m.slab s ≡ was.machine.slab s) → ((root : ℕ) (range : Range) → m.block root ≡ Some range → (other : ℕ) × (was.machine.block other ≡ Some range)) → AreSound next
  still m machine stacks slabs blocks =
      subst (λ (n : Machine). AreSound (placed n next.stacks)) (sym machine)
      (subst (λ (q : Stacks). AreSound (placed m q)) (sym stacks) (AreSound-fewer was.machine m was.stacks sound (λ other c at has r. slabs r.start ∙ r.slab) blocks))

  freed : (root : ℕ) (taken : IsTaken b was.machine root reply next.machine) → IsStacked b seat was (Free root) reply next → AreSound next
  freed root taken stacked = subst (λ (n : Machine). AreSound (placed n next.stacks)) (sym taken.after) (⊎_elim
      (λ took.
      let both : Freed took.0.range.at took.0.range.size ≡ Freed taken.range.at taken.range.size = sym took.0.is ∙ taken.is in
      let at : took.0.range.at ≡ taken.range.at = cc in
      let size : took.0.range.size ≡ taken.range.size = cc in
      let range : took.0.range ≡ taken.range = (λ i. record { at = at i; size = size i }) in
      given_back b was free sound seat root taken.range is_seat taken.below taken.named next.stacks
      (subst (λ (m : Machine). IsReturned m (without_left b was.machine m was.stacks) seat taken.range next.stacks) taken.after
      (subst (λ (r : Range). IsReturned next.machine (without_left b was.machine next.machine was.stacks) seat r next.stacks) range took.1)))
      (λ none. absurd (none.0 (record { range = taken.range; is = taken.is })))
      stacked)

  passed : (from to : ℕ) (range : Range) → was.machine.block from ≡ Some range → (root : ℕ) (x : Range) → (with_moved was.machine from to range).block root ≡ Some x → (other : ℕ) × (was.machine.block other ≡ Some x)
  passed from to range held root x named = ⊎_elim (λ here. (from, here.1)) (λ there. (root, there.1)) (moved_named was.machine from to root range x held named)

  sound_step : IsPlacedStep b seat was call reply next → AreSound next
  sound_step step = elim (outcome b was.machine next.machine reply call step.step) [
    | Stayed not same ↦ still was.machine same (stacks_stay b seat was next call reply not step.stacked) (λ s. refl) (λ root range named. (root, named))
    | Given root size asked given ↦ given_step b was free sound root size seat reply next is_seat given.grant (subst (λ (c : Call). IsStacked b seat was c reply next) asked step.stacked)
    | Taken root asked taken ↦ freed root taken (subst (λ (c : Call). IsStacked b seat was c reply next) asked step.stacked)
    | Written root index word not after ↦ still _ after (stacks_stay b seat was next call reply not step.stacked) (λ s. refl) (λ r range named. (r, named))
    | Passed from to is ↦ still _ is.after (stacks_stay b seat was next call reply (λ of. subst IsOfHeap is.is of) step.stacked) (λ s. refl) (λ root range named. passed from to is.range is.named root range named)
  ]

-- where no stack has a block
pub law_of_no_stacks : LawOfNoStacks
law_of_no_stacks m = record { distinct = AreDistinct-none; reserved = λ seat class at has. absurd has }

-- every journal
pub law_of_sound_stacks : LawOfSoundStacks
law_of_sound_stacks b s last [] seats free sound leads = subst AreSound (sym leads) sound
law_of_sound_stacks b s last (entry ∷ entries) seats free sound leads =
    law_of_sound_stacks b leads.0 last entries seats.1 (step b s.machine leads.0.machine entry.call entry.reply free leads.1.step) (sound_step b entry.seat s leads.0 entry.call entry.reply seats.0 free sound leads.1) leads.2
