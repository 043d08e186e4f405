-- The block that a malloc is given in a slab that is made for it is the first one.
use Rattle.std.proofs.Common.{◌≡◌, ℕ, ◌+◌, ◌/◌, ◌<◌, ◌≤◌, List, Some, refl, sym, ap, subst, ◌∙◌, arith, inl, ⊎_elim}
use Rattle.std.proofs.lemmas.Bool.{cases_eq, cases_lt}
use Rattle.size_classes.specs.Classes.{class_capacity}
use Rattle.size_classes.proofs.Spacing.{class_size-least}
use Rattle.heap_model.specs.declared.call.Call.TheVariants as calls
use Rattle.heap_model.specs.declared.call.Reply.TheVariants as replies
use Rattle.heap_model.specs.Machine.{Bounds, Machine, slab_block, IsUnused, IsFreeGranule, IsOverlapFree}
use Rattle.heap_model.specs.Choice.{IsFromNewSlab, block_view}
use Rattle.heap_model.specs.Slabs.{view_of}
use Rattle.heap_model.specs.Placement.{Stacks, Has, HasTop, AreSound, IsInNoStack, IsRefill, IsNewRefill, IsWay, IsStacked, with_class}
use Rattle.heap_indexes.proofs.Machines.{block_some}
use Rattle.heap_model.proofs.Fits.{fit_free}
use Rattle.heap_model.proofs.Maps.{with_key-other}
use Rattle.heap_model.proofs.Placing.{IsUnused-free}
use Rattle.heap_model.proofs.Sites.{best_once, class_once}
use Rattle.heap_model.proofs.Slabbing.{LiesIn-block, one_number}
use Rattle.heap_model.proofs.Steps.{row_of_fit}

-- a stack that has a top has it
top_has : {stacks : Stacks} {seat class : ℕ} (top : HasTop stacks seat class) → Has (stacks seat class) top.top
top_has {stacks} {seat} {class} top = subst (λ (stack : List ℕ). Has stack top.top) (sym top.is) (inl refl)

module _ {b : Bounds} {m : Machine} {stacks : Stacks} (apart : IsOverlapFree b m) (sound : AreSound (record { machine = m; stacks = stacks })) {size start class number : ℕ} (chosen : IsFromNewSlab (view_of b m) size start class number) where
  -- no unused block of the class is reserved, or lies in a slab of the class

  not_reserved : (seat at : ℕ) → ¬ (Has (stacks seat class) at)
  not_reserved seat at has =
      let is = sound.reserved seat class at has in
      chosen.full (record { start = is.start; slab = is.slab; number = is.number; block = record { within = is.within; unused = is.unused } })

  not_there : (s n : ℕ) → m.slab s ≡ Some class → n < class_capacity class → ¬ (IsUnused m (slab_block s class n))
  not_there s n slab within unused = chosen.full (record { start = s; slab = slab; number = n; block = record { within = within; unused = unused } })

  free : (k : ℕ) → start ≤ k → k < start + 4 → IsFreeGranule b m k
  free k low high = fit_free (IsFreeGranule b m) 4 start k chosen.fit low high

  -- a block of the slab that is made is unused, and reserved for no seat

  unused_first : (n : ℕ) → n < class_capacity class → IsUnused m (slab_block start class n)
  unused_first n within =
      let lies = LiesIn-block start class (slab_block start class n) (record { number = n; within = within; is = refl }) in
      IsUnused-free b m start 4 (slab_block start class n) apart (omega arith) (row_of_fit (IsFreeGranule b m) 4 start chosen.fit) lies.low (omega (arith, lies.high))

  loose_first : (n : ℕ) → n < class_capacity class → IsInNoStack stacks (slab_block start class n).at
  loose_first n within = record {
    none = λ seat c has.
        let is = sound.reserved seat c (slab_block start class n).at has in
        let here = LiesIn-block start class (slab_block start class n) (record { number = n; within = within; is = refl }) in
        let there = LiesIn-block is.start c (slab_block is.start c is.number) (record { number = is.number; within = is.within; is = refl }) in
        let some = class_size-least class chosen.least.is_class in
        let k = (slab_block start class n).at / 16384 in
        ⊎_elim
        (λ before. omega (arith, before, is.is, there.low))
        (λ behind. omega (arith, behind, is.is, there.high, block_some is.start c is.number is.within))
        ((free k (omega (arith, here.low)) (omega (arith, here.high, some))).no_slab is.start c is.slab);
  }

  module _ {seat at : ℕ} {after : Stacks} (is : at ≡ (slab_block start class number).at) where
    -- the refill of a slab that is made gives the first of its blocks
    by_refill : IsRefill (block_view (view_of b (with_class m start class))) stacks seat class at after → number ≡ 0
    by_refill refill =
        let next = refill.taken.1 in
        let within = next.passes.block.within in
        let unused : IsUnused m (slab_block refill.start class refill.number) = record { each = next.passes.block.unused.each } in
        let here : refill.start ≡ start = ⊎_elim
        (λ same. same)
        (λ differ. absurd (not_there refill.start refill.number (sym (with_key-other m.slab start refill.start (Some class) differ) ∙ refill.slab) within unused))
        (cases_eq refill.start start) in
        let same : number ≡ refill.number = one_number start class number refill.number (omega (arith, class_size-least class chosen.least.is_class)) (sym is ∙ refill.is ∙ ap (λ s. (slab_block s class refill.number).at) here) in
        ⊎_elim
        (λ (some : 0 < refill.number). absurd (next.first 0 (omega arith) some (record {
          block = record { within = omega (arith, some, within); unused = record { each = (subst (λ s. IsUnused m (slab_block s class 0)) (sym here) (unused_first 0 (omega (arith, some, within)))).each } };
          loose = subst (λ s. IsInNoStack stacks (slab_block s class 0).at) (sym here) (loose_first 0 (omega (arith, some, within)));
        })))
        (λ (none : refill.number ≤ 0). omega (arith, same, none))
        (cases_lt 0 refill.number)

    by_way : IsWay b (record { machine = m; stacks = stacks }) seat class at after → number ≡ 0
    by_way way = ⊎_elim
        (λ own. absurd (not_reserved seat own.0.top (top_has own.0)))
        (λ rest. ⊎_elim
        (λ has. absurd (not_there has.0.start has.0.number has.0.slab has.0.available.block.within has.0.available.block.unused))
        (λ more. ⊎_elim
        (λ stacked. absurd (not_reserved stacked.0.seat stacked.0.first.top.top (top_has stacked.0.first.top)))
        (λ last. ⊎_elim
        (λ morph. absurd (chosen.no_fit.none morph.start morph.best.fit))
        (λ (new : IsNewRefill b (record { machine = m; stacks = stacks }) seat class at after).
        let same = best_once (IsFreeGranule b m) 4 new.start start new.fit chosen.fit in
        by_refill (subst (λ s. IsRefill (block_view (view_of b (with_class m s class))) stacks seat class at after) same new.refill))
        last.1)
        more.1)
        rest.1)
        way

    pub first_number : (root given : ℕ) (next : Machine) → IsStacked b seat (record { machine = m; stacks = stacks }) (calls.Malloc root size) (replies.Placed at given) (record { machine = next; stacks = after }) → number ≡ 0
    first_number root given next stacked = ⊎_elim
        (λ gave.
        let small = gave.0 in
        let same : small.class ≡ class = class_once size small.class class small.least chosen.least in
        let at_is : small.at ≡ at = (let both = small.is in cc) in
        by_way (subst (λ a. IsWay b (record { machine = m; stacks = stacks }) seat class a after) at_is (subst (λ c. IsWay b (record { machine = m; stacks = stacks }) seat c small.at after) same gave.1)))
        (λ none. absurd (none.0 (record { class = class; least = chosen.least; at = at; given = given; is = refl })))
        stacked
