-- Every step of the heap machine keeps it free of overlaps, and so does every legal journal.
use Rattle.std.proofs.Common.{◌≡◌, ◌≢◌, ℕ, ◌+◌, ◌-◌, ◌*◌, ◌<◌, ◌≤◌, [], ◌∷◌, sym, refl, arith, subst, ⊎_elim, Some}
use Rattle.size_classes.specs.Classes.{IsClassOf}
use Rattle.size_classes.proofs.Spacing.{class_size-most}
use Rattle.heap_model.specs.declared.call.Call.{Call}
use Rattle.heap_model.specs.declared.call.Reply.{Reply}
use Rattle.heap_model.specs.Machine.{IsBlockOf, Bounds, Range, Machine, slab_block, IsLarge, IsFreeGranule, IsOverlapFree}
use Rattle.heap_model.specs.Runs.{IsFreeRow, IsBestFit}
use Rattle.heap_model.specs.Choice.{Site, IsSite}
use Rattle.heap_model.specs.Choice.Site.{Granules, InSlab, InMorph, InNewSlab}
use Rattle.heap_model.specs.Slabs.{view_of}
use Rattle.heap_model.specs.Step.{with_block, IsStep}
use Rattle.heap_model.specs.Placement.{with_class}
use Rattle.heap_model.specs.Journal.{LawOfOverlap}
use Rattle.heap_model.proofs.Maps.{with_key-here}
use Rattle.heap_model.proofs.Placing.{IsProper, IsOverlapFree-with, IsOverlapFree-moved, IsOverlapFree-value, IsUnused-free}
use Rattle.heap_model.proofs.Slabbing.{IsOverlapFree-morph, IsOverlapFree-slab, LiesIn-block}
use Rattle.heap_model.proofs.Outcomes.{outcome}
use Rattle.heap_model.proofs.Outcomes.Outcome.{Stayed, Given, Taken, Written, Passed}
use Rattle.heap_model.proofs.Freeing.{IsOverlapFree-without}

-- the first granules of the best fit are free
pub row_of_fit : (P : ℕ → Type 0) (n start : ℕ) → IsBestFit P n start → IsFreeRow P start n
row_of_fit P n start fit = record { each = λ k from to. fit.run.row.each k from (omega (arith, to, fit.enough)) }

-- whole granules are given
give_granules : (b : Bounds) (m : Machine) (root start count : ℕ) → IsOverlapFree b m → root < b.roots → 2 ≤ count → IsBestFit (IsFreeGranule b m) count start → IsOverlapFree b (with_block m root (Granules start count))
give_granules b m root start count was below some fit =
    let row = row_of_fit (IsFreeGranule b m) count start fit in
    let whole : Range = record { at = 16384 * start; size = 16384 * count } in
    let first = row.each start (omega arith) (omega (arith, some)) in
    let last = row.each (start + (count - 1)) (omega arith) (omega (arith, some)) in
    let proper : IsProper b m whole = record {
      sized = omega (arith, some);
      small = λ little. absurd (little (omega (arith, some)));
      large = λ big. record { start = start; count = count; at = refl; size = refl; low = first.low; high = omega (arith, last.high, some) };
      clear = λ s c k big slab from to meets. ⊎_elim
          (λ before. omega (arith, before, to, from))
          (λ behind. omega (arith, behind, to, from))
          ((row.each k (omega (arith, meets.begins, meets.ends)) (omega (arith, meets.begins, meets.ends))).no_slab s c slab);
    } in
    IsOverlapFree-with b m root whole was below (IsUnused-free b m start count whole was (omega (arith, some)) row (omega arith) (omega arith)) proper

-- a block of a small request's class lies in its slab, is not large and has bytes
block_proper : (b : Bounds) (m : Machine) (s c size number : ℕ) → size ≢ 0 → IsClassOf size c → m.slab s ≡ Some c → IsBlockOf s c (slab_block s c number) → IsProper b m (slab_block s c number)
block_proper b m s c size number some least slab block =
    let little : ¬ (IsLarge (slab_block s c number)) = λ big. omega (arith, big, class_size-most c least.is_class) in
    record {
      sized = omega (arith, least.holds, some);
      small = λ _. (s, c, slab, LiesIn-block s c (slab_block s c number) block);
      large = λ big. absurd (little big);
      clear = λ t d k big. absurd (little big);
    }

-- a block is given at a site
give : (b : Bounds) (m : Machine) (root size : ℕ) (site : Site) → IsOverlapFree b m → root < b.roots → size ≢ 0 → IsSite (view_of b m) size site → IsOverlapFree b (with_block m root site)
give b m root size (Granules start count) was below some is = give_granules b m root start count was below (omega (arith, is.large, is.count_is)) is.fit
give b m root size (InSlab start class number) was below some is =
    IsOverlapFree-with b m root (slab_block start class number) was below is.block.unused (block_proper b m start class size number some is.least is.slab (record { number = number; within = is.block.within; is = refl }))
give b m root size (InMorph start class number) was below some is =
    IsOverlapFree-with b (with_class m start class) root (slab_block start class number) (IsOverlapFree-morph b m start class is.best.fit.class was is.best.fit.slab) below (record { each = is.block.unused.each })
    (block_proper b (with_class m start class) start class size number some is.least (with_key-here m.slab start (Some class)) (record { number = number; within = is.block.within; is = refl }))
give b m root size (InNewSlab start class number) was below some is =
    let row = row_of_fit (IsFreeGranule b m) 4 start is.fit in
    let block : IsBlockOf start class (slab_block start class number) = record { number = number; within = is.within; is = refl } in
    let lies = LiesIn-block start class (slab_block start class number) block in
    IsOverlapFree-with b (with_class m start class) root (slab_block start class number) (IsOverlapFree-slab b m start class was row) below
    (record { each = (IsUnused-free b m start 4 (slab_block start class number) was (omega arith) row lies.low (omega (arith, lies.high))).each })
    (block_proper b (with_class m start class) start class size number some is.least (with_key-here m.slab start (Some class)) block)

-- a step
pub step : (b : Bounds) (m next : Machine) (call : Call) (reply : Reply) → IsOverlapFree b m → IsStep b m call reply next → IsOverlapFree b next
step b m next call reply was is = elim (outcome b m next reply call is) [
  | Stayed not same ↦ behind m was same
  | Given root size asked given ↦ behind (with_block m root given.grant.site) (give b m root size given.grant.site was given.below given.some given.grant.chosen) given.grant.after
  | Taken root asked taken ↦ behind _ (IsOverlapFree-without b m root taken.range was) taken.after
  | Written root index word not after ↦ behind _ (IsOverlapFree-value b m root index word was) after
  | Passed from to passed ↦ behind _ (IsOverlapFree-moved b m from to passed.range was passed.below passed.named) passed.after
]
  where
    behind : (last : Machine) → IsOverlapFree b last → next ≡ last → IsOverlapFree b next
    behind last clean after = subst (λ (t : Machine). IsOverlapFree b t) (sym after) clean

-- every state that is reached from one free of overlaps is free of them
pub law_of_overlap : LawOfOverlap
law_of_overlap b m last [] was leads = subst (λ (t : Machine). IsOverlapFree b t) (sym leads) was
law_of_overlap b m last (entry ∷ entries) was leads = law_of_overlap b leads.0 last entries (step b m leads.0 entry.call entry.reply was leads.1) leads.2
