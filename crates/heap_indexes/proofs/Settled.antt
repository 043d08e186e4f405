-- Once a block has gone, and its slab where it was the last one, the state is that of the machine's step.
use Rattle.std.proofs.Common.{◌≡◌, ◌≢◌, ◌==◌, ◌&&◌, ℕ, ◌*◌, ◌≤◌, true, Some, None, sym, ◌∙◌, subst, arith, ⊎_elim}
use Rattle.heap_indexes.proofs.Common.{cases_eq, cond-true, cond-false, eq-eqb, ne_eqb, and_from, Bounds, Machine, Range, with_key, IsLarge, IsOverlapFree, begins_in, live_below, without_block, slabs_without, Stacks, without_slab, with_key-here, with_key-other, begins_in-here, begins_at, slabs_stay-away, stacks_of, Indexes, AreIndexesOf, loosened, closed, IsReturned, without_left}
use Rattle.std.proofs.lemmas.Bool.{and_right}
use Rattle.heap_model.proofs.LeftSlabs.{returned_large}
use Rattle.heap_indexes.specs.Steps.{IsGivenBack, IsGivenAs}
use Rattle.heap_indexes.specs.declared.answer.Given.TheVariants.{Granules, Block, Slab}
use Rattle.heap_indexes.specs.Kept.{IsPutBack}
use Rattle.heap_indexes.proofs.Machines.{one_slab}
use Rattle.heap_indexes.proofs.LargeBlocks.{large_off}
use Rattle.heap_indexes.proofs.Freed.{IsHome, own_block}
use Rattle.heap_indexes.proofs.Ways.{returned_left, returned_stayed}

module _ (b : Bounds) (m : Machine) (root : ℕ) (range : Range) where
  -- all slabs stay
  stayed : (x : Indexes) → ((s : ℕ) → slabs_without b m root range s ≡ m.slab s) → AreIndexesOf b (loosened m root) x → AreIndexesOf b (without_block b m root range) x
  stayed x same are = subst (λ (n : Machine). AreIndexesOf b n x) (λ i. record (loosened m root) { slab = λ s. sym (same s) i }) are

  -- one has left
  left : (x : Indexes) (start : ℕ) → ((s : ℕ) → slabs_without b m root range s ≡ with_key m.slab start None s) → AreIndexesOf b (closed (loosened m root) start) x → AreIndexesOf b (without_block b m root range) x
  left x start same are = subst (λ (n : Machine). AreIndexesOf b n x) (λ i. record (loosened m root) { slab = λ s. sym (same s) i }) are

module _ {b : Bounds} {m : Machine} {old : Indexes} (apart : IsOverlapFree b m) (are : AreIndexesOf b m old) (root : ℕ) (range : Range) (named : m.block root ≡ Some range) (seat : ℕ) where
  -- whole granules
  pub settled_large : (new : Indexes) (start : ℕ) → IsLarge range → range.at ≡ 16384 * start → AreIndexesOf b (loosened m root) new → stacks_of new.supply.stacks ≡ stacks_of old.supply.stacks →
      IsGivenBack b m seat root range old new × IsGivenAs m (without_block b m root range) range (Granules start)
  settled_large new start large at after stacks =
      let same : (s : ℕ) → slabs_without b m root range s ≡ m.slab s = λ s. slabs_stay-away b m root range s (λ c slab begins.
      let within = begins_at s range begins in
      ⊎_elim (λ before. omega (arith, before, within.0, large)) (λ behind. omega (arith, behind, within.1)) (large_off b m root s c range apart named large slab)) in (
        record {
          indexes = stayed b m root range new same after;
          stacked = subst (IsReturned (without_block b m root range) (without_left b m (without_block b m root range) (stacks_of old.supply.stacks)) seat range) (sym stacks) (returned_large b m (without_block b m root range) (stacks_of old.supply.stacks) seat range large same);
        },
        (large, at),
      )

  module _ (start class : ℕ) (home : IsHome apart are root start class range) (small : range.size ≤ 16384) where
    other_slabs : (s : ℕ) → s ≢ start → slabs_without b m root range s ≡ m.slab s
    other_slabs s differ = slabs_stay-away b m root range s (λ c slab begins.
        let within = begins_at s range begins in
        differ (one_slab apart s start c class range.at slab home.slab.slab within.0 within.1 home.lies.low (omega (arith, home.lies.high, home.behind.some))))

    here : begins_in start (Some range) ≡ true
    here = begins_in-here start range home.lies.low (omega (arith, home.lies.high, home.behind.some))

    -- a block that was not the last one
    pub settled_stayed : (new : Indexes) → AreIndexesOf b (loosened m root) new → live_below (loosened m root).block start b.roots ≢ 0 → IsPutBack (stacks_of old.supply.stacks) seat class range (stacks_of new.supply.stacks) →
        IsGivenBack b m seat root range old new × IsGivenAs m (without_block b m root range) range Block
    settled_stayed new after some put =
        let same : (s : ℕ) → slabs_without b m root range s ≡ m.slab s = λ s. ⊎_elim
        (λ (is : s ≡ start). subst (λ k. slabs_without b m root range k ≡ m.slab k) (sym is)
        (cond-false (begins_in start (Some range) && (live_below (with_key m.block root None) start b.roots == 0)) None (m.slab start) (and_right (begins_in start (Some range)) (live_below (with_key m.block root None) start b.roots == 0) (ne_eqb (live_below (with_key m.block root None) start b.roots) 0 some))))
        (other_slabs s)
        (cases_eq s start) in (
          record {
            indexes = stayed b m root range new same after;
            stacked = returned_stayed b m apart start class range home.slab.slab home.lies.low (omega (arith, home.lies.high, home.behind.some)) (without_block b m root range) (stacks_of old.supply.stacks) (stacks_of new.supply.stacks) seat same (own_block apart are root start class range named home) put;
          },
          (λ large. omega (arith, large, small), same),
        )

    -- the last one
    pub settled_left : (new : Indexes) (mid : Stacks) → AreIndexesOf b (closed (loosened m root) start) new → live_below (loosened m root).block start b.roots ≡ 0 → IsPutBack (stacks_of old.supply.stacks) seat class range mid → stacks_of new.supply.stacks ≡ without_slab mid start →
        IsGivenBack b m seat root range old new × IsGivenAs m (without_block b m root range) range (Slab start)
    settled_left new mid after none put purged =
        let gone : (s : ℕ) → slabs_without b m root range s ≡ with_key m.slab start None s = λ s. ⊎_elim
        (λ (is : s ≡ start). subst (λ k. slabs_without b m root range k ≡ with_key m.slab start None k) (sym is)
        (cond-true (begins_in start (Some range) && (live_below (with_key m.block root None) start b.roots == 0)) None (m.slab start) (and_from (begins_in start (Some range)) (live_below (with_key m.block root None) start b.roots == 0) here (eq-eqb (live_below (with_key m.block root None) start b.roots) 0 none)) ∙ sym (with_key-here m.slab start None)))
        (λ (differ : s ≢ start). other_slabs s differ ∙ sym (with_key-other m.slab start s None differ))
        (cases_eq s start) in (
          record {
            indexes = left b m root range new start gone after;
            stacked = returned_left b m apart start class range home.slab.slab home.lies.low (omega (arith, home.lies.high, home.behind.some)) (without_block b m root range) (stacks_of old.supply.stacks) mid (stacks_of new.supply.stacks) seat gone put purged;
          },
          (λ large. omega (arith, large, small), (class, home.slab.slab), gone),
        )
