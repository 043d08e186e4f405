-- The heaps that worked rows begin from, in an arena of 16 granules: the empty one, and one that a large block fills but for
-- four granules.
use Rattle.std.proofs.Common.{◌≡◌, ◌<◌, ◌≤◌, ◌+◌, ◌-◌, ℕ, Some, refl, ap, arith, ⊎_elim}
use Rattle.std.proofs.lemmas.Bool.{cases_lt}
use Rattle.size_classes.specs.Classes.{class_capacity, IsClassOf}
use Rattle.heap_model.specs.declared.call.Call.{Call}
use Rattle.heap_model.specs.declared.call.Reply.{Reply}
use Rattle.heap_model.specs.declared.call.Entry.{Entry}
use Rattle.heap_model.specs.Machine.{Bounds, Range, Machine, no_heap, IsFreeGranule}
use Rattle.heap_model.specs.Runs.{IsFreeRun, IsBestFit}
use Rattle.heap_model.specs.Choice.{range_of, IsSite}
use Rattle.heap_model.specs.Choice.Site.{Granules, InMorph, InNewSlab}
use Rattle.heap_model.specs.Slabs.{view_of}
use Rattle.heap_model.specs.Step.{with_block}
use Rattle.heap_model.proofs.Maps.{with_key-cases}
use Rattle.heap_model.proofs.Sites.{neither_below}
use Rattle.definition_tests.proofs.Morphs.{small, filled}
use Rattle.heap_model.specs.Placement.{HasTop, HasStacked, no_stacks}

-- where all free granules are in one row, that is the only run
only_run : (Vacant : ℕ → Type 0) (start length other long : ℕ) → ((k : ℕ) → Vacant k → (start ≤ k) × (k < start + length)) → ((k : ℕ) → start ≤ k → k < start + length → Vacant k) → IsFreeRun Vacant other long → (other ≡ start) × (long ≡ length)
only_run Vacant start length other long within all run =
    let first = within other (run.row.each other (omega arith) (omega (arith, run.some))) in
    let last = within (other + (long - 1)) (run.row.each (other + (long - 1)) (omega arith) (omega (arith, run.some))) in
    let begins : other ≡ start = neither_below other start (λ less. omega (arith, less, first.0)) (λ less. run.begins (other - 1) (omega (arith, less)) (all (other - 1) (omega (arith, less)) (omega (arith, first.1)))) in
    (begins, neither_below long length (λ less. run.ends (all (other + long) (omega (arith, begins)) (omega (arith, begins, less)))) (λ less. omega (arith, less, last.1, begins)))

-- and the best fit
pub only_fit : (Vacant : ℕ → Type 0) (start length n : ℕ) → 0 < length → n ≤ length → ((k : ℕ) → Vacant k → (start ≤ k) × (k < start + length)) → ((k : ℕ) → start ≤ k → k < start + length → Vacant k) → IsBestFit Vacant n start
only_fit Vacant start length n some enough within all = record {
  length = length;
  run = record { some = some; row = record { each = all }; begins = λ k before free. omega (arith, before, (within k free).0); ends = λ free. omega (arith, (within (start + length) free).1) };
  enough = enough;
  shortest = λ other long run fits. omega (arith, (only_run Vacant start length other long within all run).1);
  lowest = λ other run. omega (arith, (only_run Vacant start length other length within all run).0);
}

-- an entry of a seat
abbrev pub by_seat : ℕ → Call → Reply → Entry
by_seat seat call reply = record { seat = seat; call = call; reply = reply }

-- a stack that is empty has no top
pub no_top : (seat class : ℕ) → ¬ (HasTop no_stacks seat class)
no_top seat class top = let is = top.is in absurd (cc)

pub no_stacked : (class : ℕ) → ¬ (HasStacked no_stacks class)
no_stacked class stacked = no_top stacked.seat class stacked.first.top

-- the heap but for four granules, a block of 64 bytes, and the slab takes the class of 1000 bytes
abbrev pub morphed : Machine
morphed = with_block (filled 3 0) 2 (InMorph 12 19 1)

-- a large block on all granules but the last four
abbrev pub packed : Machine
packed = with_block no_heap 0 (Granules 4 8)

module _ (roots : ℕ) (many : 2001 ≤ roots) where
  abbrev b : Bounds
  b = small roots

  pub bare_free : (k : ℕ) → 4 ≤ k → k < 16 → IsFreeGranule b no_heap k
  bare_free k low high = record { low = low; high = high; no_block = λ root range named. absurd (cc); no_slab = λ s c slab. absurd (cc) }

  pub new_slab : (size class : ℕ) → IsClassOf size class → 0 < class_capacity class → IsSite (view_of b packed) size (InNewSlab 12 class 0)
  new_slab size class least some = record {
    least = least;
    full = λ has. absurd (let none = has.slab in cc);
    no_fit = record { none = λ s fit. absurd (let none = fit.slab in cc) };
    fit = only_fit (IsFreeGranule b packed) 12 4 4 (omega arith) (omega arith) (λ k free. (behind k free, free.high)) (λ k low high. record {
      low = omega (arith, low);
      high = high;
      no_block = λ root range named big meets. ⊎_elim
          (λ here. let same : range_of (Granules 4 8) ≡ range = (let is = here.1 in cc) in let at = ap (λ (r : Range). r.at + r.size) same in omega (arith, at, meets.ends, low))
          (λ there. absurd (let none = there.1 in cc))
          (with_key-cases no_heap.block 0 root (Some (range_of (Granules 4 8))) (Some range) named);
      no_slab = λ s c slab. absurd (cc);
    });
    within = some;
  }
    where
      behind : (k : ℕ) → IsFreeGranule b packed k → 12 ≤ k
      behind k free = ⊎_elim
          (λ (less : k < 12). absurd (free.no_block 0 (range_of (Granules 4 8)) refl (omega arith) (record { begins = omega (arith, free.low); ends = omega (arith, less) })))
          (λ (from : 12 ≤ k). from)
          (cases_lt k 12)
