-- The extents of a state are taken over, by rising start, and then the indexes are those of the state.
use Rattle.std.proofs.Common.{◌≡◌, ◌≢◌, ◌⊎◌, ◌↔◌, ◌==◌, ℕ, ◌+◌, ◌*◌, ◌<◌, ◌≤◌, Bool, true, false, List, length, slice_index, Option, Some, None, nat_lt, if◌then◌else◌, refl, sym, ap, ◌∙◌, subst, arith, inr, ⊎_elim}
use Rattle.std.proofs.lemmas.Bool.{le-ltb, ne_eqb}
use Rattle.bit_words.specs.Numbers.{has}
use Rattle.heap_indexes.proofs.Common.{cases_eq, cases_lt, cond-true, cond-false, lt-ltb, eq-eqb, class_capacity, Bounds, Machine, Range, Meets, IsLarge, IsOverlapFree, with_key, slab_block, IsUnused, IsFreeRow, IsInTransition, FreeSet, IsFree, class_in, Lives, normal_at, Supply, MayBeGiven, IsClearOf, HasSlabMore, Units, IsClearRange, AreUnitsOf, law_of_unused_blocks, Indexes, strangers_below, is_unfit}
use Rattle.heap_indexes.specs.Adopting.{rooted_below, IsFreeBelow, AreTaken, AreAdopted, IsNextLarge, IsNextSlab, LawOfPassedGranules, LawOfAdoptedIndexes}
use Rattle.heap_indexes.proofs.Machines.{some_same}
use Rattle.heap_indexes.proofs.Granules.{in_or_out}
use Rattle.heap_indexes.proofs.Supplies.{iff_then}
use Rattle.heap_indexes.proofs.LiveBlocks.{at_start, off_start, units_same}
use Rattle.heap_indexes.proofs.StrangerBlocks.{moving_some, moving_none}

-- where all roots are counted the used units are those of the state
all_units : {b : Bounds} {m : Machine} (units : Units) → IsOverlapFree b m → AreUnitsOf (rooted_below m b.roots) units → AreUnitsOf m units
all_units {b} {m} units apart are = units_same (rooted_below m b.roots) m units (λ r. all r (m.block r) refl) are
  where
    all : (r : ℕ) (block : Option Range) → m.block r ≡ block → m.block r ≡ (rooted_below m b.roots).block r
    all r None is = is ∙ sym (⊎_elim
        (λ (below : r < b.roots). cond-true (nat_lt r b.roots) (m.block r) None (lt-ltb r b.roots below) ∙ is)
        (λ (from : b.roots ≤ r). cond-false (nat_lt r b.roots) (m.block r) None (le-ltb r b.roots from))
        (cases_lt r b.roots))
    all r (Some range) is = sym (cond-true (nat_lt r b.roots) (m.block r) None (lt-ltb r b.roots (apart.rooted r range is)))

-- where slabs begin

-- nothing is there where no slab is
no_slab_at : (m : Machine) (s : ℕ) → ((c : ℕ) → m.slab s ≡ Some c → ⊥) → m.slab s ≡ None
no_slab_at m s none = go (m.slab s) none
  where
    go : (x : Option ℕ) → ((c : ℕ) → x ≡ Some c → ⊥) → x ≡ None
    go None never = refl
    go (Some c) never = absurd (never c refl)

-- no slab begins from one granule on and below another: what is taken over below the one is all that is below the other
module _ {b : Bounds} {m : Machine} {k end : ℕ} {x : Indexes} (are : AreTaken b m k x) (from : k ≤ end) (none : (s c : ℕ) → m.slab s ≡ Some c → k ≤ s → s < end → ⊥) where
  begins_below : (s c : ℕ) → m.slab s ≡ Some c → s < end → s < k
  begins_below s c slab below = ⊎_elim (λ less. less) (λ (high : k ≤ s). absurd (none s c slab high below)) (cases_lt s k)

  classes_passed : (s : ℕ) → class_in x.supply.slabs s ≡ (if nat_lt s end then m.slab s else None)
  classes_passed s = are.classes s ∙ ⊎_elim
      (λ (below : s < k). cond-true (nat_lt s k) (m.slab s) None (lt-ltb s k below) ∙ sym (cond-true (nat_lt s end) (m.slab s) None (lt-ltb s end (omega (arith, below, from)))))
      (λ (high : k ≤ s). cond-false (nat_lt s k) (m.slab s) None (le-ltb s k high) ∙ ⊎_elim
      (λ (below : s < end). sym (cond-true (nat_lt s end) (m.slab s) None (lt-ltb s end below) ∙ no_slab_at m s (λ c slab. none s c slab high below)))
      (λ (behind : end ≤ s). sym (cond-false (nat_lt s end) (m.slab s) None (le-ltb s end behind)))
      (cases_lt s end))
      (cases_lt s k)

  -- with the free granules it is the rest
  passed : (set : FreeSet) → ((granule : ℕ) → IsFree set granule ↔ IsFreeBelow b m end granule) → AreTaken b m end (record { free = set; supply = x.supply; lives = x.lives; strangers = x.strangers; units = x.units })
  passed set free = record {
    free = free;
    classes = classes_passed;
    blocks = λ s class i below slab within. are.blocks s class i (begins_below s class slab below) slab within;
    normal = λ s class. (
      λ is. let was = (are.normal s class).0 is in (omega (arith, was.0, from), was.1, was.2),
      λ is. (are.normal s class).1 (begins_below s class is.1 is.0, is.1, is.2),
    );
    sought = λ s own class below slab. are.sought s own class (begins_below s own slab below) slab;
  }

-- what is free below a greater granule is so below a lesser
free_lower : {b : Bounds} {m : Machine} (k end granule : ℕ) → k ≤ end → IsFreeBelow b m end granule → IsFreeBelow b m k granule
free_lower k end granule from free = record {
  low = free.low;
  high = free.high;
  no_block = λ root range named large below. free.no_block root range named large (omega (arith, below, from));
  no_slab = λ s class slab below. free.no_slab s class slab (omega (arith, below, from));
}

-- granules at which nothing begins

pub law_of_passed_granules : LawOfPassedGranules
law_of_passed_granules b m n k end x are from between = record {
  of = are.of;
  sized = are.sized;
  counted = are.counted;
  taken = passed are.taken from between.no_slab x.free (λ granule. (
    λ is.
        let free = (are.taken.free granule).0 is in
        record {
          low = free.low;
          high = free.high;
          no_block = λ root range named large below. ⊎_elim
              (λ (less : range.at < 16384 * k). free.no_block root range named large less)
              (λ (high : 16384 * k ≤ range.at). absurd (between.no_block root range named large high below))
              (cases_lt range.at (16384 * k));
          no_slab = λ s class slab below. ⊎_elim
              (λ (less : s < k). free.no_slab s class slab less)
              (λ (high : k ≤ s). absurd (between.no_slab s class slab high below))
              (cases_lt s k);
        },
    λ free. (are.taken.free granule).1 (free_lower k end granule from free),
  ));
}

-- a large block

module _ {b : Bounds} {m : Machine} {n k : ℕ} {x : Indexes} {start granules : ℕ} (next : IsNextLarge b m n k x start granules) where
  abbrev its : Range
  its = record { at = 16384 * start; size = 16384 * granules }

  is_large : IsLarge its
  is_large = omega (arith, next.many)

  meets_its : (granule : ℕ) → start ≤ granule → granule < start + granules → Meets its granule
  meets_its granule low high = record { begins = omega (arith, low); ends = omega (arith, high) }

  -- no slab begins at its first granule
  no_slab_here : (c : ℕ) → m.slab start ≡ Some c → ⊥
  no_slab_here c slab = next.adopted.of.apart.clear next.root its start c start next.named is_large slab (omega arith) (omega arith) (meets_its start (omega arith) (omega (arith, next.many)))

  -- another large block that begins below its second granule begins below what was taken over
  block_below : (r : ℕ) (y : Range) → m.block r ≡ Some y → IsLarge y → y.at < 16384 * (start + 1) → r ≢ next.root → y.at < 16384 * k
  block_below r y named large below differ = ⊎_elim
      (λ less. less)
      (λ (high : 16384 * k ≤ y.at). ⊎_elim
      (λ (before : y.at < 16384 * start). absurd (next.between.no_block r y named large high before))
      (λ (from : 16384 * start ≤ y.at). absurd (⊎_elim (λ a. omega (arith, a, from, large)) (λ a. omega (arith, a, below, next.many)) (next.adopted.of.apart.apart r next.root y its differ named next.named)))
      (cases_lt y.at (16384 * start)))
      (cases_lt y.at (16384 * k))

  pub large_free : IsFreeRow (IsFree x.free) start granules
  large_free = record {
    each = λ granule low high.
        let whole = next.adopted.of.apart.large next.root its next.named is_large in
        (next.adopted.taken.free granule).1 (record {
          low = omega (arith, whole.low, whole.at, low);
          high = omega (arith, whole.high, whole.at, whole.size, high);
          no_block = λ r y named large below meets.
              let differ : r ≢ next.root = λ same. (let one : Some y ≡ Some its = sym named ∙ ap m.block same ∙ next.named in let is : y ≡ its = some_same y its one in let at = ap (λ (z : Range). z.at) is in omega (arith, at, below, next.from)) in
              ⊎_elim (λ a. omega (arith, a, low, meets.ends)) (λ a. omega (arith, a, below, next.from)) (next.adopted.of.apart.apart r next.root y its differ named next.named);
          no_slab = λ s c slab below. ⊎_elim
              (λ within. absurd (next.adopted.of.apart.clear next.root its s c granule next.named is_large slab within.0 within.1 (meets_its granule low high)))
              (λ out. out)
              (in_or_out granule s 4);
        });
  }

  pub large_taken : (set : FreeSet) → set.granules ≡ x.free.granules → ((granule : ℕ) → IsFree set granule ↔ (IsFree x.free granule × ((granule < start) ⊎ (start + granules ≤ granule)))) →
      AreAdopted b m n (start + 1) (record { free = set; supply = x.supply; lives = x.lives; strangers = x.strangers; units = x.units })
  large_taken set size taken = record {
    of = next.adopted.of;
    sized = let was = next.adopted.sized in record { least = was.least; most = was.most; first = was.first; roots = was.roots; free = size ∙ was.free; slabs = was.slabs; counts = was.counts; strangers = was.strangers; units = was.units };
    counted = let was = next.adopted.counted in record { units = was.units; counts = was.counts; none = was.none; strangers = was.strangers };
    taken = passed next.adopted.taken (omega (arith, next.from)) none set (λ granule. (
      λ is.
          let both = (taken granule).0 is in
          let free = (next.adopted.taken.free granule).0 both.0 in
          record {
            low = free.low;
            high = free.high;
            no_block = λ r y named large below meets. ⊎_elim
                (λ (same : r ≡ next.root).
                let one : Some y ≡ Some its = sym named ∙ ap m.block same ∙ next.named in
                let is_its : y ≡ its = some_same y its one in
                let at = ap (λ (z : Range). z.at) is_its in
                let ends = ap (λ (z : Range). z.size) is_its in
                ⊎_elim (λ a. omega (arith, a, at, meets.begins)) (λ a. omega (arith, a, at, ends, meets.ends)) both.1)
                (λ (differ : r ≢ next.root). free.no_block r y named large (block_below r y named large below differ) meets)
                (cases_eq r next.root);
            no_slab = λ s c slab below. ⊎_elim
                (λ (less : s < k). free.no_slab s c slab less)
                (λ (high : k ≤ s). absurd (none s c slab high below))
                (cases_lt s k);
          },
      λ free. (taken granule).1 (
        (next.adopted.taken.free granule).1 (free_lower k (start + 1) granule (omega (arith, next.from)) free),
        ⊎_elim
            (λ within. absurd (free.no_block next.root its next.named is_large (omega arith) (meets_its granule within.0 within.1)))
            (λ out. out)
            (in_or_out granule start granules),
      ),
    ));
  }
    where
      none : (s c : ℕ) → m.slab s ≡ Some c → k ≤ s → s < start + 1 → ⊥
      none s c slab high below = ⊎_elim
          (λ (before : s < start). next.between.no_slab s c slab high before)
          (λ (from : start ≤ s). no_slab_here c (ap m.slab (omega (arith, from, below)) ∙ slab))
          (cases_lt s start)

-- a slab

module _ {b : Bounds} {m : Machine} {k : ℕ} {x : Indexes} {start class : ℕ} (next : IsNextSlab b m k x start class) where
  -- another slab that begins below its second granule begins below what was taken over
  slab_below : (s c : ℕ) → m.slab s ≡ Some c → s < start + 1 → s ≢ start → s < k
  slab_below s c slab below differ = ⊎_elim (λ less. less) (λ (high : k ≤ s). absurd (next.between.no_slab s c slab high (omega (arith, below, differ)))) (cases_lt s k)

  -- no large block begins at its first granule
  no_block_here : (r : ℕ) (y : Range) → m.block r ≡ Some y → IsLarge y → 16384 * start ≤ y.at → y.at < 16384 * (start + 1) → ⊥
  no_block_here r y named large from below = next.adopted.of.apart.clear r y start class start named large next.slab (omega arith) (omega arith) (record { begins = below; ends = omega (arith, from, large) })

  block_before : (r : ℕ) (y : Range) → m.block r ≡ Some y → IsLarge y → y.at < 16384 * (start + 1) → y.at < 16384 * k
  block_before r y named large below = ⊎_elim
      (λ less. less)
      (λ (high : 16384 * k ≤ y.at). ⊎_elim
      (λ (before : y.at < 16384 * start). absurd (next.between.no_block r y named large high before))
      (λ (from : 16384 * start ≤ y.at). absurd (no_block_here r y named large from below))
      (cases_lt y.at (16384 * start)))
      (cases_lt y.at (16384 * k))

  slab_free_at : (granule : ℕ) → start ≤ granule → granule < start + 4 → IsFreeBelow b m k granule
  slab_free_at granule low high =
      let lies = next.adopted.of.apart.slabs start class next.slab in
      record {
        low = omega (arith, lies.0, low);
        high = omega (arith, lies.1, high);
        no_block = λ r y named large below. next.adopted.of.apart.clear r y start class granule named large next.slab low high;
        no_slab = λ s c slab below. ⊎_elim
            (λ before. inr (omega (arith, before, low)))
            (λ behind. absurd (omega (arith, behind, below, next.from)))
            (next.adopted.of.apart.slabs_apart s start c class (λ same. omega (arith, same, below, next.from)) slab next.slab);
      }

  pub slab_free : IsFreeRow (IsFree x.free) start 4
  slab_free = record { each = λ granule low high. (next.adopted.taken.free granule).1 (slab_free_at granule low high) }

  slab_granules_taken : (set : FreeSet) → ((granule : ℕ) → IsFree set granule ↔ (IsFree x.free granule × ((granule < start) ⊎ (start + 4 ≤ granule)))) → (granule : ℕ) → IsFree set granule ↔ IsFreeBelow b m (start + 1) granule
  slab_granules_taken set taken granule = (
    λ is.
        let both = (taken granule).0 is in
        let free = (next.adopted.taken.free granule).0 both.0 in
        record {
          low = free.low;
          high = free.high;
          no_block = λ r y named large below. free.no_block r y named large (block_before r y named large below);
          no_slab = λ s c slab below. ⊎_elim
              (λ (same : s ≡ start). subst (λ t. (granule < t) ⊎ (t + 4 ≤ granule)) (sym same) both.1)
              (λ (differ : s ≢ start). free.no_slab s c slab (slab_below s c slab below differ))
              (cases_eq s start);
        },
    λ free. (taken granule).1 (
      (next.adopted.taken.free granule).1 (free_lower k (start + 1) granule (omega (arith, next.from)) free),
      free.no_slab start class next.slab (omega arith),
    ),
  )

  -- no slab is there yet
  pub slab_fresh : class_in x.supply.slabs start ≡ None
  slab_fresh = next.adopted.taken.classes start ∙ cond-false (nat_lt start k) (m.slab start) None (le-ltb start k next.from)

  pub slab_clear : IsClearOf x.supply start
  slab_clear = record {
    apart = λ other c is.
        let there : (if nat_lt other k then m.slab other else None) ≡ Some c = sym (next.adopted.taken.classes other) ∙ is in
        ⊎_elim
        (λ (below : other < k).
        let slab : m.slab other ≡ Some c = sym (cond-true (nat_lt other k) (m.slab other) None (lt-ltb other k below)) ∙ there in
        next.adopted.of.apart.slabs_apart start other class c (λ same. omega (arith, same, below, next.from)) next.slab slab)
        (λ (high : k ≤ other). absurd (let none : None ≡ Some c = sym (cond-false (nat_lt other k) (m.slab other) None (le-ltb other k high)) ∙ there in cc))
        (cases_lt other k);
  }

  pub slab_taken : (set : FreeSet) (supply : Supply) (lives : Lives) (used : List ℕ) (normal : Bool) → set.granules ≡ x.free.granules →
      ((granule : ℕ) → IsFree set granule ↔ (IsFree x.free granule × ((granule < start) ⊎ (start + 4 ≤ granule)))) →
      ((i : ℕ) → i < class_capacity class → (has used i ≡ false) ↔ IsClearRange x.units (slab_block start class i)) →
      HasSlabMore x.supply supply start class (λ i. (i < class_capacity class) × (has used i ≡ false)) →
      (normal ≡ (slice_index x.strangers start == 0)) →
      lives.counts ≡ x.lives.counts →
      ((c s : ℕ) → is_unfit lives.unfit c s ≡ (if s == start then false else is_unfit x.lives.unfit c s)) →
      ((s : ℕ) → normal_at lives s ≡ with_key (normal_at x.lives) start (if normal then Some class else None) s) →
      AreAdopted b m b.roots (start + 1) (record { free = set; supply = supply; lives = lives; strangers = x.strangers; units = x.units })
  slab_taken set supply lives used normal size taken clear came is_normal counts unfit put = record {
    of = next.adopted.of;
    sized = let was = next.adopted.sized in record { least = was.least; most = was.most; first = was.first; roots = was.roots; free = size ∙ was.free; slabs = came.granules ∙ was.slabs; counts = ap (λ (l : List ℕ). length l) counts ∙ was.counts; strangers = was.strangers; units = was.units };
    counted = let was = next.adopted.counted in record {
      units = was.units;
      counts = λ s c slab. ap (λ (l : List ℕ). slice_index l s) counts ∙ was.counts s c slab;
      none = λ s no_slab. ap (λ (l : List ℕ). slice_index l s) counts ∙ was.none s no_slab;
      strangers = was.strangers;
    };
    taken = record {
      free = slab_granules_taken set taken;
      classes = classes;
      blocks = λ s c i below slab within. ⊎_elim
          (λ (same : s ≡ start). here s c i same slab within)
          (λ (differ : s ≢ start). iff_then (came.others s i differ) (next.adopted.taken.blocks s c i (slab_below s c slab below differ) slab within))
          (cases_eq s start);
      normal = normals;
      sought = λ s own c below slab. ⊎_elim
          (λ (same : s ≡ start). unfit c s ∙ at_start s start false (is_unfit x.lives.unfit c s) same)
          (λ (differ : s ≢ start). unfit c s ∙ off_start s start false (is_unfit x.lives.unfit c s) differ ∙ next.adopted.taken.sought s own c (slab_below s own slab below differ) slab)
          (cases_eq s start);
    };
  }
    where
      classes : (s : ℕ) → class_in supply.slabs s ≡ (if nat_lt s (start + 1) then m.slab s else None)
      classes s = came.classes s ∙ ⊎_elim
          (λ (same : s ≡ start).
          at_start s start (Some class) (class_in x.supply.slabs s) same ∙ sym next.slab ∙ ap m.slab (sym same) ∙ sym (cond-true (nat_lt s (start + 1)) (m.slab s) None (lt-ltb s (start + 1) (omega (arith, same)))))
          (λ (differ : s ≢ start).
          off_start s start (Some class) (class_in x.supply.slabs s) differ ∙ next.adopted.taken.classes s ∙ ⊎_elim
          (λ (below : s < k). cond-true (nat_lt s k) (m.slab s) None (lt-ltb s k below) ∙ sym (cond-true (nat_lt s (start + 1)) (m.slab s) None (lt-ltb s (start + 1) (omega (arith, below, next.from)))))
          (λ (high : k ≤ s). cond-false (nat_lt s k) (m.slab s) None (le-ltb s k high) ∙ ⊎_elim
          (λ (before : s < start + 1). sym (cond-true (nat_lt s (start + 1)) (m.slab s) None (lt-ltb s (start + 1) before) ∙ no_slab_at m s (λ c slab. next.between.no_slab s c slab high (omega (arith, before, differ)))))
          (λ (behind : start + 1 ≤ s). sym (cond-false (nat_lt s (start + 1)) (m.slab s) None (le-ltb s (start + 1) behind)))
          (cases_lt s (start + 1)))
          (cases_lt s k))
          (cases_eq s start)

      here_is : (i : ℕ) → i < class_capacity class → MayBeGiven supply start i ↔ IsUnused m (slab_block start class i)
      here_is i within =
          iff_then (came.here i) (iff_then (λ both. both.1, λ none. (within, none)) (iff_then (clear i within)
          (law_of_unused_blocks b m x.units start class class i (all_units x.units next.adopted.of.apart next.adopted.counted.units) next.adopted.of.apart next.slab (next.adopted.of.known start class next.slab) within)))

      here : (s c i : ℕ) → s ≡ start → m.slab s ≡ Some c → i < class_capacity c → MayBeGiven supply s i ↔ IsUnused m (slab_block s c i)
      here s c i same slab within =
          let class_is : c ≡ class = some_same c class (sym slab ∙ ap m.slab same ∙ next.slab) in
          subst (λ t. MayBeGiven supply t i ↔ IsUnused m (slab_block t c i)) (sym same) (subst (λ d. MayBeGiven supply start i ↔ IsUnused m (slab_block start d i)) (sym class_is) (here_is i (subst (λ d. i < class_capacity d) class_is within)))

      count_is : slice_index x.strangers start ≡ strangers_below m.block start class b.roots
      count_is = next.adopted.counted.strangers start class next.slab

      -- the slab is normal where it has no stranger
      normal_here : (c : ℕ) → normal_at lives start ≡ Some c ↔ ((start < start + 1) × (m.slab start ≡ Some c) × ¬ (IsInTransition m start))
      normal_here c = ⊎_elim
          (λ (calm : slice_index x.strangers start ≡ 0).
          let yes : normal ≡ true = is_normal ∙ eq-eqb (slice_index x.strangers start) 0 calm in
          let is : normal_at lives start ≡ Some class = put start ∙ at_start start start _ _ refl ∙ cond-true normal (Some class) None yes in
          let still = moving_none next.adopted.of.apart start class next.slab (sym count_is ∙ calm) in (
            λ said. (omega arith, next.slab ∙ sym is ∙ said, still),
            λ said. is ∙ sym next.slab ∙ said.1,
          ))
          (λ (some : slice_index x.strangers start ≢ 0).
          let no : normal ≡ false = is_normal ∙ ne_eqb (slice_index x.strangers start) 0 some in
          let is : normal_at lives start ≡ None = put start ∙ at_start start start _ _ refl ∙ cond-false normal (Some class) None no in (
            λ said. absurd (let both : None ≡ Some c = sym is ∙ said in cc),
            λ said. absurd (said.2 (moving_some next.adopted.of.apart start class next.slab (omega (arith, some, count_is)))),
          ))
          (cases_eq (slice_index x.strangers start) 0)

      normals : (s c : ℕ) → normal_at lives s ≡ Some c ↔ ((s < start + 1) × (m.slab s ≡ Some c) × ¬ (IsInTransition m s))
      normals s c = ⊎_elim
          (λ (same : s ≡ start). subst (λ t. normal_at lives t ≡ Some c ↔ ((t < start + 1) × (m.slab t ≡ Some c) × ¬ (IsInTransition m t))) (sym same) (normal_here c))
          (λ (differ : s ≢ start).
          let same_at : normal_at lives s ≡ normal_at x.lives s = put s ∙ off_start s start _ _ differ in (
            λ said. let was = (next.adopted.taken.normal s c).0 (sym same_at ∙ said) in (omega (arith, was.0, next.from), was.1, was.2),
            λ said. same_at ∙ (next.adopted.taken.normal s c).1 (slab_below s c said.1 said.0 differ, said.1, said.2),
          ))
          (cases_eq s start)

-- all is done

pub law_of_adopted_indexes : LawOfAdoptedIndexes
law_of_adopted_indexes b m x are = record {
  sized = are.sized;
  placed = are.of.placed;
  free = record {
    each = λ granule. (
      λ is.
          let free = (are.taken.free granule).0 is in
          record {
            low = free.low;
            high = free.high;
            no_block = λ root range named large. free.no_block root range named large (let whole = are.of.apart.large root range named large in omega (arith, whole.at, whole.size, whole.high, large));
            no_slab = λ s c slab. free.no_slab s c slab (below s c slab);
          },
      λ free. (are.taken.free granule).1 (record { low = free.low; high = free.high; no_block = λ root range named large _. free.no_block root range named large; no_slab = λ s c slab _. free.no_slab s c slab }),
    );
  };
  supply = record {
    known = are.of.known;
    classes = λ s. are.taken.classes s ∙ ⊎_elim
        (λ (less : s < b.granules). cond-true (nat_lt s b.granules) (m.slab s) None (lt-ltb s b.granules less))
        (λ (from : b.granules ≤ s). cond-false (nat_lt s b.granules) (m.slab s) None (le-ltb s b.granules from) ∙ sym (no_slab_at m s (λ c slab. let less = below s c slab in omega (arith, less, from))))
        (cases_lt s b.granules);
    blocks = λ s class i slab within. are.taken.blocks s class i (below s class slab) slab within;
  };
  lives = record {
    counts = are.counted.counts;
    none = are.counted.none;
    normal = λ s class. (λ is. let was = (are.taken.normal s class).0 is in (was.1, was.2), λ is. (are.taken.normal s class).1 (below s class is.0, is.0, is.1));
    unfit = λ s own class number slab known noted within unused. absurd (let sought = are.taken.sought s own class (below s own slab) slab in let both : false ≡ true = sym sought ∙ noted in cc);
  };
  strangers = record { each = are.counted.strangers };
  units = all_units x.units are.of.apart are.counted.units;
}
  where
    below : (s c : ℕ) → m.slab s ≡ Some c → s < b.granules
    below s c slab = let lies = are.of.apart.slabs s c slab in omega (arith, lies.1)
