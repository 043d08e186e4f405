-- The roots of a state are counted, one by one.
use Rattle.std.proofs.Common.{◌≡◌, ◌≢◌, ◌==◌, ◌&&◌, not, ℕ, suc, ◌+◌, ◌*◌, ◌/◌, ◌<◌, ◌≤◌, Bool, true, false, List, length, slice_index, Option, Some, None, nat_lt, if◌then◌else◌, refl, sym, ap, ◌∙◌, arith, ⊎_elim}
use Rattle.heap_indexes.proofs.Common.{cases_eq, cases_lt, cond-true, cond-false, lt-ltb, false_from_ne_true, class_size, Bounds, Machine, Range, IsLarge, with_key, begins_in, live_below, one_if, begins_in-here, begins_in-true, begins_at, Lives, normal_at, Units, IsRangeMarked, AreUnitsOf, law_of_placed_units, Indexes, is_stranger, is_unfit}
use Rattle.std.proofs.lemmas.Bool.{le-ltb}
use Rattle.unit_map.proofs.StateUnits.{units_with_large}
use Rattle.heap_indexes.specs.Adopting.{rooted_below, AreCounted, AreTaken, AreAdopted, IsNextBlock, LawOfPassedRoots}
use Rattle.heap_indexes.proofs.Machines.{one_slab}
use Rattle.heap_indexes.proofs.LiveBlocks.{at_start, off_start, units_same}
use Rattle.heap_indexes.proofs.StrangerBlocks.{stranger_away}

-- the roots below a number and below the next one

rooted_more : (m : Machine) (n r : ℕ) → r ≢ n → (rooted_below m (suc n)).block r ≡ (rooted_below m n).block r
rooted_more m n r differ = ⊎_elim
    (λ (below : r < n). cond-true (nat_lt r (suc n)) (m.block r) None (lt-ltb r (suc n) (omega (arith, below))) ∙ sym (cond-true (nat_lt r n) (m.block r) None (lt-ltb r n below)))
    (λ (from : n ≤ r). cond-false (nat_lt r (suc n)) (m.block r) None (le-ltb r (suc n) (omega (arith, from, differ))) ∙ sym (cond-false (nat_lt r n) (m.block r) None (le-ltb r n from)))
    (cases_lt r n)

rooted_last : (m : Machine) (n : ℕ) → (rooted_below m (suc n)).block n ≡ m.block n
rooted_last m n = cond-true (nat_lt n (suc n)) (m.block n) None (lt-ltb n (suc n) (omega arith))

rooted_none : (m : Machine) (n : ℕ) → (rooted_below m n).block n ≡ None
rooted_none m n = cond-false (nat_lt n n) (m.block n) None (le-ltb n n (omega arith))

rooted_next : (m : Machine) (n : ℕ) (range : Range) → m.block n ≡ Some range → (r : ℕ) → (rooted_below m (suc n)).block r ≡ with_key (rooted_below m n).block n (Some range) r
rooted_next m n range named r = ⊎_elim
    (λ (here : r ≡ n). ap (rooted_below m (suc n)).block here ∙ rooted_last m n ∙ named ∙ sym (at_start r n (Some range) ((rooted_below m n).block r) here))
    (λ (there : r ≢ n). rooted_more m n r there ∙ sym (off_start r n (Some range) ((rooted_below m n).block r) there))
    (cases_eq r n)

-- what is taken over stays so

pub taken_kept : (b : Bounds) (m : Machine) (k : ℕ) (x : Indexes) (lives : Lives) (strangers : List ℕ) (units : Units) → ((s : ℕ) → normal_at lives s ≡ normal_at x.lives s) → lives.unfit ≡ x.lives.unfit →
    AreTaken b m k x → AreTaken b m k (record { free = x.free; supply = x.supply; lives = lives; strangers = strangers; units = units })
taken_kept b m k x lives strangers units normal unfit are = record {
  free = are.free;
  classes = are.classes;
  blocks = are.blocks;
  normal = λ s class. (λ is. (are.normal s class).0 (sym (normal s) ∙ is), λ is. normal s ∙ (are.normal s class).1 is);
  sought = λ s own class below slab. ap (λ (set : List ℕ). is_unfit set class s) unfit ∙ are.sought s own class below slab;
}

-- a root with a small block

module _ {b : Bounds} {m : Machine} {n k : ℕ} {x : Indexes} {start : ℕ} {range : Range} {stranger : Bool} (next : IsNextBlock b m n k x start range stranger) where
  some : 0 < range.size
  some = next.adopted.of.apart.sized n range next.named

  begins_here : begins_in start (m.block n) ≡ true
  begins_here = ap (begins_in start) next.named ∙ begins_in-here start range next.lies.low (omega (arith, next.lies.high, some))

  begins_once : (s c : ℕ) → m.slab s ≡ Some c → 16384 * s ≤ range.at → range.at < 16384 * s + 65536 → s ≡ start
  begins_once s c other low high = one_slab next.adopted.of.apart s start c next.class range.at other next.slab low high next.lies.low (omega (arith, next.lies.high, some))

  begins_there : (s c : ℕ) → m.slab s ≡ Some c → s ≢ start → begins_in s (m.block n) ≡ false
  begins_there s c other differ = ap (begins_in s) next.named ∙ false_from_ne_true (begins_in s (Some range)) (λ begins. let at = begins_at s range (begins_in-true s (Some range) begins) in differ (begins_once s c other at.0 at.1))

  stranger_here : is_stranger start next.class (m.block n) ≡ stranger
  stranger_here =
      let within : begins_in start (Some range) ≡ true = sym (ap (begins_in start) next.named) ∙ begins_here in
      ap (is_stranger start next.class) next.named ∙ ap (λ t. t && not (range.size == class_size next.class)) within ∙ sym next.differs

  stranger_there : (s c : ℕ) → m.slab s ≡ Some c → s ≢ start → is_stranger s c (m.block n) ≡ false
  stranger_there s c other differ = ap (is_stranger s c) next.named ∙ stranger_away s c range (λ low high. differ (begins_once s c other low high))

  -- the slab's number of live blocks can rise
  pub count_rises : slice_index x.lives.counts start ≡ live_below m.block start n
  count_rises = next.adopted.counted.counts start next.class next.slab

  pub root_below : n < b.roots
  root_below = next.adopted.of.apart.rooted n range next.named

  counted : (units : Units) (lives : Lives) (strangers : List ℕ) → IsRangeMarked x.units range units →
      ((s : ℕ) → slice_index lives.counts s ≡ (if s == start then slice_index x.lives.counts s + 1 else slice_index x.lives.counts s)) →
      ((s : ℕ) → slice_index strangers s ≡ (if s == start then slice_index x.strangers s + one_if stranger else slice_index x.strangers s)) →
      AreCounted b m (suc n) (record { free = x.free; supply = x.supply; lives = lives; strangers = strangers; units = units })
  counted units lives strangers marked raised put = record {
    units = law_of_placed_units (rooted_below m n) (rooted_below m (suc n)) n range x.units units next.adopted.counted.units (rooted_none m n) (rooted_next m n range next.named) next.small next.units marked;
    counts = λ s c here. ⊎_elim
        (λ (same : s ≡ start).
        let up = raised s ∙ at_start s start _ _ same in
        let was = next.adopted.counted.counts s c here in
        let one : one_if (begins_in s (m.block n)) ≡ 1 = ap (λ t. one_if (begins_in t (m.block n))) same ∙ ap one_if begins_here in
        omega (arith, up, was, one))
        (λ (differ : s ≢ start).
        let up = raised s ∙ off_start s start _ _ differ in
        let was = next.adopted.counted.counts s c here in
        let none : one_if (begins_in s (m.block n)) ≡ 0 = ap one_if (begins_there s c here differ) in
        omega (arith, up, was, none))
        (cases_eq s start);
    none = λ s no_slab.
        let differ : s ≢ start = λ same. absurd (let had : m.slab s ≡ Some next.class = ap m.slab same ∙ next.slab in cc) in
        raised s ∙ off_start s start _ _ differ ∙ next.adopted.counted.none s no_slab;
    strangers = λ s c here. ⊎_elim
        (λ (same : s ≡ start).
        let class_is : c ≡ next.class = (let one : Some c ≡ Some next.class = sym here ∙ ap m.slab same ∙ next.slab in cc) in
        let up = put s ∙ at_start s start _ _ same in
        let was = next.adopted.counted.strangers s c here in
        let is : one_if (is_stranger s c (m.block n)) ≡ one_if stranger = (λ i. one_if (is_stranger (same i) (class_is i) (m.block n))) ∙ ap one_if stranger_here in
        omega (arith, up, was, is))
        (λ (differ : s ≢ start).
        let up = put s ∙ off_start s start _ _ differ in
        let was = next.adopted.counted.strangers s c here in
        let none : one_if (is_stranger s c (m.block n)) ≡ 0 = ap one_if (stranger_there s c here differ) in
        omega (arith, up, was, none))
        (cases_eq s start);
  }

  -- the root is counted
  pub block_counted : (units : Units) (lives : Lives) (strangers : List ℕ) → IsRangeMarked x.units range units → length lives.counts ≡ length x.lives.counts →
      ((s : ℕ) → slice_index lives.counts s ≡ (if s == start then slice_index x.lives.counts s + 1 else slice_index x.lives.counts s)) → ((s : ℕ) → normal_at lives s ≡ normal_at x.lives s) → lives.unfit ≡ x.lives.unfit → length strangers ≡ length x.strangers →
      ((s : ℕ) → slice_index strangers s ≡ (if s == start then slice_index x.strangers s + one_if stranger else slice_index x.strangers s)) →
      AreAdopted b m (suc n) k (record { free = x.free; supply = x.supply; lives = lives; strangers = strangers; units = units })
  block_counted units lives strangers marked counts_size raised normal unfit strangers_size put = record {
    of = next.adopted.of;
    sized = let was = next.adopted.sized in record { least = was.least; most = was.most; first = was.first; roots = was.roots; free = was.free; slabs = was.slabs; counts = counts_size ∙ was.counts; strangers = strangers_size ∙ was.strangers; units = marked.granules ∙ was.units };
    counted = counted units lives strangers marked raised put;
    taken = taken_kept b m k x lives strangers units normal unfit next.adopted.taken;
  }

-- what the count of strangers is that was put, or not
pub put_one : (old new : List ℕ) (start count : ℕ) (stranger : Bool) → stranger ≡ true → count ≡ slice_index old start + 1 → ((s : ℕ) → slice_index new s ≡ (if s == start then count else slice_index old s)) →
    (s : ℕ) → slice_index new s ≡ (if s == start then slice_index old s + one_if stranger else slice_index old s)
put_one old new start count stranger sure is put s = ⊎_elim
    (λ (same : s ≡ start).
    let one : one_if stranger ≡ 1 = ap one_if sure in
    let here : slice_index old s ≡ slice_index old start = ap (slice_index old) same in
    put s ∙ at_start s start count (slice_index old s) same ∙ omega (arith, is, one, here) ∙ sym (at_start s start (slice_index old s + one_if stranger) (slice_index old s) same))
    (λ (differ : s ≢ start). put s ∙ off_start s start count (slice_index old s) differ ∙ sym (off_start s start (slice_index old s + one_if stranger) (slice_index old s) differ))
    (cases_eq s start)

pub put_none : (old : List ℕ) (start : ℕ) (stranger : Bool) → stranger ≡ false → (s : ℕ) → slice_index old s ≡ (if s == start then slice_index old s + one_if stranger else slice_index old s)
put_none old start stranger not_one s = ⊎_elim
    (λ (same : s ≡ start). let none : one_if stranger ≡ 0 = ap one_if not_one in omega (arith, none) ∙ sym (at_start s start (slice_index old s + one_if stranger) (slice_index old s) same))
    (λ (differ : s ≢ start). sym (off_start s start (slice_index old s + one_if stranger) (slice_index old s) differ))
    (cases_eq s start)

-- a root without one

-- the block of a root is none, or a large one
module _ {b : Bounds} {m : Machine} {n k : ℕ} {x : Indexes} (are : AreAdopted b m n k x) (large : (range : Range) → m.block n ≡ Some range → IsLarge range) where
  -- it begins in no slab
  begins_nowhere : (block : Option Range) → m.block n ≡ block → (s c : ℕ) → m.slab s ≡ Some c → begins_in s block ≡ false
  begins_nowhere None is s c slab = refl
  begins_nowhere (Some range) is s c slab = false_from_ne_true (begins_in s (Some range)) (λ begins.
      let at = begins_at s range (begins_in-true s (Some range) begins) in
      let big = large range is in
      are.of.apart.clear n range s c (range.at / 16384) is big slab (omega (arith, at.0)) (omega (arith, at.1)) (record { begins = omega arith; ends = omega (arith, big) }))

  stranger_nowhere : (block : Option Range) → m.block n ≡ block → (s c : ℕ) → m.slab s ≡ Some c → is_stranger s c block ≡ false
  stranger_nowhere None is s c slab = refl
  stranger_nowhere (Some range) is s c slab = ap (λ t. t && not (range.size == class_size c)) (begins_nowhere (Some range) is s c slab)

  units_passed : (block : Option Range) → m.block n ≡ block → AreUnitsOf (rooted_below m (suc n)) x.units
  units_passed None is = units_same (rooted_below m n) (rooted_below m (suc n)) x.units (λ r. ⊎_elim (λ (here : r ≡ n). ap (rooted_below m (suc n)).block here ∙ rooted_last m n ∙ is ∙ sym (rooted_none m n) ∙ ap (rooted_below m n).block (sym here)) (λ (there : r ≢ n). rooted_more m n r there) (cases_eq r n)) are.counted.units
  units_passed (Some range) is = units_with_large (rooted_below m n) (rooted_below m (suc n)) n range x.units are.counted.units (rooted_none m n) (rooted_next m n range is) (large range is)

  root_passed : AreAdopted b m (suc n) k x
  root_passed = record {
    of = are.of;
    sized = are.sized;
    counted = record {
      units = units_passed (m.block n) refl;
      counts = λ s c slab. let none : one_if (begins_in s (m.block n)) ≡ 0 = ap one_if (begins_nowhere (m.block n) refl s c slab) in let was = are.counted.counts s c slab in omega (arith, none, was);
      none = are.counted.none;
      strangers = λ s c slab. let none : one_if (is_stranger s c (m.block n)) ≡ 0 = ap one_if (stranger_nowhere (m.block n) refl s c slab) in let was = are.counted.strangers s c slab in omega (arith, none, was);
    };
    taken = are.taken;
  }

pub law_of_passed_roots : LawOfPassedRoots
law_of_passed_roots b m n k x are large = root_passed are large
