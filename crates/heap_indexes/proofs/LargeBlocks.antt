-- A block of whole granules comes or goes: slabs, their blocks and their counts are as before.
use Rattle.std.proofs.Common.{◌≡◌, ◌⊎◌, ◌↔◌, ℕ, ◌+◌, ◌*◌, ◌<◌, ◌≤◌, List, Some, refl, sym, ap, ◌∙◌, arith, inl, inr, ⊎_elim}
use Rattle.heap_indexes.proofs.Common.{false_from_ne_true, class_capacity, Bounds, Machine, Range, AreApart, slab_block, IsLarge, IsUnused, IsOverlapFree, begins_in, live_below, IsInTransition, LiesIn-block, one_if, live_given, begins_in-true, begins_at, Supply, Lives, is_stranger, strangers_below, IsSupplyOf, AreLivesOf, AreStrangersOf}
use Rattle.heap_indexes.proofs.Machines.{IsOneMore, unused_less, unused_more}
use Rattle.heap_indexes.proofs.StrangerBlocks.{stranger_away, strangers_given, moving_more, moving_less}
use Rattle.heap_indexes.proofs.Supplies.{iff_then}
use Rattle.heap_model.proofs.Placing.{rows_apart}

module _ {b : Bounds} {less more : Machine} {root : ℕ} {range : Range} (one : IsOneMore b less more root range) (some : 0 < range.size)
    (off : (s c : ℕ) → less.slab s ≡ Some c → (range.at + range.size ≤ 16384 * s) ⊎ (16384 * s + 65536 ≤ range.at)) where
  away : (s c : ℕ) → less.slab s ≡ Some c → 16384 * s ≤ range.at → range.at < 16384 * s + 65536 → ⊥
  away s c slab low high = ⊎_elim (λ x. omega (arith, x, low, some)) (λ x. omega (arith, x, high)) (off s c slab)

  block_off : (s own c i : ℕ) → less.slab s ≡ Some own → i < class_capacity c → AreApart (slab_block s c i) range
  block_off s own c i slab within =
      let lies = LiesIn-block s c (slab_block s c i) (record { number = i; within = within; is = refl }) in
      ⊎_elim (λ before. inr (omega (arith, before, lies.low))) (λ behind. inl (omega (arith, behind, lies.high))) (off s own slab)

  unused_same : (s c i : ℕ) → less.slab s ≡ Some c → i < class_capacity c → IsUnused less (slab_block s c i) ↔ IsUnused more (slab_block s c i)
  unused_same s c i slab within = (unused_more one (slab_block s c i) (block_off s c c i slab within), unused_less one (slab_block s c i))

  count_same : (s c : ℕ) → less.slab s ≡ Some c → live_below more.block s b.roots ≡ live_below less.block s b.roots
  count_same s c slab =
      let given = live_given less.block more.block s b.roots root range one.rooted one.none one.some one.others in
      let is : one_if (begins_in s (Some range)) ≡ 0 = ap one_if (false_from_ne_true (begins_in s (Some range)) (λ begins. let at = begins_at s range (begins_in-true s (Some range) begins) in away s c slab at.0 at.1)) in
      omega (arith, given, is)

  strangers_as : (s c : ℕ) → less.slab s ≡ Some c → strangers_below more.block s c b.roots ≡ strangers_below less.block s c b.roots
  strangers_as s c slab =
      let given = strangers_given less.block more.block s c b.roots root range one.rooted one.none one.some one.others in
      let is : one_if (is_stranger s c (Some range)) ≡ 0 = ap one_if (stranger_away s c range (away s c slab)) in
      omega (arith, given, is)

  moving_as : (s c : ℕ) → less.slab s ≡ Some c → IsInTransition more s → IsInTransition less s
  moving_as s c slab = moving_less one s (λ c' slab' lies. absurd (away s c slab lies.low (omega (arith, lies.high, some))))

  pub supply_with : (supply : Supply) → IsSupplyOf less supply → IsSupplyOf more supply
  supply_with supply are = record {
    known = λ s c here. are.known s c (sym (one.slab s) ∙ here);
    classes = λ s. are.classes s ∙ sym (one.slab s);
    blocks = λ s c i here within. let was = sym (one.slab s) ∙ here in iff_then (are.blocks s c i was within) (unused_same s c i was within);
  }

  pub supply_without : (supply : Supply) → IsSupplyOf more supply → IsSupplyOf less supply
  supply_without supply are = record {
    known = λ s c was. are.known s c (one.slab s ∙ was);
    classes = λ s. are.classes s ∙ one.slab s;
    blocks = λ s c i was within. let same = unused_same s c i was within in iff_then (are.blocks s c i (one.slab s ∙ was) within) (same.1, same.0);
  }

  pub lives_with : (lives : Lives) → AreLivesOf b less lives → AreLivesOf b more lives
  lives_with lives are = record {
    counts = λ s c here. let was = sym (one.slab s) ∙ here in are.counts s c was ∙ sym (count_same s c was);
    none = λ s here. are.none s (sym (one.slab s) ∙ here);
    normal = λ s c. (
      λ is. let was = (are.normal s c).0 is in (one.slab s ∙ was.0, λ moving. was.1 (moving_as s c was.0 moving)),
      λ is. (are.normal s c).1 (sym (one.slab s) ∙ is.0, λ moving. is.1 (moving_more one s moving)),
    );
    unfit = λ s own c i here known noted within unused. are.unfit s own c i (sym (one.slab s) ∙ here) known noted within (unused_less one (slab_block s c i) unused);
  }

  pub lives_without : (lives : Lives) → AreLivesOf b more lives → AreLivesOf b less lives
  lives_without lives are = record {
    counts = λ s c was. are.counts s c (one.slab s ∙ was) ∙ count_same s c was;
    none = λ s was. are.none s (one.slab s ∙ was);
    normal = λ s c. (
      λ is. let here = (are.normal s c).0 is in (sym (one.slab s) ∙ here.0, λ moving. here.1 (moving_more one s moving)),
      λ is. (are.normal s c).1 (one.slab s ∙ is.0, λ moving. is.1 (moving_as s c is.0 moving)),
    );
    unfit = λ s own c i was known noted within unused. are.unfit s own c i (one.slab s ∙ was) known noted within (unused_more one (slab_block s c i) (block_off s own c i was within) unused);
  }

  pub strangers_with : (strangers : List ℕ) → AreStrangersOf b less strangers → AreStrangersOf b more strangers
  strangers_with strangers are = record { each = λ s c here. let was = sym (one.slab s) ∙ here in are.each s c was ∙ sym (strangers_as s c was) }

  pub strangers_without : (strangers : List ℕ) → AreStrangersOf b more strangers → AreStrangersOf b less strangers
  strangers_without strangers are = record { each = λ s c was. are.each s c (one.slab s ∙ was) ∙ strangers_as s c was }

-- the block of a state shares no byte with its slabs
pub large_off : (b : Bounds) (m : Machine) (root s c : ℕ) (range : Range) → IsOverlapFree b m → m.block root ≡ Some range → IsLarge range → m.slab s ≡ Some c → (range.at + range.size ≤ 16384 * s) ⊎ (16384 * s + 65536 ≤ range.at)
large_off b m root s c range apart named large slab =
    let whole = apart.large root range named large in
    ⊎_elim
    (λ before. inl (omega (arith, before, whole.at, whole.size)))
    (λ behind. inr (omega (arith, behind, whole.at)))
    (rows_apart whole.start whole.count s 4 (omega (arith, large, whole.size)) (omega arith)
    (λ k from to first last. apart.clear root range s c k named large slab first last (record { begins = omega (arith, from, whole.at); ends = omega (arith, to, whole.at, whole.size) })))
