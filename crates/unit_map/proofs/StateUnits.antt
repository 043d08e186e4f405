-- The units of a state of the machine, and of the state after a block came or went.
use Rattle.std.proofs.Common.{◌≡◌, ◌≢◌, ◌⊎◌, ℕ, ◌+◌, ◌*◌, ◌/◌, ◌<◌, ◌≤◌, ⊎_elim, inl, inr, false, Some, None, refl, sym, subst, ap, ◌∙◌, arith}
use Rattle.std.proofs.lemmas.Bool.{cases_lt, both_ways, false_from_ne_true}
use Rattle.size_classes.specs.Classes.{class_size}
use Rattle.size_classes.proofs.Spacing.{class_size-aligned, class_size-least}
use Rattle.heap_model.specs.Machine.{Bounds, Range, Machine, AreApart, IsLarge, slab_block, with_key, IsOverlapFree}
use Rattle.heap_model.proofs.Maps.{with_key-here, with_key-other, with_key-cases}
use Rattle.heap_model.proofs.Slabbing.{LiesIn-block}
use Rattle.heap_model.proofs.Placing.{rows_apart}
use Rattle.unit_map.specs.Units.{Units, is_used}
use Rattle.unit_map.specs.Blocks.{first_unit, unit_count, IsOnUnits, IsClearRange, IsSmallLive, HasUnit, AreUnitsOf, LawOfPlacedUnits, LawOfFreedUnits, LawOfKeptUnits, LawOfUnusedBlocks}

-- what an option has
some_is : (x y : Range) → Some x ≡ Some y → x ≡ y
some_is x y is = cc

-- a unit is one of a range, or lies beside it
unit_cases : (k : ℕ) (range : Range) → IsOnUnits range →
    ((first_unit range ≤ k) × (k < first_unit range + unit_count range) × (range.at ≤ 16 * k) × (16 * k < range.at + range.size)) ⊎ (((k < first_unit range) ⊎ (first_unit range + unit_count range ≤ k)) × ((16 * k < range.at) ⊎ (range.at + range.size ≤ 16 * k)))
unit_cases k range on = ⊎_elim
    (λ (before : k < first_unit range). inr (inl before, inl (omega (arith, before, on.begins))))
    (λ (past : first_unit range ≤ k). ⊎_elim
    (λ (within : k < first_unit range + unit_count range). inl (past, within, omega (arith, past), omega (arith, within, on.begins, on.ends)))
    (λ (behind : first_unit range + unit_count range ≤ k). inr (inr behind, inr (omega (arith, behind, on.begins, on.ends))))
    (cases_lt k (first_unit range + unit_count range)))
    (cases_lt k (first_unit range))

-- a unit that lies beside a range is none of it
not_in : (k : ℕ) (range : Range) → (16 * k < range.at) ⊎ (range.at + range.size ≤ 16 * k) → range.at ≤ 16 * k → 16 * k < range.at + range.size → ⊥
not_in k range side low high = ⊎_elim (λ (before : 16 * k < range.at). omega (arith, before, low)) (λ (behind : range.at + range.size ≤ 16 * k). omega (arith, behind, high)) side

-- the range of a unit's block
of_range : (m : Machine) (k root : ℕ) (range : Range) → m.block root ≡ Some range → ¬ (IsLarge range) → range.at ≤ 16 * k → 16 * k < range.at + range.size → HasUnit m k
of_range m k root range named small low high = record { range = range; live = record { root = root; named = named; small = small }; low = low; high = high }

pub law_of_placed_units : LawOfPlacedUnits
law_of_placed_units m after root range units marked are free is small on mark = record {
  grid = λ other live. ⊎_elim
      (λ here. subst IsOnUnits (some_is range other here.1) on)
      (λ there. are.grid other (record { root = live.root; named = there.1; small = live.small }))
      (origin live.root other live.named);
  used = λ k. (
    λ yes. ⊎_elim
        (λ within. of_range after k root range (is root ∙ with_key-here m.block root (Some range)) small within.2 within.3)
        (λ beside.
        let had = (are.used k).0 (sym (mark.others k beside.0) ∙ yes) in
        of_range after k had.live.root had.range (is had.live.root ∙ with_key-other m.block root had.live.root (Some range) (other_root had.live.root had.range had.live.named) ∙ had.live.named) had.live.small had.low had.high)
        (unit_cases k range on),
    λ has. ⊎_elim
        (λ within. mark.these k within.0 within.1)
        (λ beside. mark.others k beside.0 ∙ ⊎_elim
        (λ here. absurd (not_in k has.range (subst (λ (r : Range). (16 * k < r.at) ⊎ (r.at + r.size ≤ 16 * k)) (some_is range has.range here.1) beside.1) has.low has.high))
        (λ there. (are.used k).1 (of_range m k has.live.root has.range there.1 has.live.small has.low has.high))
        (origin has.live.root has.range has.live.named))
        (unit_cases k range on),
  );
}
  where
    origin : (r : ℕ) (other : Range) → after.block r ≡ Some other → ((r ≡ root) × (Some range ≡ Some other)) ⊎ ((r ≢ root) × (m.block r ≡ Some other))
    origin r other named = with_key-cases m.block root r (Some range) (Some other) (sym (is r) ∙ named)

    other_root : (r : ℕ) (other : Range) → m.block r ≡ Some other → r ≢ root
    other_root r other named same = absurd (let had : m.block root ≡ Some other = ap m.block (sym same) ∙ named in cc)

pub law_of_freed_units : LawOfFreedUnits
law_of_freed_units b m after root range units cleared are was named is small clear = record {
  grid = λ other live. are.grid other (record { root = live.root; named = (origin live.root other live.named).1; small = live.small });
  used = λ k. (
    λ yes. ⊎_elim
        (λ within. absurd (both_ways (is_used cleared k) (clear.these k within.0 within.1) yes))
        (λ beside.
        let had = (are.used k).0 (sym (clear.others k beside.0) ∙ yes) in
        of_range after k had.live.root had.range (is had.live.root ∙ with_key-other m.block root had.live.root None (other_root k had.live.root had.range beside.1 had.live.named had.low had.high) ∙ had.live.named) had.live.small had.low had.high)
        (unit_cases k range on),
    λ has.
        let there = origin has.live.root has.range has.live.named in
        ⊎_elim
        (λ within. absurd (⊎_elim
        (λ (before : range.at + range.size ≤ has.range.at). omega (arith, before, within.3, has.low))
        (λ (behind : has.range.at + has.range.size ≤ range.at). omega (arith, behind, within.2, has.high))
        (was.apart root has.live.root range has.range (λ same. there.0 (sym same)) named there.1)))
        (λ beside. clear.others k beside.0 ∙ (are.used k).1 (of_range m k has.live.root has.range there.1 has.live.small has.low has.high))
        (unit_cases k range on),
  );
}
  where
    on : IsOnUnits range
    on = are.grid range (record { root = root; named = named; small = small })

    origin : (r : ℕ) (other : Range) → after.block r ≡ Some other → (r ≢ root) × (m.block r ≡ Some other)
    origin r other left = ⊎_elim (λ here. absurd (let none = here.1 in cc)) (λ there. there) (with_key-cases m.block root r None (Some other) (sym (is r) ∙ left))

    other_root : (k r : ℕ) (other : Range) → (16 * k < range.at) ⊎ (range.at + range.size ≤ 16 * k) → m.block r ≡ Some other → other.at ≤ 16 * k → 16 * k < other.at + other.size → r ≢ root
    other_root k r other side held low high same =
        let one : range ≡ other = some_is range other (sym named ∙ ap m.block (sym same) ∙ held) in
        not_in k other (subst (λ (x : Range). (16 * k < x.at) ⊎ (x.at + x.size ≤ 16 * k)) one side) low high

pub law_of_kept_units : LawOfKeptUnits
law_of_kept_units m after units are same = record {
  grid = λ range live. are.grid range ((same range).1 live);
  used = λ k. (
    λ yes. let had = (are.used k).0 yes in record { range = had.range; live = (same had.range).0 had.live; low = had.low; high = had.high },
    λ has. (are.used k).1 (record { range = has.range; live = (same has.range).1 has.live; low = has.low; high = has.high }),
  );
}

-- a large block came
pub units_with_large : (m after : Machine) (root : ℕ) (range : Range) (units : Units) → AreUnitsOf m units → m.block root ≡ None → ((r : ℕ) → after.block r ≡ with_key m.block root (Some range) r) → IsLarge range → AreUnitsOf after units
units_with_large m after root range units are free is large = law_of_kept_units m after units are (λ other. (
  λ live. record {
    root = live.root;
    named = is live.root ∙ with_key-other m.block root live.root (Some range) (λ same. absurd (let had : m.block root ≡ Some other = ap m.block (sym same) ∙ live.named in cc)) ∙ live.named;
    small = live.small;
  },
  λ live. ⊎_elim
      (λ here. absurd (live.small (subst IsLarge (some_is range other here.1) large)))
      (λ there. record { root = live.root; named = there.1; small = live.small })
      (with_key-cases m.block root live.root (Some range) (Some other) (sym (is live.root) ∙ live.named)),
))

-- a large block went
pub units_without_large : (m after : Machine) (root : ℕ) (range : Range) (units : Units) → AreUnitsOf m units → m.block root ≡ Some range → ((r : ℕ) → after.block r ≡ with_key m.block root None r) → IsLarge range → AreUnitsOf after units
units_without_large m after root range units are held is large = law_of_kept_units m after units are (λ other. (
  λ live. record {
    root = live.root;
    named = is live.root ∙ with_key-other m.block root live.root None (λ same. live.small (subst IsLarge (some_is range other (sym held ∙ ap m.block (sym same) ∙ live.named)) large)) ∙ live.named;
    small = live.small;
  },
  λ live. ⊎_elim
      (λ here. absurd (let none = here.1 in cc))
      (λ there. record { root = live.root; named = there.1; small = live.small })
      (with_key-cases m.block root live.root None (Some other) (sym (is live.root) ∙ live.named)),
))

-- where no small block is live, no unit is used
pub no_units : (m : Machine) (units : Units) → ((range : Range) → ¬ (IsSmallLive m range)) → ((k : ℕ) → is_used units k ≡ false) → AreUnitsOf m units
no_units m units none clear = record {
  grid = λ range live. absurd (none range live);
  used = λ k. (λ yes. absurd (both_ways (is_used units k) (clear k) yes), λ has. absurd (none has.range has.live));
}

-- two ranges that begin and end with a unit share one, or no byte
apart_if_clear : (m : Machine) (units : Units) (range other : Range) → AreUnitsOf m units → IsOnUnits range → 0 < range.size → IsSmallLive m other → 0 < other.size → IsClearRange units range → AreApart range other
apart_if_clear m units range other are on some live more clear =
    let grid = are.grid other live in
    let shared : (k : ℕ) → first_unit range ≤ k → k < first_unit range + unit_count range → other.at ≤ 16 * k → 16 * k < other.at + other.size → ⊥ =
    λ k low high from to. both_ways (is_used units k) (clear.none k low high) ((are.used k).1 (record { range = other; live = live; low = from; high = to })) in
    ⊎_elim
    (λ (low : other.at < range.at + range.size). ⊎_elim
    (λ (high : range.at < other.at + other.size). absurd (⊎_elim
    (λ (first : range.at < other.at). shared (other.at / 16) (omega (arith, first)) (omega (arith, low, on.begins, on.ends)) (omega arith) (omega (arith, more, grid.begins)))
    (λ (second : other.at ≤ range.at). shared (range.at / 16) (omega arith) (omega (arith, some, on.begins, on.ends)) (omega (arith, second, on.begins)) (omega (arith, high)))
    (cases_lt range.at other.at)))
    (λ (behind : other.at + other.size ≤ range.at). inr behind)
    (cases_lt range.at (other.at + other.size)))
    (λ (before : range.at + range.size ≤ other.at). inl before)
    (cases_lt other.at (range.at + range.size))

-- a large block shares no byte with a slab
apart_if_large : (b : Bounds) (m : Machine) (s class root : ℕ) (range other : Range) → IsOverlapFree b m → m.slab s ≡ Some class → 16384 * s ≤ range.at → range.at + range.size ≤ 16384 * s + 65536 →
    m.block root ≡ Some other → IsLarge other → AreApart range other
apart_if_large b m s class root range other was slab low high named large =
    let whole = was.large root other named large in
    ⊎_elim
    (λ before. inr (omega (arith, before, whole.at, whole.size, low)))
    (λ behind. inl (omega (arith, behind, whole.at, high)))
    (rows_apart whole.start whole.count s 4 (omega (arith, large, whole.size)) (omega arith)
    (λ k from to first last. was.clear root other s class k named large slab first last (record { begins = omega (arith, from, whole.at); ends = omega (arith, to, whole.at, whole.size) })))

-- a block of a slab begins and ends with a unit
pub block_on_units : (s c i : ℕ) → c < 36 → IsOnUnits (slab_block s c i)
block_on_units s c i known =
    let u = class_size c / 16 in
    let size : class_size c ≡ 16 * u = omega (arith, class_size-aligned c known) in
    let part : i * class_size c ≡ 16 * (i * u) = ap (λ n. i * n) size ∙ omega arith in
    record { begins = omega (arith, part); ends = class_size-aligned c known }

pub law_of_unused_blocks : LawOfUnusedBlocks
law_of_unused_blocks b m units s class c i are was slab known within =
    let block = slab_block s c i in
    let on = block_on_units s c i known in
    let lies = LiesIn-block s c block (record { number = i; within = within; is = refl }) in (
      λ clear. record {
        each = λ root other named. ⊎_elim
            (λ (large : 16384 < other.size). apart_if_large b m s class root block other was slab lies.low lies.high named large)
            (λ (small : other.size ≤ 16384).
            apart_if_clear m units block other are on (omega (arith, class_size-least c known)) (record { root = root; named = named; small = λ large. omega (arith, large, small) }) (was.sized root other named) clear)
            (cases_lt 16384 other.size);
      },
      λ unused. record {
        none = λ k low high. false_from_ne_true (is_used units k) (λ yes.
            let has = (are.used k).0 yes in
            ⊎_elim
            (λ (before : block.at + block.size ≤ has.range.at). omega (arith, before, has.low, high, on.begins, on.ends))
            (λ (behind : has.range.at + has.range.size ≤ block.at). omega (arith, behind, has.high, low, on.begins))
            (unused.each has.live.root has.range has.live.named));
      },
    )
