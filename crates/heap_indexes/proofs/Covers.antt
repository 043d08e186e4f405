-- The blocks of a slab that a range covers, and how they are opened one after another.
use Rattle.std.proofs.Common.{◌≡◌, ◌≢◌, ◌⊎◌, ◌↔◌, ◌+◌, ◌-◌, ◌*◌, ◌/◌, ◌<◌, ◌≤◌, min, ⊎_elim, inl, inr, ℕ, refl, sym, ap, ◌∙◌, subst, arith}
use Rattle.std.proofs.Math.Nat.{mul-le-mul_right}
use Rattle.std.proofs.lemmas.Nat.{div-add-mod', mod_below}
use Rattle.heap_indexes.proofs.Common.{cases_eq, cases_lt, class_size, class_capacity, class_size-least, Range, slab_block, class_in, Supply, MayBeGiven, Units, IsClearRange, IsBlockAt, HasOpened, HasNoneOpen}
use Rattle.heap_indexes.specs.Kept.{HasOpenedOne, IsCovered}
use Rattle.heap_indexes.proofs.Supplies.{iff_then}
use Rattle.heap_model.proofs.Ranks.{ceil, before, not_before, behind, not_behind}

-- the blocks that a range covers, by where it begins behind the first block
pub covered : (start class off width : ℕ) (range : Range) → class < 36 → width ≡ class_size class → range.at ≡ 16384 * start + 2048 + off →
    IsCovered start class range (off / width) (min (ceil (off + range.size) width) (class_capacity class))
covered start class off width range is_class is at =
    let some : 0 < width = omega (arith, is, class_size-least class is_class) in
    subst (λ w. IsCovered start class range (off / w) (min (ceil (off + range.size) w) (class_capacity class))) (sym is) (by_size (subst (λ w. 0 < w) is some))
  where
    by_size : 0 < class_size class → IsCovered start class range (off / class_size class) (min (ceil (off + range.size) (class_size class)) (class_capacity class))
    by_size some =
        let size = class_size class in
        record {
          high = omega arith;
          inside = λ i low high apart. ⊎_elim
              (λ over. omega (arith, over, at, not_behind (off + range.size) size i some (omega (arith, high))))
              (λ under. omega (arith, under, at, not_before off size i some low))
              apart;
          outside = λ i within either. ⊎_elim
              (λ less. inr (omega (arith, at, before off size i less)))
              (λ past. inl (omega (arith, at, behind (off + range.size) size i some (omega (arith, within, past)))))
              either;
        }

-- a block by the byte that it begins at
pub number_at : (start class at base size : ℕ) (block : IsBlockAt start class at) → class < 36 → base ≡ 16384 * start + 2048 → size ≡ class_size class → (at - base) / size ≡ block.number
number_at start class at base size block is_class begins is =
    let off : at - base ≡ block.number * class_size class = omega (arith, block.is, begins) in
    let some : 0 < class_size class = omega (arith, class_size-least class is_class) in
    ap (λ n. n / size) off ∙ ap (λ s. block.number * class_size class / s) is ∙ mul_div (class_size class) block.number some
  where
    mul_div : (size n : ℕ) → 0 < size → n * size / size ≡ n
    mul_div size n some = omega (arith, div-add-mod' (n * size) size, mod_below (n * size) size some, div_times n size some)
      where
        div_times : (n size : ℕ) → 0 < size → (n ≤ n * size / size) × (n * size / size ≤ n)
        div_times n size some = (
          ⊎_elim (λ less. absurd (omega (arith, not_before (n * size) size (n * size / size) some (omega arith), mul-le-mul_right {m = n * size / size + 1} {n = n} size (omega (arith, less))))) (λ from. from) (cases_lt (n * size / size) n),
          ⊎_elim (λ less. absurd (omega (arith, before (n * size) size n less, some))) (λ from. from) (cases_lt n (n * size / size)),
        )

-- Of the blocks that a range covers those below a number are open where they are clear, and the others are not open.
pub record AreOpenedBelow (units : Units) (old : Supply) (start class : ℕ) (range : Range) (from number end : ℕ) (new : Supply) : Type 0 where
  pub granules : new.slabs.granules ≡ old.slabs.granules
  pub classes : (s : ℕ) → class_in new.slabs s ≡ class_in old.slabs s
  pub seen : (i : ℕ) → from ≤ i → i < number → MayBeGiven new start i ↔ IsClearRange units (slab_block start class i)
  pub rest : (i : ℕ) → (i < from) ⊎ (number ≤ i) → MayBeGiven new start i ↔ MayBeGiven old start i
  pub others : (s i : ℕ) → s ≢ start → MayBeGiven new s i ↔ MayBeGiven old s i
  pub stacks : new.stacks ≡ old.stacks

module _ (units : Units) (old : Supply) (start class : ℕ) (range : Range) where
  same_iff : {A : Type 0} → A ↔ A
  same_iff = (λ a. a, λ a. a)

  pub opened_first : (from end : ℕ) → AreOpenedBelow units old start class range from from end old
  opened_first from end = record {
    granules = refl;
    classes = λ s. refl;
    seen = λ i low high. absurd (omega (arith, low, high));
    rest = λ i either. (λ a. a, λ a. a);
    others = λ s i differ. (λ a. a, λ a. a);
    stacks = refl;
  }

  -- the next one is not open
  pub next_closed : (from number end : ℕ) (mid : Supply) → from ≤ number → number < end → IsCovered start class range from end → HasNoneOpen old start class range → AreOpenedBelow units old start class range from number end mid → ¬ (MayBeGiven mid start number)
  next_closed from number end mid low below covers none were may = none.none number (omega (arith, below, covers.high)) (covers.inside number low below) ((were.rest number (inr (omega arith))).0 may)

  pub opened_next : (from number end : ℕ) (mid new : Supply) → from ≤ number → HasOpenedOne units mid start class number new → AreOpenedBelow units old start class range from number end mid → AreOpenedBelow units old start class range from (number + 1) end new
  opened_next from number end mid new low one were = record {
    granules = one.granules ∙ were.granules;
    classes = λ s. one.classes s ∙ were.classes s;
    seen = λ i from_i below. ⊎_elim
        (λ (same : i ≡ number). subst (λ k. MayBeGiven new start k ↔ IsClearRange units (slab_block start class k)) (sym same) one.here)
        (λ (differ : i ≢ number). iff_then (one.others start i (inr differ)) (were.seen i from_i (omega (arith, below, differ))))
        (cases_eq i number);
    rest = λ i either.
        let differ : i ≢ number = λ same. omega (arith, same, either, low) in
        iff_then (one.others start i (inr differ)) (were.rest i (⊎_elim (λ less. inl less) (λ past. inr (omega (arith, past))) either));
    others = λ s i differ. iff_then (one.others s i (inl differ)) (were.others s i differ);
    stacks = one.stacks ∙ were.stacks;
  }

  pub opened_all : (from number end : ℕ) (new : Supply) → end ≤ number → number ≤ end ⊎ (number ≡ from) → IsCovered start class range from end → HasNoneOpen old start class range → AreOpenedBelow units old start class range from number end new → HasOpened units old start class range new
  opened_all from number end new all few covers none were = record {
    granules = were.granules;
    classes = were.classes;
    covered = λ i within overlaps. ⊎_elim
        (λ (less : i < from). absurd (overlaps (covers.outside i within (inl less))))
        (λ (low : from ≤ i). ⊎_elim
        (λ (below : i < end). were.seen i low (omega (arith, below, all)))
        (λ (past : end ≤ i). absurd (overlaps (covers.outside i within (inr past))))
        (cases_lt i end))
        (cases_lt i from);
    apart = λ i within off. ⊎_elim
        (λ (less : i < from). were.rest i (inl less))
        (λ (low : from ≤ i). ⊎_elim
        (λ (below : i < end). absurd (covers.inside i low below off))
        (λ (past : end ≤ i). were.rest i (inr (omega (arith, past, few, low))))
        (cases_lt i end))
        (cases_lt i from);
    others = were.others;
    stacks = were.stacks;
  }
