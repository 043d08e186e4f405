-- Blocks side by side, found by the numbers that a set has or lacks.
use Rattle.std.proofs.Common.{◌≡◌, ◌≢◌, ◌↔◌, ℕ, ◌+◌, ◌-◌, ◌*◌, ◌/◌, ◌<◌, ◌≤◌, ⊎_elim, Bool, true, false, List, sym, ap, subst, ◌∙◌, arith}
use Rattle.std.proofs.lemmas.Bool.{cases_lt, cases_eq, cases_Bool, both_ways}
use Rattle.std.proofs.lemmas.Nat.{mul-le, row_fits, le-div, div_below, div-add-mod', mod_below}
use Rattle.bit_words.specs.Numbers.{has, IsPut}
use Rattle.bit_words.proofs.Bits.{put_here, put_beside}
use Rattle.unit_map.specs.declared.block_row.BlockRow.{BlockRow}
use Rattle.unit_map.specs.Kept.{HasNone, IsFirst, IsFree, HasNoFree, IsFirstFree, HasNoHeld, IsFirstHeld}

module _ (words : List ℕ) (row : BlockRow) (some : 0 < row.units) where
  -- a block among numbers that are not in the set
  free_among : (number i stop : ℕ) → number ≤ i → row.first + i * row.units + row.units ≤ stop →
      ((j : ℕ) → row.first + number * row.units ≤ j → j < stop → has words j ≢ true) → IsFree words row i
  free_among number i stop low within none = record {
    none = λ k past below. none k (omega (arith, past, mul-le number row.units i row.units low (omega arith))) (omega (arith, below, within));
  }

  -- and one among numbers that are
  held_among : (number i stop : ℕ) → number ≤ i → row.first + i * row.units + row.units ≤ stop →
      ((j : ℕ) → row.first + number * row.units ≤ j → j < stop → has words j ≢ false) → ¬ (IsFree words row i)
  held_among number i stop low within all free =
      let k = row.first + i * row.units in
      ⊎_elim
      (λ (is : has words k ≡ true). free.none k (omega arith) (omega arith) is)
      (λ (is : has words k ≡ false). all k (omega (arith, mul-le number row.units i row.units low (omega arith))) (omega arith) is)
      (cases_Bool (has words k))

  -- every block ends within the row
  block_within : (i : ℕ) → i < row.count → row.first + i * row.units + row.units ≤ row.first + row.count * row.units
  block_within i within = omega (arith, row_fits i row.units row.count row.units within (omega arith))

  -- the first number of the blocks from one on that the set has, or lacks
  module _ (number found : ℕ) (on : Bool) (first : IsFirst words (row.first + number * row.units) (row.first + row.count * row.units) on found) where
    -- its block
    abbrev pub next : ℕ
    next = (found - row.first) / row.units

    pub next-low : number ≤ next
    next-low = le-div number (found - row.first) row.units some (omega (arith, first.low))

    pub next-within : next < row.count
    next-within = div_below (found - row.first) row.units row.count some (omega (arith, first.low, first.high))

    next-begins : row.first + next * row.units ≤ found
    next-begins = omega (arith, first.low, div-add-mod' (found - row.first) row.units)

    next-ends : found < row.first + next * row.units + row.units
    next-ends = omega (arith, first.low, div-add-mod' (found - row.first) row.units, mod_below (found - row.first) row.units some)

    before_next : (i : ℕ) → i < next → row.first + i * row.units + row.units ≤ found
    before_next i low = omega (arith, next-begins, row_fits i row.units next row.units low (omega arith))

  module _ (from number : ℕ) (before : (i : ℕ) → from ≤ i → i < number → ¬ (IsFree words row i)) where
    -- the set has all numbers from a block on
    pub none_free : HasNone words (row.first + number * row.units) (row.first + row.count * row.units) false → HasNoFree words row from
    none_free all = record {
      none = λ i low high. ⊎_elim
          (λ (earlier : i < number). before i low earlier)
          (λ (later : number ≤ i). held_among number i (row.first + row.count * row.units) later (block_within i high) all.none)
          (cases_lt i number);
    }

    module _ (found : ℕ) (first : IsFirst words (row.first + number * row.units) (row.first + row.count * row.units) false found) where
      -- none before the block with the first number that it lacks is free
      none_before : (i : ℕ) → from ≤ i → i < next number found false first → ¬ (IsFree words row i)
      none_before i low high = ⊎_elim
          (λ (earlier : i < number). before i low earlier)
          (λ (later : number ≤ i). held_among number i found later (before_next number found false first i high) first.first)
          (cases_lt i number)

      -- nor is one up to it, where it is not
      pub none_up_to : ¬ (IsFree words row (next number found false first)) → (i : ℕ) → from ≤ i → i < next number found false first + 1 → ¬ (IsFree words row i)
      none_up_to held i low high = ⊎_elim
          (λ (earlier : i < next number found false first). none_before i low earlier)
          (λ (past : next number found false first ≤ i) free. held (let here : i ≡ next number found false first = omega (arith, past, high) in subst (IsFree words row) here free))
          (cases_lt i (next number found false first))

      -- where it is, it is the lowest
      pub first_is_free : from ≤ number → IsFree words row (next number found false first) → IsFirstFree words row from (next number found false first)
      first_is_free low free = record { low = omega (arith, low, next-low number found false first); within = next-within number found false first; free = free; first = none_before }

  -- the set has no number from a block on
  pub none_held : (from : ℕ) → HasNone words (row.first + from * row.units) (row.first + row.count * row.units) true → HasNoHeld words row from
  none_held from none = record {
    none = λ i low high. free_among from i (row.first + row.count * row.units) low (block_within i high) none.none;
  }

  -- the block with the first number that it has
  pub first_is_held : (from found : ℕ) (first : IsFirst words (row.first + from * row.units) (row.first + row.count * row.units) true found) → IsFirstHeld words row from (next from found true first)
  first_is_held from found first = record {
    low = next-low from found true first;
    within = next-within from found true first;
    held = λ free. free.none found (next-begins from found true first) (next-ends from found true first) first.is;
    first = λ i low high. free_among from i found low (before_next from found true first i high) first.first;
  }

-- what a set tells of the blocks below a number: it has those that are not free, and no other
pub record Tells (words : List ℕ) (row : BlockRow) (number : ℕ) (set : List ℕ) : Type 0 where
  pub low : number ≤ row.count
  pub told : (i : ℕ) → i < number → (has set i ≡ false) ↔ IsFree words row i
  pub later : (i : ℕ) → number ≤ i → has set i ≡ false

-- nothing was told
pub tells_none : (words : List ℕ) (row : BlockRow) (set : List ℕ) → ((i : ℕ) → has set i ≡ false) → Tells words row 0 set
tells_none words row set none = record { low = omega arith; told = λ i below. absurd (omega (arith, below)); later = λ i low. none i }

-- up to the next block that is not free
pub tells_more : (words : List ℕ) (row : BlockRow) (number held : ℕ) (set after : List ℕ) → Tells words row number set → IsFirstHeld words row number held → IsPut set held true after → Tells words row (held + 1) after
tells_more words row number held set after tells first put = record {
  low = omega (arith, first.within);
  told = λ i below. ⊎_elim
      (λ (here : i ≡ held). (
        λ out. absurd (both_ways (has after held) (ap (has after) (sym here) ∙ out) (put_here put)),
        λ free. absurd (first.held (subst (IsFree words row) here free)),
      ))
      (λ (there : i ≢ held). ⊎_elim
      (λ (earlier : i < number). (
        λ out. (tells.told i earlier).0 (sym (put_beside put i there) ∙ out),
        λ free. put_beside put i there ∙ (tells.told i earlier).1 free,
      ))
      (λ (later : number ≤ i). (
        λ out. first.first i later (omega (arith, below, there)),
        λ free. put_beside put i there ∙ tells.later i later,
      ))
      (cases_lt i number))
      (cases_eq i held);
  later = λ i low. put_beside put i (λ here. omega (arith, here, low)) ∙ tells.later i (omega (arith, low, first.low));
}

-- all blocks
pub tells_all : (words : List ℕ) (row : BlockRow) (number : ℕ) (set : List ℕ) → Tells words row number set → HasNoHeld words row number → (i : ℕ) → i < row.count → (has set i ≡ false) ↔ IsFree words row i
tells_all words row number set tells none i below = ⊎_elim
    (λ (earlier : i < number). tells.told i earlier)
    (λ (later : number ≤ i). (λ out. none.none i later below, λ free. tells.later i later))
    (cases_lt i number)
