-- What the words of a map say of its units.
use Rattle.std.proofs.Common.{◌≡◌, ℕ, ◌+◌, ◌*◌, ◌/◌, ◌<◌, ◌≤◌, ◌↔◌, ⊎_elim, Bool, true, false, map, List, Option, Some, None, MatchOption, length, get_or, replicate, refl, sym, ap, ◌∙◌, arith}
use Rattle.std.specs.List.{range_with_len}
use Rattle.std.proofs.lemmas.Bool.{cases_lt, false_from_ne_true, both_ways}
use Rattle.std.proofs.lemmas.List.{get_or_past}
use Rattle.std.proofs.lemmas.List.FromFn.{get_or-map-range_with_len, length-map-range_with_len}
use Rattle.std.proofs.lemmas.Nat.{div-add-mod'}
use Rattle.size_classes.specs.Classes.{class_size}
use Rattle.heap_model.specs.Machine.{slab_block}
use Rattle.bit_words.specs.Numbers.{has}
use Rattle.bit_words.proofs.Bits.{has-zero, has-zeros}
use Rattle.unit_map.specs.Units.{Units, is_used, IsMarked, IsClear}
use Rattle.unit_map.specs.declared.block_row.BlockRow.{BlockRow}
use Rattle.unit_map.specs.Blocks.{first_unit, unit_count, IsClearRange, HasNoClearBlock, IsFirstClearBlock}
use Rattle.unit_map.specs.Kept.{marks_of, units_of, IsRangePut, HasNone, AreBlocksOf, IsFree, HasNoFree, IsFirstFree}

-- a mark by its bit
mark_of : (words : List ℕ) (k : ℕ) → get_or (marks_of words) k false ≡ has words k
unfolding marks_of
mark_of words k = ⊎_elim
    (λ (below : k < 64 * length words). get_or-map-range_with_len (has words) 0 (64 * length words) k k false below (omega arith))
    (λ (past : 64 * length words ≤ k).
    get_or_past (map (has words) (range_with_len 0 (64 * length words))) k false (omega (arith, length-map-range_with_len (has words) 0 (64 * length words)))
    ∙ sym (has-zero words k (get_or_past words (k / 64) 0 (omega arith))))
    (cases_lt k (64 * length words))

module _ (words : List ℕ) {units : Units} (is : units_of words ≡ units) where
  pub used_is : (k : ℕ) → is_used units k ≡ has words k
  unfolding is_used
  used_is k = sym (ap (λ u. is_used u k) is) ∙ mark_of words k

  pub granules_is : units.granules ≡ length words / 16
  granules_is = sym (ap (λ (u : Units). u.granules) is)

  -- none of a range is in the words, and none of its units is used
  pub clear_if_none : (first end from count : ℕ) → first ≡ from → end ≡ from + count → HasNone words first end true ↔ IsClear units from count
  clear_if_none first end from count low sum = (
    λ none. record { none = λ k past below. used_is k ∙ false_from_ne_true (has words k) (none.none k (omega (arith, past, low)) (omega (arith, below, sum))) },
    λ clear. record { none = λ k past below set. both_ways (has words k) (sym (used_is k) ∙ clear.none k (omega (arith, past, low)) (omega (arith, below, sum))) set },
  )

  -- blocks of a row are those of a class in a slab
  module _ (s c : ℕ) (row : BlockRow) (are : AreBlocksOf s c row) where
    pub free_is : (i : ℕ) → IsFree words row i ↔ IsClearRange units (slab_block s c i)
    free_is i =
        let bytes : i * class_size c ≡ 16 * (i * row.units) = ap (λ n. i * n) are.units ∙ omega arith in
        clear_if_none (row.first + i * row.units) (row.first + i * row.units + row.units) (first_unit (slab_block s c i)) (unit_count (slab_block s c i)) (omega (arith, bytes, are.first)) (omega (arith, bytes, are.first, are.units))

    -- a search in the row is one in the slab
    pub found_block : (from : ℕ) (found : Option ℕ) → MatchOption found (HasNoFree words row from) (IsFirstFree words row from) → MatchOption found (HasNoClearBlock units s c from) (IsFirstClearBlock units s c from)
    found_block from None none = record { none = λ i low high clear. none.none i low (omega (arith, high, are.count)) ((free_is i).1 clear) }
    found_block from (Some number) first = record {
      low = first.low;
      within = omega (arith, first.within, are.count);
      clear = (free_is number).0 first.free;
      first = λ i low before clear. first.first i low before ((free_is i).1 clear);
    }

-- a range of the words was put in or out
pub marked : (old new : List ℕ) {units : Units} (from count : ℕ) (on : Bool) → units_of old ≡ units → IsRangePut old from (from + count) on new → IsMarked units from count on (units_of new)
marked old new {units} from count on is put = record {
  granules = ap (λ n. n / 16) put.size ∙ sym (granules_is old is);
  these = λ k low high. used_is new refl k ∙ put.these k low high;
  others = λ k side. used_is new refl k ∙ put.others k side ∙ sym (used_is old is k);
}

-- none of words that are all 0
pub none_used : (n k : ℕ) → is_used (units_of (replicate n 0)) k ≡ false
none_used n k = used_is (replicate n 0) refl k ∙ has-zeros n k

-- the blocks of a class lie within the units of a slab
pub blocks_within : (size u count start : ℕ) → size ≡ 16 * u → count ≡ 63488 / size → 1024 * start + 128 + count * u ≤ 1024 * (start + 4)
blocks_within size u count start units is =
    let whole : count * size ≤ 63488 = omega (arith, div-add-mod' 63488 size, ap (λ q. q * size) is) in
    let row : count * size ≡ 16 * (count * u) = ap (λ q. count * q) units ∙ omega arith in
    omega (arith, whole, row)
