-- An image and the roots of its keys: which block counts, and that the pairs of the rows are its map.
use Rattle.std.proofs.Common.{◌≡◌, ℕ, ◌+◌, ◌*◌, ◌/◌, ◌<◌, ◌≤◌, List, length, Option, Some, sym, ap, ◌∙◌, subst, arith, ⊎_elim, ext_get_or}
use Rattle.attach_dict.proofs.Common.{cases_lt, word_at, words_at, length-words_at, get_or-words_at, tables_of, Range, heap, IsExactImage, Keyed, KeyRoots, IsKeyed, LacksKey, state_in, has_state, root_place}
use Rattle.heap_check.proofs.ExactStates.{law_of_exact_state}
use Rattle.attach_dict.specs.Dict.{head_words, HasPair, IsPair, Counts, IsValueOf, value_of, IsDict}
use Rattle.attach_dict.specs.Reading.{HoldsPair}
use Rattle.attach_dict.specs.View.{value_in, pairs_in, CountsFor, HasKey, AreKeys}
use Rattle.attach_dict.proofs.Counting.{AllFit}
use Rattle.attach_dict.proofs.Keys.{key_or_none, rows_rising, row_value, row_none}

-- a block of an exact image lies inside it
pub block_inside : (words : List ℕ) (root : ℕ) (range : Range) → IsExactImage words → heap (tables_of words) root ≡ Some range → range.at + range.size ≤ 8 * length words
block_inside words root range exact named =
    let free = law_of_exact_state words (state_in words) exact (has_state words) in
    ⊎_elim
    (λ (large : 16384 < range.size). let whole = free.large root range named large in omega (arith, whole.at, whole.size, whole.high, exact.formed.size))
    (λ (small : range.size ≤ 16384).
    let lies = free.small root range named (λ large. omega (arith, large, small)) in
    omega (arith, lies.3.high, (free.slabs lies.0 lies.1 lies.2).1, exact.formed.size))
    (cases_lt 16384 range.size)

-- the value that is read of a block is that of its pair
pub value_in_is : (words : List ℕ) (root key number : ℕ) (value : List ℕ) → IsExactImage words → HasPair words root key number value → value_in words root ≡ value
unfolding value_in
value_in_is words root key number value exact pair =
    let place : (tables_of words).root root ≡ pair.range.at = root_place words root pair.range pair.named in
    let within : pair.range.at / 8 + head_words + length value ≤ length words = omega (arith, pair.wide, block_inside words root pair.range exact pair.named) in
    let is : value_in words root ≡ words_at words (pair.range.at / 8 + head_words) (length value) =
    ap (λ (at : ℕ). words_at words (at / 8 + head_words) (word_at words (at / 8 + 2))) place ∙ ap (λ (n : ℕ). words_at words (pair.range.at / 8 + head_words) n) pair.count_is in
    let count : length (words_at words (pair.range.at / 8 + head_words) (length value)) ≡ length value = length-words_at words (pair.range.at / 8 + head_words) (length value) within in
    is
    ∙ ext_get_or 0 (words_at words (pair.range.at / 8 + head_words) (length value)) value count (λ i low.
    let below : i < length value = omega (arith, low, count) in
    get_or-words_at words (pair.range.at / 8 + head_words) (length value) i below ∙ pair.each i below)

module _ (words : List ℕ) (exact : IsExactImage words) (keys : KeyRoots) (are : AreKeys words keys) where
  -- the root of a key counts for it
  pub counts_of : (r : Keyed) → IsKeyed keys r → Counts words r.root r.key (value_in words r.root)
  counts_of r is =
      let c : CountsFor words r = are.are r is in
      subst (λ (v : List ℕ). Counts words r.root r.key v) (sym (value_in_is words r.root r.key c.counts.number c.value exact c.counts.pair.has)) c.counts

  -- so its block is a pair
  pub holds_of : (r : Keyed) → IsKeyed keys r → HoldsPair words r.root
  holds_of r is = let c = are.are r is in record { key = r.key; number = c.counts.number; value = c.value; pair = c.counts.pair.has }

  -- and a key that the map lacks is no pair's
  pub none_of : (key : ℕ) → LacksKey keys key → (root number : ℕ) (value : List ℕ) → ¬ (IsPair words root key number value)
  none_of key none root number value pair = let has = are.each root key number value pair in none.none has.row has.is has.key_is

  value_at : (key : ℕ) (has : HasKey keys key) → value_of (pairs_in words keys.rows) key ≡ Some (value_in words has.row.root)
  value_at key has = subst (λ (k : ℕ). value_of (pairs_in words keys.rows) k ≡ Some (value_in words has.row.root)) has.key_is (row_value words keys are.sound has.row has.is)

  counts_at : (key : ℕ) (has : HasKey keys key) → Counts words has.row.root key (value_in words has.row.root)
  counts_at key has = subst (λ (k : ℕ). Counts words has.row.root k (value_in words has.row.root)) has.key_is (counts_of has.row has.is)

  -- the pairs of its rows are the map of the image
  pub dict_of : AllFit words → IsDict words (pairs_in words keys.rows)
  dict_of fit = record {
    fit = fit;
    rising = rows_rising words keys are.sound;
    each = λ key. ⊎_elim
        (λ (none : LacksKey keys key). subst (λ (v : Option (List ℕ)). IsValueOf words key v) (sym (row_none words keys are.sound key none)) (none_of key none))
        (λ (has : HasKey keys key). subst (λ (v : Option (List ℕ)). IsValueOf words key v) (sym (value_at key has)) (has.row.root, counts_at key has))
        (key_or_none keys key);
  }
