-- What the words of a block say of the pair that it is, and what is read of it.
use Rattle.std.proofs.Common.{◌≡◌, ℕ, ◌+◌, ◌/◌, ◌<◌, ◌≤◌, List, length, get_or, take, drop, Result, Ok, Err, IsOk, refl, sym, ap, ◌∙◌, subst, arith, ⊎_elim}
use Rattle.std.specs.Borrow.{Bor}
use Rattle.pmem_lines.specs.Words.{word_at, words_at}
use Rattle.attach_dict.proofs.Common.{length-words_at, get_or-words_at, Range, IsExactImage, BlockRefusal, AreWordsOf, IsViewOf, one_range, rooted}
use Rattle.arena_core.specs.declared.answer.BlockRefusal.TheVariants.{NoRoot, Empty, OutOfRange}
use Rattle.attach_dict.specs.declared.heads.Head.{Head}
use Rattle.attach_dict.specs.declared.reading.Reading.{Reading}
use Rattle.attach_dict.specs.declared.reading.Reading.TheVariants as readings
use Rattle.attach_dict.specs.Dict.{head_words, most_values, HasSome, HasPair}
use Rattle.attach_dict.specs.Reading.{HoldsPair, IsReadAs, AreWordsOfPair, AreWordsOfNone, IsReadOf}
use Rattle.attach_dict.specs.View.{value_in}
use Rattle.attach_dict.proofs.Pairs.{IsSamePair, pair_once}
use Rattle.attach_dict.proofs.Indexed.{value_in_is}

-- a list read by its words
word_in : (xs : List ℕ) (i : ℕ) → word_at xs i ≡ get_or xs i 0
unfolding word_at
word_in xs i = refl

module _ (words : List ℕ) (root : ℕ) (view : List ℕ) (are : AreWordsOf words root view) where
  -- a word of the view
  seen : (i : ℕ) → i < length view → get_or view i 0 ≡ word_at words (are.range.at / 8 + i)
  seen i low = ap (λ (ws : List ℕ). get_or ws i 0) are.is ∙ get_or-words_at words (are.range.at / 8) (are.range.size / 8) i (omega (arith, low, are.count))

  -- words of no pair
  module _ (key number : ℕ) (value : List ℕ) (pair : HasPair words root key number value) where
    range_is : pair.range ≡ are.range
    range_is = one_range pair.range are.range (sym pair.named ∙ are.named)

    room : head_words + length value ≤ length view
    room = omega (arith, pair.wide, are.count, ap (λ (r : Range). r.size) range_is)

    third : get_or view 2 0 ≡ length value
    third = seen 2 (omega (arith, room)) ∙ (ap (λ (r : Range). word_at words (r.at / 8 + 2)) (sym range_is) ∙ pair.count_is)

    pub not_none : ¬ (AreWordsOfNone view)
    not_none none = ⊎_elim
        (λ short. omega (arith, short, room))
        (λ rest. ⊎_elim (λ many. omega (arith, many, third, pair.few)) (λ cut. omega (arith, cut, third, room)) rest)
        none

  -- words of a pair
  module _ (h : Head) (is : AreWordsOfPair view h) where
    abbrev count : ℕ
    count = get_or view 2 0

    size : length (words_at view head_words count) ≡ count
    size = length-words_at view head_words count is.wide

    pub pair_seen : HasPair words root h.key h.number (words_at view head_words count)
    pair_seen =
        let wide : head_words + count ≤ length view = is.wide in
        let few : count ≤ most_values = is.few in
        record {
          range = are.range;
          named = are.named;
          few = omega (arith, size, few);
          wide = omega (arith, size, wide, are.count);
          key_is = sym (is.key_is ∙ (seen 0 (omega (arith, wide)) ∙ ap (word_at words) (omega arith)));
          number_is = sym (is.number_is ∙ seen 1 (omega (arith, wide)));
          count_is = sym (seen 2 (omega (arith, wide))) ∙ sym size;
          each = λ i low.
              let below : i < count = omega (arith, low, size) in
              ap (word_at words) (omega arith) ∙ (sym (seen (head_words + i) (omega (arith, below, wide))) ∙ (sym (word_in view (head_words + i)) ∙ sym (get_or-words_at view head_words count i below)));
        }

-- the view of a root's block that is a pair: how many words its value has, and the value
module _ (words : List ℕ) (root : ℕ) (view : List ℕ) (exact : IsExactImage words) (holds : HoldsPair words root) (are : AreWordsOf words root view) where
  abbrev n : ℕ
  n = get_or view 2 0

  n_is : n ≡ length holds.value
  n_is = third words root view are holds.key holds.number holds.value holds.pair

  pub room_in : head_words + n ≤ length view
  room_in = omega (arith, n_is, room words root view are holds.key holds.number holds.value holds.pair)

  pub few_in : n ≤ most_values
  few_in = omega (arith, n_is, holds.pair.few)

  of_pair : AreWordsOfPair view (record { key = get_or view 0 0; number = get_or view 1 0; root = root })
  of_pair = record { key_is = refl; number_is = refl; few = few_in; wide = room_in }

  same_value : IsSamePair holds.key (get_or view 0 0) holds.number (get_or view 1 0) holds.value (words_at view head_words n)
  same_value = pair_once words root holds.key (get_or view 0 0) holds.number (get_or view 1 0) holds.value (words_at view head_words n) holds.pair (pair_seen words root view are (record { key = get_or view 0 0; number = get_or view 1 0; root = root }) of_pair)

  pub lent_value : (many : ℕ) → many ≡ n → take many (drop head_words view) ≡ value_in words root
  unfolding words_at
  lent_value many is = ap (λ (k : ℕ). take k (drop head_words view)) is ∙ (sym same_value.value_is ∙ sym (value_in_is words root holds.key holds.number holds.value exact holds.pair))

pub read_as : (words : List ℕ) (root : ℕ) (view : List ℕ) (reading : Reading) → AreWordsOf words root view → IsReadOf view root reading → IsReadAs words root reading
read_as words root view readings.Empty are is = absurd is
read_as words root view readings.Unfit are none = record {
  some = record { range = are.range; named = are.named };
  none = λ key number value pair. not_none words root view are key number value pair none;
}
read_as words root view (readings.Pair h) are is = (
  is.0,
  record {
    value = words_at view head_words (get_or view 2 0);
    pair = subst (λ (n : ℕ). HasPair words n h.key h.number (words_at view head_words (get_or view 2 0))) (sym is.0) (pair_seen words root view are h is.1);
  },
)

-- a block that a root has is lent
pub lent_ok : (words : List ℕ) (root : ℕ) (view : Result (Bor (List ℕ)) BlockRefusal) → IsExactImage words → HasSome words root → IsViewOf words root view → IsOk view
lent_ok words root (Ok view) exact some is = refl
lent_ok words root (Err NoRoot) exact some past = absurd (omega (arith, past, rooted words root some.range exact some.named))
lent_ok words root (Err Empty) exact some none = absurd (let named = some.named in let gone = none.1 in cc (named, gone))
lent_ok words root (Err OutOfRange) exact some never = absurd never

-- the view that a call lent
pub view_of : (words : List ℕ) (root : ℕ) (result : Result (Bor (List ℕ)) BlockRefusal) (view : Bor (List ℕ)) → result ≡ Ok view → IsViewOf words root result → AreWordsOf words root view.now
view_of words root result view is lent = subst (λ (r : Result (Bor (List ℕ)) BlockRefusal). IsViewOf words root r) is lent
