-- Room for a new pair: a free root, and a number above those of all pairs.
use Rattle.std.proofs.Common.{◌≡◌, ◌≢◌, ◌⊎◌, ℕ, ◌+◌, ◌-◌, ◌^◌, ◌<◌, ◌≤◌, List, length, get_or, Option, Some, None, inl, inr, refl, sym, ◌∙◌, subst, arith, ⊎_elim}
use Rattle.attach_dict.proofs.Common.{cases_eq, tables_of, Range, heap, bounds_of, IsExactImage, IsLeastOf, none_below, some_below, rooted, Keyed, KeyRoots, IsKeyed, IsGreatestOf}
use Rattle.attach_dict.specs.Dict.{stage, HasSome, HasNone, IsPair, IsGreatest, IsNextNumber, AreNumbersUpTo, AreNumbersSpent, IsFreeRoot, IsFull}
use Rattle.attach_dict.specs.Roots.{Roots, IsIn, AreRoots}
use Rattle.attach_dict.specs.Stages.{HasRoomForPair}
use Rattle.attach_dict.specs.View.{IsNumbered, IsVacant, AreFreeRoots, AreTables}
use Rattle.attach_dict.proofs.Kept.{KeepsRoots, keeps_back, some_to, greatest_same}
use Rattle.attach_dict.proofs.Less.{none_not_some}
use Rattle.attach_dict.proofs.Keys.{some_key}

-- a root names a block, or none
some_by : (words : List ℕ) (root : ℕ) (block : Option Range) → heap (tables_of words) root ≡ block → HasSome words root ⊎ HasNone words root
some_by words root None is = inr is
some_by words root (Some range) is = inl (record { range = range; named = is })

pub some_or_none : (words : List ℕ) (root : ℕ) → HasSome words root ⊎ HasNone words root
some_or_none words root = some_by words root (heap (tables_of words) root) refl

-- numbers

module _ (words : List ℕ) (exact : IsExactImage words) (keys : KeyRoots) (numbers : List ℕ) (free : Roots) (tables : AreTables words keys numbers free) (number : ℕ) (greatest : IsGreatestOf numbers number) where
  -- no pair has a greater number than the roots have
  pub most_number : (root key n : ℕ) (value : List ℕ) → IsPair words root key n value → n ≤ number
  most_number root key n value pair =
      omega (arith, greatest.most root, tables.numbers_are.each root key n value (rooted words root pair.has.range exact pair.has.named) pair)

  greatest_by : (root : ℕ) → IsNumbered words root number → IsGreatest words number
  greatest_by root n = record { root = root; key = n.key; value = n.value; pair = n.pair; most = λ other k m v pair. most_number other k m v pair }

  -- there is no pair and it is 0, or it is the greatest number of a pair
  abbrev pub IsGreatestOrNone : Type 0
  IsGreatestOrNone = (((root key n : ℕ) (value : List ℕ) → ¬ (IsPair words root key n value)) × (number ≡ 0)) ⊎ IsGreatest words number

  zero_or_none : number ≡ 0 → IsGreatestOrNone
  zero_or_none zero = ⊎_elim
      (λ (none : (r : Keyed) → ¬ (IsKeyed keys r)). inl ((λ root key n value pair. let has = tables.keys_are.each root key n value pair in none has.row has.is), zero))
      (λ (some : (r : Keyed) × IsKeyed keys r).
      let c = tables.keys_are.are some.0 some.1 in
      let is : c.counts.number ≡ number = omega (arith, zero, most_number some.0.root some.0.key c.counts.number c.value c.counts.pair) in
      inr (greatest_by some.0.root (record { key = some.0.key; value = c.value; pair = subst (λ (n : ℕ). IsPair words some.0.root some.0.key n c.value) is c.counts.pair })))
      (some_key keys)

  some_or_zero : (root : ℕ) → get_or numbers root 0 ≡ number → IsGreatestOrNone
  some_or_zero root is = ⊎_elim
      (λ (zero : number ≡ 0). zero_or_none zero)
      (λ (some : number ≢ 0). inr (greatest_by root (subst (λ (n : ℕ). IsNumbered words root n) is (tables.numbers_are.are root (λ none. some (sym is ∙ none))))))
      (cases_eq number 0)

  pub greatest_or_none : IsGreatestOrNone
  greatest_or_none = ⊎_elim zero_or_none (λ (at : (root : ℕ) × (root < length numbers) × (get_or numbers root 0 ≡ number)). some_or_zero at.0 at.2) greatest.is

  -- the one behind it is the number of a new pair
  pub next_number : IsNextNumber words (number + 1)
  next_number = ⊎_elim
      (λ none. inr (none.0, omega (arith, none.1)))
      (λ some. inl (number, some, refl))
      greatest_or_none

  -- the numbers are spent exactly where it is the last
  pub spent : number ≡ 2 ^ 64 - 1 → AreNumbersSpent words
  spent last = ⊎_elim
      (λ none. absurd (omega (arith, none.1, last)))
      (λ some. subst (λ (n : ℕ). IsGreatest words n) last some)
      greatest_or_none

  pub not_spent : number < 2 ^ 64 - 1 → ¬ (AreNumbersSpent words)
  not_spent less all = omega (arith, less, most_number all.root all.key (2 ^ 64 - 1) all.value all.pair)

  pub not_last : ¬ (AreNumbersSpent words) → number ≢ 2 ^ 64 - 1
  not_last room last = room (spent last)

-- a number that is next is above those of all pairs
pub next_above : (words : List ℕ) (number : ℕ) → IsNextNumber words number → (root key n : ℕ) (value : List ℕ) → IsPair words root key n value → n < number
next_above words number next root key n value pair = ⊎_elim
    (λ some. omega (arith, some.1.most root key n value pair, some.2))
    (λ none. absurd (none.0 root key n value pair))
    next

-- by one at most
pub next_most : (words : List ℕ) (number n : ℕ) → IsNextNumber words number → AreNumbersUpTo words n → number ≤ n + 1
next_most words number n next up = ⊎_elim
    (λ some. omega (arith, some.2, up.each some.1.root some.1.key some.0 some.1.value some.1.pair))
    (λ none. omega (arith, none.1))
    next

-- and is one number
pub next_once : (words : List ℕ) (one other : ℕ) → IsNextNumber words one → IsNextNumber words other → one ≡ other
next_once words one other a b = ⊎_elim
    (λ some. ⊎_elim
    (λ also. omega (arith, some.2, also.2, some.1.most also.1.root also.1.key also.0 also.1.value also.1.pair, also.1.most some.1.root some.1.key some.0 some.1.value some.1.pair))
    (λ none. absurd (none.0 some.1.root some.1.key some.0 some.1.value some.1.pair))
    b)
    (λ none. ⊎_elim
    (λ some. absurd (none.0 some.1.root some.1.key some.0 some.1.value some.1.pair))
    (λ also. none.1 ∙ sym also.1)
    b)
    a

-- roots

module _ (words : List ℕ) (free : Roots) (are_free : AreFreeRoots words (bounds_of words).roots free) where
  vacant_in : (root : ℕ) → IsVacant words (bounds_of words).roots root → ¬ (IsFull words)
  vacant_in root vacant full = none_not_some vacant.none (full.each root vacant.low vacant.high)

  -- every root has a block where none is free
  pub full_where : ((root : ℕ) → ¬ (IsIn free root)) → IsFull words
  full_where none = record { each = λ root low high. ⊎_elim (λ some. some) (λ (empty : HasNone words root). absurd (none root (are_free.each root (record { low = low; high = high; none = empty })))) (some_or_none words root) }

  pub full_counted : AreRoots free → free.count ≡ 0 → IsFull words
  full_counted are zero = full_where (λ root is. none_below (IsIn free) free.below free.count are.count_is zero root (are.inside root is) is)

  pub not_full : AreRoots free → free.count ≢ 0 → ¬ (IsFull words)
  not_full are some = let found = some_below (IsIn free) free.below free.count are.count_is (omega (arith, some)) in vacant_in found.0 (are_free.are found.0 found.2)

  -- a root is found where there is room, and it is the free one
  found_by : (found : Option ℕ) → IsLeastOf (IsIn free) found → ¬ (IsFull words) → (root : ℕ) × (found ≡ Some root) × IsFreeRoot words root
  found_by None none room = absurd (room (full_where none.none))
  found_by (Some root) least room =
      let vacant = are_free.are root least.here in (
        root,
        refl,
        record {
          low = vacant.low;
          high = vacant.high;
          none = vacant.none;
          least = λ other low below. ⊎_elim
              (λ some. some)
              (λ (empty : HasNone words other). absurd (omega (arith, below, least.least other (are_free.each other (record { low = low; high = omega (arith, below, vacant.high); none = empty })))))
              (some_or_none words other);
        },
      )

  pub found_free : (found : Option ℕ) → IsLeastOf (IsIn free) found → ¬ (IsFull words) → (root : ℕ) × (found ≡ Some root) × IsFreeRoot words root
  found_free found least room = found_by found least room

-- where the pairs stay, so does the room for one
pub room_same : {old new : List ℕ} → KeepsRoots old new stage → bounds_of new ≡ bounds_of old → HasRoomForPair old → HasRoomForPair new
room_same {old} {new} keeps bounds room = record {
  root = λ full. room.root (record { each = λ root low high. some_to (keeps_back keeps) low (λ is. omega (arith, is, low)) (full.each root low (subst (λ b. root < b.roots) (sym bounds) high)) });
  number = λ all. room.number (greatest_same (keeps_back keeps) all);
}
