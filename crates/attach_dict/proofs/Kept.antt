-- What a dictionary keeps of its pairs while one block comes, goes or is written.
use Rattle.std.proofs.Common.{◌≡◌, ◌≢◌, ℕ, ◌<◌, List, Option, Some, None, inl, inr, sym, ◌∙◌, arith, ⊎_elim}
use Rattle.attach_dict.proofs.Common.{word_at, tables_of, Range, heap, IsWordOf, HaveSameHeap, KeepsBlocks}
use Rattle.attach_dict.specs.Dict.{Pair, stage, HasSome, HasNone, IsPair, Counts, IsFit, IsValueOf, value_of, IsDict, IsStaleRoot, IsGreatest, IsNextNumber, AreNumbersUpTo, LawOfKeptDicts}
use Rattle.attach_dict.proofs.Pairs.{pair_kept}

-- every root but the stage and one more names the block that it named, with its words
pub record KeepsRoots (old new : List ℕ) (but : ℕ) : Type 0 where
  pub blocks : (root : ℕ) → stage < root → root ≢ but → heap (tables_of new) root ≡ heap (tables_of old) root
  pub words : (root k : ℕ) (range : Range) → stage < root → root ≢ but → heap (tables_of old) root ≡ Some range → IsWordOf range k → word_at new k ≡ word_at old k

-- and the other way round
pub keeps_back : {old new : List ℕ} {but : ℕ} → KeepsRoots old new but → KeepsRoots new old but
keeps_back keeps = record {
  blocks = λ root low apart. sym (keeps.blocks root low apart);
  words = λ root k range low apart named word. sym (keeps.words root k range low apart (sym (keeps.blocks root low apart) ∙ named) word);
}

-- where the blocks that stay have their words
pub keeps_blocks : {old new : List ℕ} {but : ℕ} → ((root : ℕ) → root ≢ but → heap (tables_of new) root ≡ heap (tables_of old) root) → KeepsBlocks old new → KeepsRoots old new but
keeps_blocks same keeps = record {
  blocks = λ root low apart. same root apart;
  words = λ root k range low apart named word. keeps.each root root range k named (same root apart ∙ named) word;
}

module _ {old new : List ℕ} {but : ℕ} (keeps : KeepsRoots old new but) where
  pub some_to : {root : ℕ} → stage < root → root ≢ but → HasSome old root → HasSome new root
  some_to {root} low apart some = record { range = some.range; named = keeps.blocks root low apart ∙ some.named }

  pub none_to : {root : ℕ} → stage < root → root ≢ but → HasNone old root → HasNone new root
  none_to {root} low apart none = keeps.blocks root low apart ∙ none

  pub pair_to : {root key number : ℕ} {value : List ℕ} → root ≢ but → IsPair old root key number value → IsPair new root key number value
  pair_to {root} {key} {number} {value} apart was = record {
    low = was.low;
    has = pair_kept old new root root key number value was.has (keeps.blocks root was.low apart ∙ was.has.named) (λ k word. keeps.words root k was.has.range was.low apart was.has.named word);
  }

-- all roots but the stage
module _ {old new : List ℕ} (keeps : KeepsRoots old new stage) where
  apart_of : {words : List ℕ} {root key number : ℕ} {value : List ℕ} → IsPair words root key number value → root ≢ stage
  apart_of pair is = omega (arith, pair.low, is)

  pub pair_same : {root key number : ℕ} {value : List ℕ} → IsPair old root key number value → IsPair new root key number value
  pair_same was = pair_to keeps (apart_of was) was

  pub pair_back : {root key number : ℕ} {value : List ℕ} → IsPair new root key number value → IsPair old root key number value
  pair_back is = pair_to (keeps_back keeps) (apart_of is) is

  pub some_same : {root : ℕ} → stage < root → HasSome old root → HasSome new root
  some_same low some = some_to keeps low (λ is. omega (arith, is, low)) some

  pub some_back : {root : ℕ} → stage < root → HasSome new root → HasSome old root
  some_back low some = some_to (keeps_back keeps) low (λ is. omega (arith, is, low)) some

  pub fit_same : {root : ℕ} → IsFit old root → IsFit new root
  fit_same fit = record { key = fit.key; number = fit.number; value = fit.value; pair = pair_same fit.pair; once = λ lower v less is. fit.once lower v less (pair_back is) }

  pub counts_same : {root key : ℕ} {value : List ℕ} → Counts old root key value → Counts new root key value
  counts_same was = record { number = was.number; pair = pair_same was.pair; greatest = λ other n v is. was.greatest other n v (pair_back is) }

  pub counts_back : {root key : ℕ} {value : List ℕ} → Counts new root key value → Counts old root key value
  counts_back is = record { number = is.number; pair = pair_back is.pair; greatest = λ other n v was. is.greatest other n v (pair_same was) }

  value_same : (key : ℕ) (value : Option (List ℕ)) → IsValueOf old key value → IsValueOf new key value
  value_same key None none = λ root number value is. none root number value (pair_back is)
  value_same key (Some value) some = (some.0, counts_same some.1)

  -- it is the same dictionary
  pub dict_same : (pairs : List Pair) → IsDict old pairs → IsDict new pairs
  dict_same pairs was = record {
    fit = λ root low some. fit_same (was.fit root low (some_back low some));
    rising = was.rising;
    each = λ key. value_same key (value_of pairs key) (was.each key);
  }

  -- with the same stale roots and numbers
  pub stale_same : {root : ℕ} → IsStaleRoot old root → IsStaleRoot new root
  stale_same was = record { low = was.low; some = some_same was.low was.some; less = λ key value is. was.less key value (counts_back is) }

  pub numbers_same : (n : ℕ) → AreNumbersUpTo old n → AreNumbersUpTo new n
  numbers_same n up = record { each = λ root key number value is. up.each root key number value (pair_back is) }

  pub greatest_same : {number : ℕ} → IsGreatest old number → IsGreatest new number
  greatest_same was = record { root = was.root; key = was.key; value = was.value; pair = pair_same was.pair; most = λ other k n v is. was.most other k n v (pair_back is) }

  pub next_same : {number : ℕ} → IsNextNumber old number → IsNextNumber new number
  next_same next = ⊎_elim
      (λ some. inl (some.0, greatest_same some.1, some.2))
      (λ none. inr ((λ root key n value is. none.0 root key n value (pair_back is)), none.1))
      next

-- the same heap with the words of its blocks
pub keeps_heap : {old new : List ℕ} {but : ℕ} → HaveSameHeap old new → KeepsBlocks old new → KeepsRoots old new but
keeps_heap heap blocks = keeps_blocks (λ root apart. heap.each root) blocks

pub law_of_kept_dicts : LawOfKeptDicts
law_of_kept_dicts words image pairs heap blocks was = dict_same (keeps_heap heap blocks) pairs was
