-- Words that are written one after another: what is read behind them, what a crash leaves of them, and the state of the heap machine
-- in which they are words of a block.
use Rattle.std.proofs.Common.{◌≡◌, ◌⊎◌, ◌<◌, ◌≤◌, ◌+◌, ◌-◌, ◌*◌, ◌/◌, ◌≢◌, ℕ, suc, List, [], ◌∷◌, length, get_or, Some, refl, sym, ap, subst, ◌∙◌, arith, inl, inr, ⊎_elim}
use Rattle.std.proofs.lemmas.Bool.{cases_eq, cases_lt}
use Rattle.pmem_lines.specs.Words.{word_at}
use Rattle.pmem_lines.specs.Pmem.{PmemState, words_of}
use Rattle.pmem_lines.specs.Events.{reading}
use Rattle.pmem_lines.specs.Steps.{IsQuietStep}
use Rattle.durable_steps.specs.Rows.{IsOldOrNewRow}
use Rattle.durable_steps.proofs.Rows.{off_row, in_row}
use Rattle.heap_model.specs.Machine.{Bounds, Range, Machine, AreApart, IsOverlapFree}
use Rattle.heap_model.specs.Step.{with_value}
use Rattle.heap_model.specs.declared.call.Reply.TheVariants as replies
use Rattle.heap_check.specs.State.{HasValue}
use Rattle.heap_check.proofs.OffBlocks.{IsSameOffBlock}
use Rattle.arena_core.specs.Events.{words_events}
use Rattle.arena_core.specs.Payload.{with_values, IsWriteOf}

-- words

-- what is read behind them
off_words : (base : List ℕ) (at : ℕ) (words : List ℕ) (k : ℕ) → (k < at / 8) ⊎ (at / 8 + length words ≤ k) → word_at (reading base (words_events at words)) k ≡ word_at base k
off_words base at [] k off = refl
off_words base at (word ∷ words) k off = off_row base at (word ∷ words) k off

in_words : (base : List ℕ) (at : ℕ) (words : List ℕ) (k : ℕ) → at / 8 ≤ k → k < at / 8 + length words → k < length base → word_at (reading base (words_events at words)) k ≡ get_or words (k - at / 8) 0
in_words base at [] k low high inside = absurd (omega (arith, low, high))
in_words base at (word ∷ words) k low high inside = in_row base at (word ∷ words) k low high inside

-- a word that is none of a row is before it or behind it
pub outside : (from to k : ℕ) → (from ≤ k → k < to → ⊥) → (k < from) ⊎ (to ≤ k)
outside from to k off = ⊎_elim
    (λ before. inl before)
    (λ (low : from ≤ k). ⊎_elim
    (λ (high : k < to). absurd (off low high))
    (λ behind. inr behind)
    (cases_lt k to))
    (cases_lt k from)

-- a crash image differs in the words of the block alone that has them
pub off_block : {old left : List ℕ} {range : Range} {at : ℕ} {words : List ℕ} (from : ℕ) → at ≡ range.at + 8 * from → from + length words ≤ range.size / 8 → IsOldOrNewRow old at words left → IsSameOffBlock old left range
off_block from begins within row = grind arith

module _ {old new : PmemState} {at : ℕ} {words : List ℕ} (step : IsQuietStep old new (words_events at words) (IsOldOrNewRow (words_of old) at words)) (inside : at + 8 * length words ≤ 8 * length (words_of old)) where
  pub off_written : (k : ℕ) → (k < at / 8) ⊎ (at / 8 + length words ≤ k) → word_at (words_of new) k ≡ word_at (words_of old) k
  off_written k off = grind (arith, off_words)

  pub in_written : (k : ℕ) → at / 8 ≤ k → k < at / 8 + length words → word_at (words_of new) k ≡ get_or words (k - at / 8) 0
  in_written k low high = grind (arith, in_words)

  -- each word that a crash leaves is the old one, or the one behind the write
  pub either_word : (left : List ℕ) → IsOldOrNewRow (words_of old) at words left → (k : ℕ) → (word_at left k ≡ word_at (words_of old) k) ⊎ (word_at left k ≡ word_at (words_of new) k)
  either_word left row k = ⊎_elim
      (λ same. inl same)
      (λ inside. inr (inside.2 ∙ sym (in_written k inside.0 inside.1)))
      (row.each k)

  -- what is read behind them is one image of those
  pub row_written : IsOldOrNewRow (words_of old) at words (words_of new)
  row_written = record {
    same_length = step.appends.size;
    each = λ k. ⊎_elim
        (λ (before : k < at / 8). inl (off_written k (inl before)))
        (λ (from : at / 8 ≤ k). ⊎_elim
        (λ (within : k < at / 8 + length words). inr (from, within, in_written k from within))
        (λ (behind : at / 8 + length words ≤ k). inl (off_written k (inr behind)))
        (cases_lt k (at / 8 + length words)))
        (cases_lt k (at / 8));
  }

-- states

-- the word of a root and index is one of these, which begin at an index
record IsPut (root from : ℕ) (words : List ℕ) (other index word : ℕ) : Type 0 where
  pub root_is : other ≡ root
  pub low : from ≤ index
  pub high : index < from + length words
  pub is : get_or words (index - from) 0 ≡ word

-- it was there before, and is none of those that are written
record IsKept (m : Machine) (root from count other index word : ℕ) : Type 0 where
  pub was : m.value other index ≡ Some word
  pub apart : (other ≢ root) ⊎ ((index < from) ⊎ (from + count ≤ index))

-- one word is written
one_value : (m : Machine) (root from other index word written : ℕ) → (with_value m root from written).value other index ≡ Some word → ((other ≡ root) × (index ≡ from) × (written ≡ word)) ⊎ ((m.value other index ≡ Some word) × ((other ≢ root) ⊎ (index ≢ from)))
one_value m root from other index word written is = grind arith

at_later : (word : ℕ) (words : List ℕ) (i j : ℕ) → i ≡ suc j → get_or (word ∷ words) i 0 ≡ get_or words j 0
at_later word words i j is = rw is refl

at_first : (word : ℕ) (words : List ℕ) (i : ℕ) → i ≡ 0 → get_or (word ∷ words) i 0 ≡ word
at_first word words i is = rw is refl

-- so it is of a row with one word more in front
put_or_kept-next : (m : Machine) (root from first : ℕ) (words : List ℕ) (other index word : ℕ) → IsPut root (from + 1) words other index word ⊎ IsKept (with_value m root from first) root (from + 1) (length words) other index word →
    IsPut root from (first ∷ words) other index word ⊎ IsKept m root from (length (first ∷ words)) other index word
put_or_kept-next m root from first words other index word is = grind (arith, one_value, at_later, at_first)

-- a word of the state behind a write was written, or was there before
put_or_kept : (m : Machine) (root from : ℕ) (words : List ℕ) (other index word : ℕ) → (with_values m root from words).value other index ≡ Some word →
    IsPut root from words other index word ⊎ IsKept m root from (length words) other index word
put_or_kept m root from [] other index word is = inr (record { was = is; apart = inr (grind arith) })
put_or_kept m root from (first ∷ words) other index word is = put_or_kept-next m root from first words other index word (put_or_kept (with_value m root from first) root (from + 1) words other index word is)

-- blocks and slabs stay
pub parts_stay : (m : Machine) (root from : ℕ) (words : List ℕ) → ((with_values m root from words).block ≡ m.block) × ((with_values m root from words).slab ≡ m.slab)
parts_stay m root from [] = (refl, refl)
parts_stay m root from (word ∷ words) = parts_stay (with_value m root from word) root (from + 1) words

-- a word of another block, or by its index another of this one, is none of those that are written
off_range : (range own : Range) (from count index : ℕ) → from + count ≤ range.size / 8 → index < own.size / 8 → AreApart own range ⊎ ((own.at ≡ range.at) × ((index < from) ⊎ (from + count ≤ index))) →
    (own.at / 8 + index < range.at / 8 + from) ⊎ (range.at / 8 + from + count ≤ own.at / 8 + index)
off_range range own from count index within inside apart = grind arith

-- words of a root's block are these from an index on, and every other word is as before
pub record AreWordsPut (old : List ℕ) (range : Range) (from : ℕ) (words new : List ℕ) : Type 0 where
  pub here : (i : ℕ) → i < length words → word_at new (range.at / 8 + from + i) ≡ get_or words i 0
  pub off : (k : ℕ) → (k < range.at / 8 + from) ⊎ (range.at / 8 + from + length words ≤ k) → word_at new k ≡ word_at old k

module _ {b : Bounds} {m : Machine} {old new : List ℕ} {root from : ℕ} {words : List ℕ} {range : Range} (free : IsOverlapFree b m) (named : m.block root ≡ Some range) (within : from + length words ≤ range.size / 8) (put : AreWordsPut old range from words new) where
  -- a word that was there before
  kept_word : (other index word : ℕ) → HasValue old m other index word → IsKept m root from (length words) other index word → HasValue new (with_values m root from words) other index word
  kept_word other index word value kept =
      let one : other ≡ root → value.range ≡ range = λ same. let at_root : m.block root ≡ Some value.range = subst (λ r. m.block r ≡ Some value.range) same value.named in let its = named in cc in
      let off = off_range range value.range from (length words) index within value.within (⊎_elim
      (λ (same : other ≡ root). inr (ap (λ (x : Range). x.at) (one same), grind arith))
      (λ (apart : other ≢ root). inl (free.apart other root value.range range apart value.named named))
      (cases_eq other root)) in
      grind (arith, parts_stay, put.off)

  written_word : (other index word : ℕ) → IsPut root from words other index word → HasValue new (with_values m root from words) other index word
  written_word other index word is = grind (arith, parts_stay, put.here)

  -- the state behind the write has the words of the memory behind it
  pub values_written : ((other index word : ℕ) → m.value other index ≡ Some word → HasValue old m other index word) → (other index word : ℕ) → (with_values m root from words).value other index ≡ Some word → HasValue new (with_values m root from words) other index word
  values_written values other index word is = ⊎_elim (written_word other index word) (λ kept. kept_word other index word (values other index word kept.was) kept) (put_or_kept m root from words other index word is)

-- steps

-- words within the block are written
pub wrote : (b : Bounds) {m : Machine} {root : ℕ} (from : ℕ) (words : List ℕ) {range : Range} → root < b.roots → m.block root ≡ Some range → from + length words ≤ range.size / 8 → IsWriteOf b m root from words replies.Wrote (with_values m root from words)
wrote b {m} {root} from words {range} rooted named within = inr (grind arith, inl (record { range = range; named = named }, inr (grind arith, (refl, refl))))

-- more than it has are not
pub wrote_none : (b : Bounds) {m : Machine} {root : ℕ} (from : ℕ) (words : List ℕ) {range : Range} → root < b.roots → m.block root ≡ Some range → range.size / 8 < from + length words → IsWriteOf b m root from words replies.OutOfRange m
wrote_none b {m} {root} from words {range} rooted named past = inr (grind arith, inl (record { range = range; named = named }, inl (past, (refl, refl))))
