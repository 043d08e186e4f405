-- The words of version 2, by the steps that made them.
use Rattle.std.proofs.Common.{◌≡◌, ◌≢◌, ◌⊎◌, inl, inr, ⊎_elim, ℕ, ◌+◌, ◌-◌, ◌*◌, ◌<◌, ◌≤◌, List, ◌++◌, length, take, drop, get_or, sym, ap, subst, ◌∙◌, arith, length-append, length-drop}
use Rattle.std.proofs.Math.ListN.{get_or-append}
use Rattle.std.proofs.lemmas.List.{get_or-append_right, get_or-drop, take-append-le, take_all}
use Rattle.std.proofs.Math.Seq.{take-length}
use Rattle.std.proofs.lemmas.Nat.{mul-le}
use Rattle.pmem_lines.specs.Words.{word_at, AreZeros}
use Rattle.image_raise.proofs.Common.{PoolHeader, Layout, text_word, fields_word, directory_word, root_word, wal_word, log_start, entry_slot, heap_word, fields_of, version_in, granules_in, IsPoolHeader, IsHeader, first_row, second_row, second_version, wal_lines, entry_slot-low, entry_slot-high, entry_slot-same, log_start-low, header_in}
use Rattle.pool_layout.specs.Layout.{layout_of, all_granules}
use Rattle.pool_layout.proofs.Headers.{fields_of-header_word, header_fits}
use Rattle.image_tables.proofs.Stores.{few_lines}
use Rattle.image_raise.specs.Rise.{rise, raised_at, raised_header}
use Rattle.image_raise.specs.Front.{IsRaisedWord, IsFilledFront}
use Rattle.image_raise.proofs.Rows.{heap_rises, more_roots, fits_now, roots_end, root_low, log_low}

-- Word by word, what stands in words of version 2 that are raised ones of version 1. A word that is neither in the header
-- line, nor a root's, nor of an entry, nor in the heap may be another.
pub record IsRaisedWords (words new : List ℕ) : Type 0 where
  pub header : IsHeader new (header_in new)
  pub version : version_in new ≡ 2
  pub granules : granules_in new ≡ granules_in words + rise
  pub size : length new ≡ length words + 2048 * rise
  pub directory : word_at new directory_word ≡ word_at words directory_word
  pub wal : (line : ℕ) → line < wal_lines → word_at new (wal_word line) ≡ 0
  pub root : (root : ℕ) → root < (layout_of 1).roots → word_at new (root_word root) ≡ raised_at rise (word_at words (root_word root))
  pub no_root : (root : ℕ) → (layout_of 1).roots ≤ root → root < (layout_of 2).roots → word_at new (root_word root) ≡ 0
  pub entry : (chunk entry : ℕ) → chunk < 16 → entry < (layout_of 1).chunk_entries → IsRaisedWord (granules_in words) (word_at words (entry_slot 1 chunk entry)) (word_at new (entry_slot 2 chunk entry))
  pub no_entry : (chunk entry : ℕ) → chunk < 16 → (layout_of 1).chunk_entries ≤ entry → entry < (layout_of 2).chunk_entries → word_at new (entry_slot 2 chunk entry) ≡ 0
  pub heap : (k : ℕ) → heap_word 1 ≤ k → word_at new (k + 2048 * rise) ≡ word_at words k

-- a pool of version 1 has room in version 2
pub raised_valid : (header : PoolHeader) → IsPoolHeader header → header.version ≡ 1 → IsPoolHeader (raised_header header)
unfolding all_granules
raised_valid header valid version =
    let least : 16 ≤ header.granules = omega (arith, valid.least, ap (λ v. (layout_of v).least_granules) version, ap (λ (row : Layout). row.least_granules) first_row) in
    let most : header.granules ≤ 1024 = omega (arith, valid.greatest, ap (λ v. (layout_of v).most_granules) version, ap (λ (row : Layout). row.most_granules) first_row) in
    record {
      version = second_version;
      some = valid.some;
      most = valid.most;
      number = valid.number;
      least = omega (arith, least, ap (λ (row : Layout). row.least_granules) second_row);
      greatest = omega (arith, most, ap (λ (row : Layout). row.most_granules) second_row);
      together = mul-le header.arenas (header.granules + rise) 16 1033 valid.most (omega (arith, most));
    }

module _ {words : List ℕ} {header : PoolHeader} {blank front : List ℕ} (none : AreZeros blank) (size : length blank ≡ heap_word 2) (are : IsFilledFront words header blank front) where
  long : length front ≡ heap_word 2
  long = are.log.size ∙ are.roots.size ∙ are.line.size ∙ size

  -- a word that is not of the log
  before_log : (k : ℕ) → k < log_start 2 → word_at front k ≡ word_at are.rooted k
  before_log k low = are.log.rest k (λ chunk entry small less same. omega (arith, low, same, entry_slot-low 2 chunk entry))

  line_word : (k : ℕ) → k < 3 → word_at front k ≡ word_at are.headed k
  line_word k low = before_log k (omega (arith, low, log_start-low 2)) ∙ are.roots.rest k (inl (omega (arith, low)))

  -- a word that no step names
  pub untouched : (k : ℕ) → 3 ≤ k → (k < 2048) ⊎ (root_word (layout_of 1).roots ≤ k) → ((chunk entry : ℕ) → chunk < 16 → entry < (layout_of 1).chunk_entries → k ≢ entry_slot 2 chunk entry) → word_at front k ≡ 0
  untouched k behind apart unnamed =
      are.log.rest k unnamed
      ∙ are.roots.rest k (⊎_elim (λ (low : k < 2048). inl (omega (arith, low))) (λ (high : root_word (layout_of 1).roots ≤ k). inr high) apart)
      ∙ are.line.rest k (omega (arith, behind)) ∙ none.each k

  module _ (valid : IsPoolHeader header) (version : header.version ≡ 1) (granules : header.granules ≡ granules_in words) (whole : length words ≡ 2048 * granules_in words) (inside : heap_word 1 ≤ length words) where
    abbrev new : List ℕ
    new = front ++ drop (heap_word 1) words

    front_word : (k : ℕ) → k < heap_word 2 → word_at new k ≡ word_at front k
    unfolding word_at
    front_word k below = get_or-append front (drop (heap_word 1) words) 0 k (omega (arith, below, long))

    low_word : (k : ℕ) → k < log_start 2 → word_at new k ≡ word_at front k
    low_word k low = front_word k (omega (arith, low, log_low 2))

    heap_now : (k : ℕ) → heap_word 1 ≤ k → word_at new (k + 2048 * rise) ≡ word_at words k
    unfolding word_at
    heap_now k past =
        get_or-append_right front (drop (heap_word 1) words) (heap_word 2) (k + 2048 * rise) 0 long (omega (arith, past, heap_rises))
        ∙ get_or-drop (heap_word 1) words (k + 2048 * rise - heap_word 2) 0
        ∙ ap (λ i. get_or words i 0) (omega (arith, past, heap_rises))

    size_now : length new ≡ length words + 2048 * rise
    size_now = omega (arith, length-append front (drop (heap_word 1) words), long, length-drop (heap_word 1) words, heap_rises, inside)

    pub header_now : IsHeader new (raised_header header)
    header_now = record {
      whole = omega (arith, size_now);
      text = low_word text_word (omega (arith, log_start-low 2)) ∙ line_word text_word (omega arith) ∙ are.line.text;
      word = low_word fields_word (omega (arith, log_start-low 2)) ∙ line_word fields_word (omega arith) ∙ are.line.fields;
      valid = raised_valid header valid version;
    }

    header_is : header_in new ≡ raised_header header
    header_is = ap fields_of header_now.word ∙ fields_of-header_word (raised_header header) (header_fits (raised_header header) header_now.valid)

    pub raised_by : IsRaisedWords words new
    raised_by = record {
      header = subst (IsHeader new) (sym header_is) header_now;
      version = ap (λ (h : PoolHeader). h.version) header_is;
      granules = ap (λ (h : PoolHeader). h.granules) header_is ∙ ap (λ n. n + rise) granules;
      size = size_now;
      directory = low_word directory_word (omega (arith, log_start-low 2)) ∙ line_word directory_word (omega arith) ∙ are.line.directory;
      wal = λ line below.
          let low : wal_word line < 2048 = omega (arith, below, few_lines) in
          low_word (wal_word line) (omega (arith, low, log_start-low 2))
          ∙ untouched (wal_word line) (omega arith) (inl low) (λ chunk entry small less same. omega (arith, low, same, entry_slot-low 2 chunk entry, log_start-low 2));
      root = λ root below.
          let low = root_low 2 root (omega (arith, below, more_roots)) in
          low_word (root_word root) low ∙ before_log (root_word root) low ∙ are.roots.each root below;
      no_root = λ root past below.
          let low = root_low 2 root below in
          low_word (root_word root) low
          ∙ untouched (root_word root) (omega arith) (inr (omega (arith, past))) (λ chunk entry small less same. omega (arith, low, same, entry_slot-low 2 chunk entry));
      entry = λ chunk entry small less.
          subst (λ n. IsRaisedWord n (word_at words (entry_slot 1 chunk entry)) (word_at new (entry_slot 2 chunk entry))) granules
          (subst (IsRaisedWord header.granules (word_at words (entry_slot 1 chunk entry))) (sym (front_word (entry_slot 2 chunk entry) (entry_slot-high 2 chunk entry small (fits_now entry less)))) (are.log.each chunk entry small less));
      no_entry = λ chunk entry small past less.
          front_word (entry_slot 2 chunk entry) (entry_slot-high 2 chunk entry small less)
          ∙ untouched (entry_slot 2 chunk entry) (omega (arith, entry_slot-low 2 chunk entry, log_start-low 2)) (inr (omega (arith, entry_slot-low 2 chunk entry, more_roots, roots_end 2)))
          (λ other place low below same. omega (arith, past, below, (entry_slot-same 2 chunk other entry place less (fits_now place below) same).1));
      heap = heap_now;
    }

-- words and those of the heap behind them, as a vector has them that they are added to
pub with_heap : (front old words new : List ℕ) (n k : ℕ) → new ≡ take n (front ++ drop (length front) old) ++ take (length words - k) (drop k words) → n ≡ length front → k ≡ heap_word 1 → new ≡ front ++ drop (heap_word 1) words
with_heap front old words new n k is long at =
    is
    ∙ ap (λ (xs : List ℕ). xs ++ take (length words - k) (drop k words)) (take-append-le n front (drop (length front) old) (omega (arith, long)) ∙ take_all n front (omega (arith, long)))
    ∙ ap (λ (xs : List ℕ). front ++ xs) (ap (λ m. take m (drop k words)) (sym (length-drop k words)) ∙ take-length (drop k words) ∙ ap (λ i. drop i words) at)
