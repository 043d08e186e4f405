-- The words of the write-ahead lines, one after another.
use Rattle.std.proofs.Common.{Option, None, Some, ◌≡◌, ◌≢◌, ℕ, zero, suc, ◌+◌, ◌<◌, ◌≤◌, eqb, List, refl, sym, ap, subst, ◌∙◌, arith, inl, inr, ⊎_elim}
use Rattle.std.specs.Option.{MatchOption}
use Rattle.defect_search.proofs.Common.{cases_eq, cases_lt, cond-true, eq-eqb, word_at, wal_word, WalEntry, IsWalWord, IsOpen, bounds_of, IsLeast, IsGoodWal, IsOpenWord, IsBadLine}
use Rattle.image_tables.specs.Tables.{entry_among, entry_of_word, wal_lines, tables_of}
use Rattle.attach_wal.specs.Entry.{IsEntryWord, IsNoEntryWord}
use Rattle.image_defects.proofs.WalDefects.{entry_among-only, entry_table, open_there}
use Rattle.defect_search.specs.OpenWords.{AreClosedFrom, IsNextLine}

pub eight_lines : wal_lines ≡ 8
unfolding wal_lines
eight_lines = refl

entry_among-none : (row : ℕ → ℕ) (n : ℕ) → ((line : ℕ) → line < n → row line ≡ 0) → entry_among row n ≡ None
entry_among-none row zero closed = refl
entry_among-none row (suc n) closed = cond-true (eqb (row n) 0) (entry_among row n) (Some (entry_of_word (row n))) (eq-eqb (row n) 0 (closed n (omega arith))) ∙ entry_among-none row n (λ line below. closed line (omega arith))

pub closed_entry : (words : List ℕ) → AreClosedFrom words 0 → (tables_of words).open_entry ≡ None
closed_entry words closed = entry_table words ∙ entry_among-none (λ line. word_at words (wal_word line)) wal_lines (λ line below. closed.closed line (omega arith) below)

some_none : (e : WalEntry) (o : Option WalEntry) → o ≡ None → o ≡ Some e → ⊥
some_none e o none some = cc

pub good_closed : (words : List ℕ) → AreClosedFrom words 0 → IsGoodWal words
good_closed words closed = record {
  form = record {
    entry = λ line below some. absurd (some (closed.closed line (omega arith) below));
    one = λ line other below also some here. absurd (some (closed.closed line (omega arith) below));
  };
  may = λ e is. absurd (some_none e (tables_of words).open_entry (closed_entry words closed) is);
}

-- where one line has a word

only_line : (words : List ℕ) (first : ℕ) → IsNextLine words 0 first → AreClosedFrom words (first + 1) → (line : ℕ) → line < wal_lines → word_at words (wal_word line) ≢ 0 → line ≡ first
only_line words first next closed line below some = ⊎_elim
    (λ (less : line < first). absurd (some (next.between line (omega arith) less)))
    (λ (most : first ≤ line). ⊎_elim (λ (same : line ≡ first). same) (λ (other : line ≢ first). absurd (some (closed.closed line (omega arith) below))) (cases_eq line first))
    (cases_lt line first)

pub only_entry : (words : List ℕ) (first : ℕ) → first < wal_lines → word_at words (wal_word first) ≢ 0 → ((line : ℕ) → line < wal_lines → word_at words (wal_word line) ≢ 0 → line ≡ first) → (tables_of words).open_entry ≡ Some (entry_of_word (word_at words (wal_word first)))
only_entry words first below some only = entry_table words ∙ entry_among-only (λ line. word_at words (wal_word line)) wal_lines first below some only

same_some : (a b : WalEntry) → Some a ≡ Some b → a ≡ b
same_some a b is = cc

pub good_one : (words : List ℕ) (first : ℕ) → IsNextLine words 0 first → IsOpenWord words (word_at words (wal_word first)) → AreClosedFrom words (first + 1) → IsGoodWal words
good_one words first next may closed =
    let only = only_line words first next closed in
    let word = word_at words (wal_word first) in
    let is = only_entry words first next.below next.some only in
    record {
      form = record {
        entry = λ line below some. subst (λ l. IsWalWord (word_at words (wal_word l))) (sym (only line below some)) may.form;
        one = λ line other below also some here. only line below some ∙ sym (only other also here);
      };
      may = λ e here.
          let same : entry_of_word word ≡ e = same_some (entry_of_word word) e (sym is ∙ here) in
          subst (λ e. IsOpen (bounds_of words) (tables_of words) e) same (open_there words (entry_of_word word) is may.may);
    }

-- bad lines

pub first_bad_line : (words : List ℕ) (first : ℕ) → IsNextLine words 0 first → ¬ (IsOpenWord words (word_at words (wal_word first))) → IsLeast (IsBadLine words) first
first_bad_line words first next bad = record {
  here = record { below = next.below; some = next.some; bad = inl bad };
  least = λ other b. ⊎_elim (λ (less : other < first). absurd (b.some (next.between other (omega arith) less))) (λ (most : first ≤ other). most) (cases_lt other first);
}

second_bad_line : (words : List ℕ) (first second : ℕ) → IsNextLine words 0 first → IsOpenWord words (word_at words (wal_word first)) → IsNextLine words (first + 1) second → IsLeast (IsBadLine words) second
second_bad_line words first second next may other = record {
  here = record { below = other.below; some = other.some; bad = inr (first, omega (arith, other.low), next.some) };
  least = λ line b. ⊎_elim
      (λ (less : line < second). absurd (⊎_elim
      (λ (early : line < first). b.some (next.between line (omega arith) early))
      (λ (late : first ≤ line). ⊎_elim
      (λ (same : line ≡ first). ⊎_elim
      (λ bad. bad (subst (λ l. IsOpenWord words (word_at words (wal_word l))) (sym same) may))
      (λ two. two.2 (next.between two.0 (omega arith) (omega (arith, two.1, same))))
      b.bad)
      (λ (past : line ≢ first). b.some (other.between line (omega arith) less))
      (cases_eq line first))
      (cases_lt line first)))
      (λ (most : second ≤ line). most)
      (cases_lt line second);
}

pub bad_or_good : (words : List ℕ) (first : ℕ) (found : Option ℕ) → IsNextLine words 0 first → IsOpenWord words (word_at words (wal_word first)) → MatchOption found (AreClosedFrom words (first + 1)) (IsNextLine words (first + 1)) → MatchOption found (IsGoodWal words) (IsLeast (IsBadLine words))
bad_or_good words first None next may closed = good_one words first next may closed
bad_or_good words first (Some second) next may other = second_bad_line words first second next may other

-- the open entry

pub entry_read : (words : List ℕ) (first word : ℕ) (found : Option WalEntry) → IsGoodWal words → IsNextLine words 0 first → word ≡ word_at words (wal_word first) → MatchOption found (IsNoEntryWord word) (IsEntryWord word) → found ≡ (tables_of words).open_entry
entry_read words first word None good next is none = absurd (none (subst IsWalWord (sym is) (good.form.entry first next.below next.some)))
entry_read words first word (Some entry) good next is says =
    ap (λ e. Some e) (sym says.says ∙ ap entry_of_word is) ∙ sym (only_entry words first next.below next.some (λ line below some. good.form.one line first below next.below some next.some))
