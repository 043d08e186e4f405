-- Write-ahead lines: an image without a defect of them has none, and it has one first at most.
use Rattle.std.proofs.Common.{◌≡◌, ◌≢◌, ℕ, zero, suc, ◌<◌, eqb, List, Some, refl, sym, ap, subst, ◌∙◌, arith, ⊎_elim}
use Rattle.std.proofs.lemmas.Bool.{cases_eq, cond-true, cond-false, eq-eqb, ne_eqb}
use Rattle.pmem_lines.specs.Words.{word_at}
use Rattle.pool_layout.specs.declared.defect.Defect.{Defect}
use Rattle.pool_layout.specs.declared.defect.Defect.TheVariants.{BadWal}
use Rattle.pool_layout.specs.Places.{wal_word}
use Rattle.image_tables.specs.declared.entry.WalEntry.{WalEntry}
use Rattle.image_tables.specs.Tables.{entry_among, entry_of_word, wal_lines, tables_of}
use Rattle.image_tables.specs.Updates.{with_open_entry}
use Rattle.heap_check.specs.Sound.{IsOpen}
use Rattle.heap_check.specs.Image.{bounds_of}
use Rattle.image_defects.specs.Wal.{IsGoodWal, IsOpenAlone, IsBadLine, IsWalDefect}
use Rattle.image_defects.proofs.LeastNumbers.{least_once}

-- the one line whose word is not 0 has the open entry
pub entry_among-only : (row : ℕ → ℕ) (n line : ℕ) → line < n → row line ≢ 0 → ((other : ℕ) → other < n → row other ≢ 0 → other ≡ line) → entry_among row n ≡ Some (entry_of_word (row line))
entry_among-only row zero line below some only = absurd (omega arith)
entry_among-only row (suc n) line below some only = ⊎_elim
    (λ (none : row n ≡ 0). cond-true (eqb (row n) 0) (entry_among row n) (Some (entry_of_word (row n))) (eq-eqb (row n) 0 none)
    ∙ entry_among-only row n line (⊎_elim (λ (same : line ≡ n). absurd (some (ap row same ∙ none))) (λ (other : line ≢ n). omega arith) (cases_eq line n)) some (λ other less there. only other (omega arith) there))
    (λ (here : row n ≢ 0). cond-false (eqb (row n) 0) (entry_among row n) (Some (entry_of_word (row n))) (ne_eqb (row n) 0 here)
    ∙ ap (λ k. Some (entry_of_word (row k))) (only n (omega arith) here))
    (cases_eq (row n) 0)

pub entry_table : (words : List ℕ) → (tables_of words).open_entry ≡ entry_among (λ line. word_at words (wal_word line)) wal_lines
unfolding tables_of
entry_table words = refl

-- what the roots hold by the open entry is what they hold
pub own_entry : (words : List ℕ) → with_open_entry (tables_of words) (tables_of words).open_entry ≡ tables_of words
unfolding tables_of
own_entry words = refl

-- the open entry may be open alone where it may be open, and back
pub open_alone : (words : List ℕ) (e : WalEntry) → (tables_of words).open_entry ≡ Some e → IsOpen (bounds_of words) (tables_of words) e → IsOpenAlone words e
open_alone words e is may = subst (λ o. IsOpen (bounds_of words) (with_open_entry (tables_of words) o) e) is (subst (λ t. IsOpen (bounds_of words) t e) (sym (own_entry words)) may)

pub open_there : (words : List ℕ) (e : WalEntry) → (tables_of words).open_entry ≡ Some e → IsOpenAlone words e → IsOpen (bounds_of words) (tables_of words) e
open_there words e is alone = subst (λ t. IsOpen (bounds_of words) t e) (own_entry words) (subst (λ o. IsOpen (bounds_of words) (with_open_entry (tables_of words) o) e) (sym is) alone)

pub wal_bad : (words : List ℕ) (d : Defect) → IsWalDefect words d → ¬ (IsGoodWal words)
wal_bad words d is good =
    let bad : IsBadLine words is.line = is.first.here in
    let word = word_at words (wal_word is.line) in
    let is_open : (tables_of words).open_entry ≡ Some (entry_of_word word) = entry_table words
    ∙ entry_among-only (λ line. word_at words (wal_word line)) wal_lines is.line bad.below bad.some (λ other below some. good.form.one other is.line below bad.below some bad.some) in
    ⊎_elim
    (λ not. not (record {
      form = good.form.entry is.line bad.below bad.some;
      may = open_alone words (entry_of_word word) is_open (good.may (entry_of_word word) is_open);
    }))
    (λ two. omega (arith, two.1, good.form.one two.0 is.line (omega (arith, two.1, bad.below)) bad.below two.2 bad.some))
    bad.bad

pub wal_once : (words : List ℕ) (d e : Defect) → IsWalDefect words d → IsWalDefect words e → d ≡ e
wal_once words d e is also = is.is ∙ ap (λ l. BadWal l (word_at words (wal_word l))) (least_once (IsBadLine words) is.line also.line is.first also.first) ∙ sym also.is
