-- Opening and closing an entry, as words and as tables.
use Rattle.std.proofs.Common.{◌≡◌, ⊎_elim, inl, inr, ℕ, ◌*◌, ◌/◌, ◌<◌, Some, None, eqb, List, length, refl, sym, ap, ◌∙◌, subst, arith}
use Rattle.std.proofs.lemmas.Bool.{ne_eqb, cond-false}
use Rattle.pmem_lines.specs.Words.{put_word}
use Rattle.pool_layout.specs.Places.{wal_word}
use Rattle.image_tables.specs.Tables.{entry_of_word, wal_lines, tables_of}
use Rattle.image_tables.proofs.Stores.{closed_words}
use Rattle.pmem_lines.specs.Events.{reading}
use Rattle.durable_steps.specs.Steps.{word_events, IsOldOrNewWord}
use Rattle.image_tables.specs.declared.entry.WalEntry.{WalEntry}
use Rattle.image_tables.specs.Updates.{with_open_entry}
use Rattle.attach_wal.specs.Entry.{entry_word, FitsWord}
use Rattle.attach_wal.specs.Wal.{HasNoOther, Opens, Closes, OpensOrNot, ClosesOrNot}
use Rattle.attach_wal.proofs.Words.{entry_word-some, entry_of_word-back}
use Rattle.attach_wal.proofs.Lines.{tables_put_wal}

pub Opens-put : (words : List ℕ) (line : ℕ) (entry : WalEntry) → line < wal_lines → wal_word line < length words → entry_of_word (entry_word entry) ≡ entry →
    Opens words line entry (put_word words (wal_word line) (entry_word entry))
Opens-put words line entry below inside says = record {
  is = refl;
  tables = λ slabs closed.
      let alone : HasNoOther words line = record { closed = λ other less apart. closed_words words closed other less } in
      tables_put_wal words line (entry_word entry) below inside slabs alone
      ∙ ap (with_open_entry (tables_of words))
      (cond-false (eqb (entry_word entry) 0) None (Some (entry_of_word (entry_word entry))) (ne_eqb (entry_word entry) 0 (entry_word-some entry)) ∙ ap Some says);
}

pub Closes-put : (words : List ℕ) (line : ℕ) → line < wal_lines → wal_word line < length words → Closes words line (put_word words (wal_word line) 0)
Closes-put words line below inside = record {
  is = refl;
  tables = λ slabs alone. tables_put_wal words line 0 below inside slabs alone;
}

-- a word stored to the first word of a line
stored : (words new : List ℕ) (line value : ℕ) → new ≡ reading words (word_events (8 * wal_word line) value) → new ≡ put_word words (wal_word line) value
stored words new line value is = let at : 8 * wal_word line / 8 ≡ wal_word line = omega arith in is ∙ ap (λ k. put_word words k value) at

pub Opens-stored : (words new : List ℕ) (line : ℕ) (entry : WalEntry) → line < wal_lines → wal_word line < length words → FitsWord entry →
    new ≡ reading words (word_events (8 * wal_word line) (entry_word entry)) → Opens words line entry new
Opens-stored words new line entry below inside fits is = subst (Opens words line entry) (sym (stored words new line (entry_word entry) is)) (Opens-put words line entry below inside (entry_of_word-back entry fits))

pub Closes-stored : (words new : List ℕ) (line : ℕ) → line < wal_lines → wal_word line < length words → new ≡ reading words (word_events (8 * wal_word line) 0) → Closes words line new
Closes-stored words new line below inside is = subst (Closes words line) (sym (stored words new line 0 is)) (Closes-put words line below inside)

-- a crash within the step
pub OpensOrNot-word : (words image : List ℕ) (line : ℕ) (entry : WalEntry) → line < wal_lines → wal_word line < length words → FitsWord entry →
    IsOldOrNewWord words (8 * wal_word line) (entry_word entry) image → OpensOrNot words line entry image
OpensOrNot-word words image line entry below inside fits left = ⊎_elim inl (λ is. inr (Opens-stored words image line entry below inside fits is)) left.is

pub ClosesOrNot-word : (words image : List ℕ) (line : ℕ) → line < wal_lines → wal_word line < length words → IsOldOrNewWord words (8 * wal_word line) 0 image → ClosesOrNot words line image
ClosesOrNot-word words image line below inside left = ⊎_elim inl (λ is. inr (Closes-stored words image line below inside is)) left.is
