-- Entries of the log that name a granule so much higher, and what starts behind them.
use Rattle.std.proofs.Common.{◌≡◌, ◌≢◌, ⊎_elim, ℕ, zero, suc, ◌+◌, ◌*◌, ◌^◌, ◌<◌, ◌≤◌, cond, eqb, List, [], ◌∷◌, ◌++◌, map, refl, sym, ap, subst, ◌∙◌, arith, Option, flat_map}
use Rattle.image_raise.proofs.Common.{All, cases_eq, eq-eqb, ne_eqb, cond-true, cond-false, start_of_entry, extent_of_entry, extent_after, extent_behind, layout_of}
use Rattle.std.proofs.lemmas.List.Elements.{All-head, All-tail}
use mathlib.Core.List.{map-append}
use Rattle.image_tables.specs.declared.extent.Extent.{Extent}
use Rattle.image_tables.specs.Log.{entry_or_none, entries_below}
use Rattle.image_tables.proofs.Extents.{extent_after-named, extent_after-other}
use Rattle.book_log.specs.declared.entry.LogEntry.{LogEntry}
use Rattle.book_log.specs.declared.entry.LogEntry.TheVariants.{Large, Slab, Tomb}
use Rattle.book_log.specs.Entry.{log_word, FitsWord, IsInHeap, SaysOf, start_of, extent_of}
use Rattle.book_log.proofs.LiveExtents.{IsValid, says_of}
use Rattle.image_raise.specs.Rise.{rise, raised_entry}
use Rattle.image_raise.specs.Front.{IsRaisedWord}

-- the word of an entry that names a granule so much higher; 0 is none
abbrev pub higher_word : ℕ → ℕ
higher_word word = cond (eqb word 0) 0 (word + 2 ^ 8 * rise)

-- entries

raised_word : (entry : LogEntry) → log_word entry + 2 ^ 8 * rise ≡ log_word (raised_entry rise entry)
raised_word (Large start granules) = omega arith
raised_word (Slab start) = omega arith
raised_word (Tomb start) = omega arith

word_some : (entry : LogEntry) → log_word entry ≢ 0
word_some (Large start granules) none = omega (arith, none)
word_some (Slab start) none = omega (arith, none)
word_some (Tomb start) none = omega (arith, none)

raise_fits : (first granules : ℕ) (entry : LogEntry) → granules ≤ 4096 → FitsWord entry → IsInHeap first granules entry → FitsWord (raised_entry rise entry)
raise_fits first granules (Large start size) few fits lies = (omega (arith, few, lies.2), fits.1)
raise_fits first granules (Slab start) few fits lies = omega (arith, few, lies.1)
raise_fits first granules (Tomb start) few fits lies = omega (arith, few, lies.1)

raise_lies : (first granules : ℕ) (entry : LogEntry) → IsInHeap first granules entry → IsInHeap (first + rise) (granules + rise) (raised_entry rise entry)
raise_lies first granules (Large start size) lies = (omega (arith, lies.0), lies.1, omega (arith, lies.2))
raise_lies first granules (Slab start) lies = (omega (arith, lies.0), omega (arith, lies.1))
raise_lies first granules (Tomb start) lies = (omega (arith, lies.0), omega (arith, lies.1))

raise_start : (entry : LogEntry) → start_of (raised_entry rise entry) ≡ start_of entry + rise
raise_start (Large start granules) = refl
raise_start (Slab start) = refl
raise_start (Tomb start) = refl

raise_extent : (entry : LogEntry) → extent_of (raised_entry rise entry) ≡ extent_of entry
raise_extent (Large start granules) = refl
raise_extent (Slab start) = refl
raise_extent (Tomb start) = refl

pub entry_none : (word : ℕ) → word ≡ 0 → higher_word word ≡ 0
entry_none word none = cond-true (eqb word 0) 0 (word + 2 ^ 8 * rise) (eq-eqb word 0 none)

pub entry_some : (word : ℕ) → word ≢ 0 → higher_word word ≡ word + 2 ^ 8 * rise
entry_some word some = cond-false (eqb word 0) 0 (word + 2 ^ 8 * rise) (ne_eqb word 0 some)

-- a word of a chunk that is in use, raised, is that of the entry so much higher
pub raised_is : (granules word new : ℕ) → (word ≢ 0 → IsValid (layout_of 1).first_granule granules word) → IsRaisedWord granules word new → new ≡ higher_word word
raised_is granules word new valid is = ⊎_elim
    (λ (none : word ≡ 0). is.none (λ entry entered. word_some entry (sym entered.word ∙ none)) ∙ sym (entry_none word none))
    (λ (some : word ≢ 0).
    let entry = valid some in
    is.entry entry.0 entry.1 ∙ sym (raised_word entry.0) ∙ ap (λ w. w + 2 ^ 8 * rise) (sym entry.1.word) ∙ sym (entry_some word some))
    (cases_eq word 0)

-- the raised word of a valid entry is that of the raised one
pub valid_raised : (first granules word : ℕ) → granules ≤ 4096 → IsValid first granules word → IsValid (first + rise) (granules + rise) (higher_word word)
valid_raised first granules word few valid =
    let entry = valid.0 in
    let some : word ≢ 0 = λ none. word_some entry (sym valid.1.word ∙ none) in (
      raised_entry rise entry,
      record {
        word = entry_some word some ∙ ap (λ w. w + 2 ^ 8 * rise) valid.1.word ∙ raised_word entry;
        fits = raise_fits first granules entry few valid.1.fits valid.1.in_heap;
        in_heap = raise_lies first granules entry valid.1.in_heap;
      },
    )

-- what it says
pub record Says (word : ℕ) : Type 0 where
  pub start : start_of_entry (higher_word word) ≡ start_of_entry word + rise
  pub extent : extent_of_entry (higher_word word) ≡ extent_of_entry word

pub says : (first granules word : ℕ) → granules ≤ 4096 → IsValid first granules word → Says word
unfolding valid_raised
says first granules word few valid =
    let entry = valid.0 in
    let now = valid_raised first granules word few valid in
    let old = subst (λ w. SaysOf w entry) (sym valid.1.word) (says_of entry valid.1.fits) in
    let new = subst (λ w. SaysOf w now.0) (sym now.1.word) (says_of now.0 now.1.fits) in
    record {
      start = new.start ∙ raise_start entry ∙ ap (λ n. n + rise) (sym old.start);
      extent = new.says ∙ raise_extent entry ∙ sym old.says;
    }

-- lists of entries

none_or : (word : ℕ) → entry_or_none (higher_word word) ≡ map higher_word (entry_or_none word)
none_or word = ⊎_elim
    (λ (none : word ≡ 0). cond-true (eqb (higher_word word) 0) [] (higher_word word ∷ []) (eq-eqb (higher_word word) 0 (entry_none word none)) ∙ sym (ap (map higher_word) (cond-true (eqb word 0) [] (word ∷ []) (eq-eqb word 0 none))))
    (λ (some : word ≢ 0). cond-false (eqb (higher_word word) 0) [] (higher_word word ∷ []) (ne_eqb (higher_word word) 0 (λ e. omega (arith, e, entry_some word some))) ∙ sym (ap (map higher_word) (cond-false (eqb word 0) [] (word ∷ []) (ne_eqb word 0 some))))
    (cases_eq word 0)

pub below_raised : (row new : ℕ → ℕ) (n : ℕ) → ((i : ℕ) → i < n → new i ≡ higher_word (row i)) → entries_below new n ≡ map higher_word (entries_below row n)
below_raised row new zero same = refl
below_raised row new (suc n) same =
    ap (λ xs. xs ++ entry_or_none (new n)) (below_raised row new n (λ i less. same i (omega arith)))
    ∙ ap (λ w. map higher_word (entries_below row n) ++ entry_or_none w) (same n (omega arith))
    ∙ ap (λ xs. map higher_word (entries_below row n) ++ xs) (none_or (row n))
    ∙ sym (map-append higher_word (entries_below row n) (entry_or_none (row n)))

pub flat_raised : (f g : ℕ → List ℕ) (chunks : List ℕ) → All (λ c. g c ≡ map higher_word (f c)) chunks → flat_map g chunks ≡ map higher_word (flat_map f chunks)
flat_raised f g [] same = refl
flat_raised f g (c ∷ chunks) same =
    ap (λ xs. xs ++ flat_map g chunks) (All-head (λ c. g c ≡ map higher_word (f c)) c chunks same)
    ∙ ap (λ xs. map higher_word (f c) ++ xs) (flat_raised f g chunks (All-tail (λ c. g c ≡ map higher_word (f c)) c chunks same))
    ∙ sym (map-append higher_word (f c) (flat_map f chunks))

-- what starts behind them

after_raised : (word start : ℕ) (before : Option Extent) → Says word → extent_after (higher_word word) (start + rise) before ≡ extent_after word start before
after_raised word start before is = ⊎_elim
    (λ (named : start_of_entry word ≡ start). extent_after-named (higher_word word) (start + rise) before (omega (arith, is.start, named)) ∙ is.extent ∙ sym (extent_after-named word start before named))
    (λ (other : start_of_entry word ≢ start). extent_after-other (higher_word word) (start + rise) before (λ e. other (omega (arith, e, is.start))) ∙ sym (extent_after-other word start before other))
    (cases_eq (start_of_entry word) start)

pub behind_raised : (words : List ℕ) (start : ℕ) (before : Option Extent) → All Says words → extent_behind (map higher_word words) (start + rise) before ≡ extent_behind words start before
behind_raised [] start before all = refl
behind_raised (word ∷ words) start before all =
    behind_raised words start (extent_after (higher_word word) (start + rise) before) (All-tail Says word words all)
    ∙ ap (extent_behind words start) (after_raised word start before (All-head Says word words all))

pub behind_low : (words : List ℕ) (start : ℕ) (before : Option Extent) → start < rise → All Says words → extent_behind (map higher_word words) start before ≡ before
behind_low [] start before low all = refl
behind_low (word ∷ words) start before low all =
    behind_low words start (extent_after (higher_word word) start before) low (All-tail Says word words all)
    ∙ extent_after-other (higher_word word) start before (λ e. omega (arith, e, low, (All-head Says word words all).start))
