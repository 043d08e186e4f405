-- What a store to a write-ahead line changes of the tables of an image.
use Rattle.std.proofs.Common.{◌≡◌, ◌≢◌, ⊎_elim, ℕ, zero, suc, ◌<◌, ◌≤◌, cond, eqb, ltb, Option, Some, None, List, length, refl, ap, ◌∙◌, arith}
use Rattle.std.proofs.lemmas.Bool.{cases_eq, eq-eqb, cond-true}
use Rattle.pmem_lines.specs.Words.{word_at, put_word}
use Rattle.pmem_lines.proofs.Words.{word_at-put_same, word_at-put_other}
use Rattle.pool_layout.specs.Layout.{layout_of}
use Rattle.pool_layout.specs.Places.{fields_word, root_word, wal_word, heap_word}
use Rattle.pool_layout.specs.Header.{version_field, version_in}
use Rattle.image_tables.specs.Extents.{extent_at}
use Rattle.image_tables.specs.declared.entry.WalEntry.{WalEntry}
use Rattle.image_tables.specs.Tables.{entry_of_word, entry_among, root_in, wal_lines, large_of, is_slab_of, is_slab, AreSlabsInHeap, tables_of}
use Rattle.image_tables.proofs.Places.{log_start-low}
use Rattle.image_tables.proofs.Extents.{extent_at-elsewhere}
use Rattle.image_tables.proofs.Stores.{IsOffLog-wal, tables_over_heap, wal_word-low, log_start-high}
use Rattle.image_tables.specs.Updates.{with_open_entry}
use Rattle.attach_wal.specs.Wal.{HasNoOther}

-- the entry of a word, if it is not 0
abbrev pub entry_or_none : ℕ → Option WalEntry
entry_or_none word = cond (eqb word 0) None (Some (entry_of_word word))

-- none among lines without one
entry_among-none : (row : ℕ → ℕ) (n : ℕ) → ((line : ℕ) → line < n → row line ≡ 0) → entry_among row n ≡ None
entry_among-none row zero closed = refl
entry_among-none row (suc n) closed =
    cond-true (eqb (row n) 0) (entry_among row n) (Some (entry_of_word (row n))) (eq-eqb (row n) 0 (closed n (omega arith)))
    ∙ entry_among-none row n (λ line below. closed line (omega (arith, below)))

-- among lines of which one alone may have one
entry_among-one : (row : ℕ → ℕ) (n line : ℕ) → line < n → ((other : ℕ) → other < n → other ≢ line → row other ≡ 0) → entry_among row n ≡ entry_or_none (row line)
entry_among-one row zero line below closed = absurd (omega (arith, below))
entry_among-one row (suc n) line below closed = ⊎_elim
    (λ (here : n ≡ line).
    let none : entry_among row n ≡ None = entry_among-none row n (λ other less. closed other (omega (arith, less)) (λ e. omega (arith, e, here, less))) in
    ap (λ rest. cond (eqb (row n) 0) rest (Some (entry_of_word (row n)))) none ∙ ap (λ l. entry_or_none (row l)) here)
    (λ (other : n ≢ line).
    let last : row n ≡ 0 = closed n (omega arith) other in
    let less : line < n = omega (arith, below, other) in
    cond-true (eqb (row n) 0) (entry_among row n) (Some (entry_of_word (row n))) (eq-eqb (row n) 0 last)
    ∙ entry_among-one row n line less (λ o small apart. closed o (omega (arith, small)) apart))
    (cases_eq n line)

-- a store to a write-ahead word changes the open entry, and nothing else
pub tables_put_wal : (words : List ℕ) (line value : ℕ) → line < wal_lines → wal_word line < length words → AreSlabsInHeap words → HasNoOther words line →
    tables_of (put_word words (wal_word line) value) ≡ with_open_entry (tables_of words) (entry_or_none value)
unfolding tables_of
tables_put_wal words line value below inside slabs alone =
    let at = wal_word line in
    let new = put_word words at value in
    let version = version_in words in
    let same_version : version_in new ≡ version = ap version_field (word_at-put_other words at fields_word value (λ e. omega arith)) in
    let extent : (start : ℕ) → extent_at new start ≡ extent_at words start = λ start. extent_at-elsewhere words at value start (IsOffLog-wal words line below) in
    let slab : (start : ℕ) → is_slab new start ≡ is_slab words start = λ start. ap is_slab_of (extent start) in
    let heap : (k : ℕ) → heap_word version ≤ k → word_at new k ≡ word_at words k =
    λ k high. word_at-put_other words at k value (λ e. omega (arith, e, high, wal_word-low line below, log_start-low version, log_start-high version)) in
    tables_over_heap words new (root_in words) (entry_or_none value) (tables_of words).large slabs slab heap
    (λ r.
    ap (λ v. cond (ltb r (layout_of v).roots) (word_at new (root_word r)) 0) same_version
    ∙ ap (λ w. cond (ltb r (layout_of version).roots) w 0) (word_at-put_other words at (root_word r) value (λ e. omega (arith, e, wal_word-low line below))))
    (entry_among-one (λ l. word_at new (wal_word l)) wal_lines line below
    (λ other less apart. word_at-put_other words at (wal_word other) value (λ e. apart (omega (arith, e))) ∙ alone.closed other less apart)
    ∙ ap entry_or_none (word_at-put_same words at at value refl inside))
    (λ start. ap large_of (extent start))
