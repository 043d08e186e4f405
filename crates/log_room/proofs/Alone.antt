-- The log of the live extents' entries alone: each entry is valid, the live extents are the same, and there are at most
-- half as many as granules.
use Rattle.std.proofs.Common.{◌≡◌, ◌≢◌, ◌+◌, ◌*◌, ◌<◌, ◌≤◌, ◌⊎◌, ⊎_elim, inl, inr, ℕ, zero, suc, [], ◌∷◌, length, refl, sym, ap, ◌∙◌, subst, arith, length-append, Option, Some, None}
use Rattle.log_room.proofs.Common.{All, cases_eq, cases_lt, All-nil, All-cons, All-append, div_below, layout_of, layout_rules, Extent, extent_behind, extent_behind-append, extent_after-named, extent_after-other, LogEntry, Large, Slab, log_word, FitsWord, IsInHeap, start_of, extent_of, live_word, live_words, AreDisjoint, IsValid, says_of, IsLive, AreLive}
use Rattle.image_tables.specs.declared.extent.Extent.TheVariants as kinds
use Rattle.log_room.specs.Room.{chunks_for}

-- the entry of an extent that starts there
abbrev entry_for : ℕ → Extent → LogEntry
entry_for start (kinds.Large granules) = Large start granules
entry_for start kinds.Slab = Slab start

word_for : (start : ℕ) (x : Extent) → live_word start (Some x) ≡ log_word (entry_for start x) ∷ []
word_for start (kinds.Large granules) = refl
word_for start kinds.Slab = refl

start_for : (start : ℕ) (x : Extent) → start_of (entry_for start x) ≡ start
start_for start (kinds.Large granules) = refl
start_for start kinds.Slab = refl

extent_for : (start : ℕ) (x : Extent) → extent_of (entry_for start x) ≡ Some x
extent_for start (kinds.Large granules) = refl
extent_for start kinds.Slab = refl

fits_for : (first granules start : ℕ) (x : Extent) → IsLive first granules start x → FitsWord (entry_for start x)
fits_for first granules start (kinds.Large size) live = (omega (arith, live.fits), omega (arith, live.fits))
fits_for first granules start kinds.Slab live = omega (arith, live.fits)

in_heap_for : (first granules start : ℕ) (x : Extent) → IsLive first granules start x → IsInHeap first granules (entry_for start x)
in_heap_for first granules start (kinds.Large size) live = (live.low, live.some, live.high)
in_heap_for first granules start kinds.Slab live = (live.low, live.high)

pub cases_some : (o : Option Extent) → (o ≡ None) ⊎ ((x : Extent) × (o ≡ Some x))
cases_some None = inl refl
cases_some (Some x) = inr (x, refl)

-- where nothing starts, there is no entry
word_none : (start : ℕ) (o : Option Extent) → o ≡ None → live_word start o ≡ []
word_none start o is = ap (live_word start) is

word_some : (start : ℕ) (o : Option Extent) (x : Extent) → o ≡ Some x → live_word start o ≡ log_word (entry_for start x) ∷ []
word_some start o x is = ap (live_word start) is ∙ word_for start x

-- each of the entries is valid
pub words_valid : (first granules : ℕ) (extents : ℕ → Option Extent) (start n : ℕ) → AreLive first granules extents → All (IsValid first granules) (live_words extents start n)
words_valid first granules extents start zero live = All-nil (IsValid first granules)
words_valid first granules extents start (suc n) live =
    let P : ℕ → Type 0 = IsValid first granules in
    All-append P (live_word start (extents start)) (live_words extents (start + 1) n)
    (⊎_elim
    (λ (none : extents start ≡ None). subst (All P) (sym (word_none start (extents start) none)) (All-nil P))
    (λ (some : (x : Extent) × (extents start ≡ Some x)).
    let is = live.each start some.0 some.1 in
    let here : P (log_word (entry_for start some.0)) =
    (entry_for start some.0, record { word = refl; fits = fits_for first granules start some.0 is; in_heap = in_heap_for first granules start some.0 is }) in
    subst (All P) (sym (word_some start (extents start) some.0 some.1)) (All-cons P (log_word (entry_for start some.0)) [] here (All-nil P)))
    (cases_some (extents start)))
    (words_valid first granules extents (start + 1) n live)

-- an entry says what starts at its own start
says_here : (first granules : ℕ) (extents : ℕ → Option Extent) (start : ℕ) → AreLive first granules extents → extent_behind (live_word start (extents start)) start None ≡ extents start
says_here first granules extents start live = ⊎_elim
    (λ (none : extents start ≡ None). ap (λ ws. extent_behind ws start None) (word_none start (extents start) none) ∙ sym none)
    (λ (some : (x : Extent) × (extents start ≡ Some x)).
    let entry = entry_for start some.0 in
    let says = says_of entry (fits_for first granules start some.0 (live.each start some.0 some.1)) in
    ap (λ ws. extent_behind ws start None) (word_some start (extents start) some.0 some.1)
    ∙ extent_after-named (log_word entry) start None (says.start ∙ start_for start some.0)
    ∙ says.says ∙ extent_for start some.0 ∙ sym some.1)
    (cases_some (extents start))

-- and nothing of another start
says_elsewhere : (first granules : ℕ) (extents : ℕ → Option Extent) (start other : ℕ) (before : Option Extent) → AreLive first granules extents → start ≢ other → extent_behind (live_word start (extents start)) other before ≡ before
says_elsewhere first granules extents start other before live apart = ⊎_elim
    (λ (none : extents start ≡ None). ap (λ ws. extent_behind ws other before) (word_none start (extents start) none))
    (λ (some : (x : Extent) × (extents start ≡ Some x)).
    let entry = entry_for start some.0 in
    let says = says_of entry (fits_for first granules start some.0 (live.each start some.0 some.1)) in
    ap (λ ws. extent_behind ws other before) (word_some start (extents start) some.0 some.1)
    ∙ extent_after-other (log_word entry) other before (λ same. apart (sym (says.start ∙ start_for start some.0) ∙ same)))
    (cases_some (extents start))

says_below : (first granules : ℕ) (extents : ℕ → Option Extent) (start n other : ℕ) (before : Option Extent) → AreLive first granules extents → other < start → extent_behind (live_words extents start n) other before ≡ before
says_below first granules extents start zero other before live low = refl
says_below first granules extents start (suc n) other before live low =
    extent_behind-append (live_word start (extents start)) (live_words extents (start + 1) n) other before
    ∙ says_below first granules extents (start + 1) n other (extent_behind (live_word start (extents start)) other before) live (omega arith)
    ∙ says_elsewhere first granules extents start other before live (λ same. omega arith)

says_within : (first granules : ℕ) (extents : ℕ → Option Extent) (start n other : ℕ) → AreLive first granules extents → start ≤ other → other < start + n → extent_behind (live_words extents start n) other None ≡ extents other
says_within first granules extents start zero other live low high = absurd (omega arith)
says_within first granules extents start (suc n) other live low high =
    let first_word = live_word start (extents start) in
    extent_behind-append first_word (live_words extents (start + 1) n) other None
    ∙ ⊎_elim
    (λ (here : start ≡ other).
    says_below first granules extents (start + 1) n other (extent_behind first_word other None) live (omega arith)
    ∙ subst (λ s. extent_behind first_word s None ≡ extents s) here (says_here first granules extents start live))
    (λ (apart : start ≢ other).
    ap (extent_behind (live_words extents (start + 1) n) other) (says_elsewhere first granules extents start other None live apart)
    ∙ says_within first granules extents (start + 1) n other live (omega (arith, apart)) (omega arith))
    (cases_eq start other)

says_behind : (first granules : ℕ) (extents : ℕ → Option Extent) (start n other : ℕ) (before : Option Extent) → AreLive first granules extents → start + n ≤ other → extent_behind (live_words extents start n) other before ≡ before
says_behind first granules extents start zero other before live high = refl
says_behind first granules extents start (suc n) other before live high =
    extent_behind-append (live_word start (extents start)) (live_words extents (start + 1) n) other before
    ∙ says_behind first granules extents (start + 1) n other (extent_behind (live_word start (extents start)) other before) live (omega arith)
    ∙ says_elsewhere first granules extents start other before live (λ same. omega arith)

-- past the granules nothing starts
pub none_past : (first granules : ℕ) (extents : ℕ → Option Extent) (start : ℕ) → AreLive first granules extents → granules ≤ start → extents start ≡ None
none_past first granules extents start live past = ⊎_elim
    (λ (none : extents start ≡ None). none)
    (λ (some : (x : Extent) × (extents start ≡ Some x)). let is = live.each start some.0 some.1 in absurd (omega (arith, is.high, is.some)))
    (cases_some (extents start))

-- the live extents read off their entries alone
pub words_say : (first granules : ℕ) (extents : ℕ → Option Extent) (start : ℕ) → AreLive first granules extents → extent_behind (live_words extents 0 granules) start None ≡ extents start
words_say first granules extents start live = ⊎_elim
    (λ (within : start < granules). says_within first granules extents 0 granules start live (omega arith) (omega arith))
    (λ (past : granules ≤ start). says_behind first granules extents 0 granules start None live (omega arith) ∙ sym (none_past first granules extents start live past))
    (cases_lt start granules)

-- each takes two granules at least
pub words_few : (first granules : ℕ) (extents : ℕ → Option Extent) (start n : ℕ) → AreLive first granules extents → AreDisjoint extents → start + n ≡ granules → 2 * length (live_words extents start n) ≤ n
words_few first granules extents start zero live apart ends = omega arith
words_few first granules extents start (suc zero) live apart ends = ⊎_elim
    (λ (none : extents start ≡ None). omega (arith, length-append (live_word start (extents start)) [], ap length (word_none start (extents start) none)))
    (λ (some : (x : Extent) × (extents start ≡ Some x)). let is = live.each start some.0 some.1 in absurd (omega (arith, is.high, is.some)))
    (cases_some (extents start))
words_few first granules extents start (suc (suc n)) live apart ends =
    let rest = live_words extents (start + 1) (suc n) in
    let last = live_words extents (start + 1 + 1) n in
    let whole = length-append (live_word start (extents start)) rest in
    let next = length-append (live_word (start + 1) (extents (start + 1))) last in
    ⊎_elim
    (λ (none : extents start ≡ None).
    omega (arith, whole, ap length (word_none start (extents start) none), words_few first granules extents (start + 1) (suc n) live apart (omega arith)))
    (λ (some : (x : Extent) × (extents start ≡ Some x)).
    let is = live.each start some.0 some.1 in
    ⊎_elim
    (λ (none : extents (start + 1) ≡ None).
    omega (
      arith,
      whole,
      next,
      ap length (word_some start (extents start) some.0 some.1),
      ap length (word_none (start + 1) (extents (start + 1)) none),
      words_few first granules extents (start + 1 + 1) n live apart (omega arith),
    ))
    (λ (more : (x : Extent) × (extents (start + 1) ≡ Some x)). absurd (omega (arith, is.some, apart.each start (start + 1) some.0 more.0 (omega arith) some.1 more.1)))
    (cases_some (extents (start + 1))))
    (cases_some (extents start))

-- so that a rewrite needs few chunks, of any row of the table
pub rewrite_few : (version entries : ℕ) → 2 * entries ≤ (layout_of version).most_granules → chunks_for version entries ≤ 5
rewrite_few version entries few =
    let row = layout_of version in
    let rules = layout_rules version in
    omega (arith, div_below entries row.chunk_entries 5 rules.some_entry (omega (arith, few, rules.few_chunks)))
