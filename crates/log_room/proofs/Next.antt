-- The next live extent, and the entries of those behind it.
use Rattle.std.proofs.Common.{◌≡◌, ◌+◌, ◌-◌, ◌^◌, ◌<◌, ◌≤◌, ℕ, zero, suc, [], ◌∷◌, ◌++◌, length, refl, sym, ap, ◌∙◌, arith, Option, Some, None}
use Rattle.log_room.proofs.Common.{Extent, LogEntry, log_word, FitsWord, start_of, extent_of, live_word, live_words, granules_of, IsLive, AreLive}
use Rattle.book_log.specs.declared.entry.LogEntry.TheVariants.{Large, Slab, Tomb}
use Rattle.book_log.specs.Table.{IsNextLive, IsNoneLive}

-- an entry that says what is live is the entry of it
word_is : (entry : LogEntry) (x : Extent) → extent_of entry ≡ Some x → live_word (start_of entry) (Some x) ≡ log_word entry ∷ []
word_is (Large start size) x is = ap (live_word start) (sym is)
word_is (Slab start) x is = ap (live_word start) (sym is)
word_is (Tomb start) x is = absurd (cc)

entry_fits : (first granules : ℕ) (entry : LogEntry) (x : Extent) → extent_of entry ≡ Some x → IsLive first granules (start_of entry) x → FitsWord entry
entry_fits first granules (Large start size) x is live =
    let same : size ≡ granules_of x = ap granules_in is in
    (omega (arith, live.fits), omega (arith, live.fits, same))
  where
    granules_in : Option Extent → ℕ
    granules_in None = 0
    granules_in (Some x) = granules_of x
entry_fits first granules (Slab start) x is live = omega (arith, live.fits)
entry_fits first granules (Tomb start) x is live = absurd (cc)

-- the next live extent lies below the granules, and its entry fits a word
pub next_fits : (first granules : ℕ) (extents : ℕ → Option Extent) (from : ℕ) (entry : LogEntry) → AreLive first granules extents → IsNextLive extents from entry → FitsWord entry
next_fits first granules extents from entry live next = entry_fits first granules entry next.extent next.says (live.each (start_of entry) next.extent next.live)

pub next_below : (first granules : ℕ) (extents : ℕ → Option Extent) (from : ℕ) (entry : LogEntry) → AreLive first granules extents → IsNextLive extents from entry → (start_of entry + 1 < granules) × (start_of entry + 1 < 2 ^ 16)
next_below first granules extents from entry live next =
    let is = live.each (start_of entry) next.extent next.live in
    (omega (arith, is.high, is.some), omega (arith, is.fits, is.some))

-- starts where nothing lives have no entries
skipped : (extents : ℕ → Option Extent) (from k n : ℕ) → ((start : ℕ) → from ≤ start → start < from + k → extents start ≡ None) → live_words extents from (k + n) ≡ live_words extents (from + k) n
skipped extents from zero n none = let e : 0 + n ≡ n = omega arith in let f : from + 0 ≡ from = omega arith in rw (e, f) refl
skipped extents from (suc k) n none =
    let e : suc k + n ≡ suc (k + n) = omega arith in
    let f : from + suc k ≡ from + 1 + k = omega arith in
    rw (e, f) (
    ap (λ o. live_word from o ++ live_words extents (from + 1) (k + n)) (none from (omega arith) (omega arith))
    ∙ skipped extents (from + 1) k n (λ start low high. none start (omega arith) (omega arith)))

-- the entries from one on, where there is a next live extent
pub next_words : (first granules : ℕ) (extents : ℕ → Option Extent) (from : ℕ) (entry : LogEntry) → AreLive first granules extents → IsNextLive extents from entry →
    live_words extents from (granules - from) ≡ log_word entry ∷ live_words extents (start_of entry + 1) (granules - (start_of entry + 1))
next_words first granules extents from entry live next =
    let start = start_of entry in
    let below = next_below first granules extents from entry live next in
    let k = start - from in
    let n = granules - (start + 1) in
    let whole : granules - from ≡ k + suc n = omega (arith, below.0, next.at_least) in
    let here : from + k ≡ start = omega (arith, next.at_least) in
    ap (live_words extents from) whole
    ∙ skipped extents from k (suc n) (λ s low high. next.least s low (omega arith))
    ∙ ap (λ s. live_words extents s (suc n)) here
    ∙ ap (λ o. live_word start o ++ live_words extents (start + 1) n) next.live
    ∙ ap (λ ws. ws ++ live_words extents (start + 1) n) (word_is entry next.extent next.says)

-- where there is none
pub no_words : (extents : ℕ → Option Extent) (from n : ℕ) → IsNoneLive extents from → live_words extents from n ≡ []
no_words extents from n none =
    let e : n ≡ n + 0 = omega arith in
    ap (live_words extents from) e ∙ skipped extents from n 0 (λ start low high. none.none start low)

-- tables that say the same have the same entries
pub same_words : (f h : ℕ → Option Extent) (start n : ℕ) → ((s : ℕ) → f s ≡ h s) → live_words f start n ≡ live_words h start n
same_words f h start zero same = refl
same_words f h start (suc n) same =
    ap (λ o. live_word start o ++ live_words f (start + 1) n) (same start) ∙ ap (λ ws. live_word start (h start) ++ ws) (same_words f h (start + 1) n same)

-- how many they are
pub count_next : (first granules : ℕ) (extents : ℕ → Option Extent) (from : ℕ) (entry : LogEntry) → AreLive first granules extents → IsNextLive extents from entry →
    length (live_words extents from (granules - from)) ≡ length (live_words extents (start_of entry + 1) (granules - (start_of entry + 1))) + 1
count_next first granules extents from entry live next = omega (arith, ap length (next_words first granules extents from entry live next))
