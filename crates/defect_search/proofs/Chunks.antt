-- The words of a chunk, one after another.
use Rattle.std.proofs.Common.{◌≡◌, ◌≢◌, ℕ, ◌+◌, ◌<◌, ◌≤◌, Bool, true, false, true≢false, List, arith, inl, inr, ⊎_elim, sym, ap, subst, ◌∙◌, refl}
use Rattle.defect_search.proofs.Common.{cases_eq, cases_lt, false≢true, layout_of, version_in, granules_in, IsChunk, logged, HasNone, IsLeast, HasEntry, IsBadLogWord}
use Rattle.book_log.specs.Entry.{IsEntryWord, IsNoEntryWord}

-- what is known behind the first n words of a chunk
pub record IsChunkRead (words : List ℕ) (chunk n : ℕ) (filled : Bool) : Type 0 where
  pub full : filled ≡ true → (k : ℕ) → k < n → logged (version_in words) words chunk k ≢ 0
  pub gap : filled ≡ false → (k : ℕ) × (k < n) × (logged (version_in words) words chunk k ≡ 0)
  pub clear : (k : ℕ) → k < n → ¬ (IsBadLogWord words chunk k)
  pub entries : (k : ℕ) → k < n → logged (version_in words) words chunk k ≢ 0 → HasEntry words (logged (version_in words) words chunk k)

pub read_none : (words : List ℕ) (chunk : ℕ) → IsChunkRead words chunk 0 true
read_none words chunk = record {
  full = λ _ k below. absurd (omega arith);
  gap = λ e. absurd (true≢false e);
  clear = λ k below. absurd (omega arith);
  entries = λ k below. absurd (omega arith);
}

pub read_zero : (words : List ℕ) (chunk n : ℕ) (filled : Bool) → logged (version_in words) words chunk n ≡ 0 → IsChunkRead words chunk n filled → IsChunkRead words chunk (n + 1) false
read_zero words chunk n filled zero r = record {
  full = λ e. absurd (false≢true e);
  gap = λ _. (n, omega arith, zero);
  clear = λ k below. ⊎_elim (λ (same : k ≡ n). λ bad. bad.some (ap (logged (version_in words) words chunk) same ∙ zero)) (λ (other : k ≢ n). r.clear k (omega arith)) (cases_eq k n);
  entries = λ k below. ⊎_elim (λ (same : k ≡ n). λ some. absurd (some (ap (logged (version_in words) words chunk) same ∙ zero))) (λ (other : k ≢ n). r.entries k (omega arith)) (cases_eq k n);
}

pub read_entry : (words : List ℕ) (chunk n word : ℕ) → word ≡ logged (version_in words) words chunk n → word ≢ 0 → HasEntry words word → IsChunkRead words chunk n true → IsChunkRead words chunk (n + 1) true
read_entry words chunk n word is some entry r = record {
  full = λ _ k below. ⊎_elim (λ (same : k ≡ n). λ none. some (is ∙ sym (ap (logged (version_in words) words chunk) same) ∙ none)) (λ (other : k ≢ n). r.full refl k (omega arith)) (cases_eq k n);
  gap = λ e. absurd (true≢false e);
  clear = λ k below. ⊎_elim
      (λ (same : k ≡ n). λ bad. ⊎_elim
      (λ none. none entry.entry (subst (λ w. IsEntryWord (layout_of (version_in words)).first_granule (granules_in words) w entry.entry) (is ∙ sym (ap (logged (version_in words) words chunk) same)) entry.is))
      (λ early. r.full refl early.0 (omega (arith, early.1, same)) early.2)
      bad.bad)
      (λ (other : k ≢ n). r.clear k (omega arith))
      (cases_eq k n);
  entries = λ k below. ⊎_elim (λ (same : k ≡ n). λ _. subst (HasEntry words) (is ∙ sym (ap (logged (version_in words) words chunk) same)) entry) (λ (other : k ≢ n). r.entries k (omega arith)) (cases_eq k n);
}

least_here : (words : List ℕ) (chunk n : ℕ) (filled : Bool) → IsChunkRead words chunk n filled → IsBadLogWord words chunk n → IsLeast (IsBadLogWord words chunk) n
least_here words chunk n filled r bad = record {
  here = bad;
  least = λ other b. ⊎_elim (λ (before : other < n). absurd (r.clear other before b)) (λ (after : n ≤ other). after) (cases_lt other n);
}

pub least_gap : (words : List ℕ) (chunk n word : ℕ) → n < (layout_of (version_in words)).chunk_entries → word ≡ logged (version_in words) words chunk n → word ≢ 0 → IsChunkRead words chunk n false → IsLeast (IsBadLogWord words chunk) n
least_gap words chunk n word below is some r = least_here words chunk n false r (record { below = below; some = λ none. some (is ∙ none); bad = inr (r.gap refl) })

pub least_word : (words : List ℕ) (chunk n word : ℕ) (filled : Bool) → n < (layout_of (version_in words)).chunk_entries → word ≡ logged (version_in words) words chunk n → word ≢ 0 → IsNoEntryWord (layout_of (version_in words)).first_granule (granules_in words) word →
    IsChunkRead words chunk n filled → IsLeast (IsBadLogWord words chunk) n
least_word words chunk n word filled below is some none r =
    least_here words chunk n filled r (record { below = below; some = λ z. some (is ∙ z); bad = inl (subst (IsNoEntryWord (layout_of (version_in words)).first_granule (granules_in words)) is none) })

pub chunk_of_read : (words : List ℕ) (chunk n : ℕ) (filled : Bool) → (layout_of (version_in words)).chunk_entries ≤ n → IsChunkRead words chunk n filled → IsChunk (version_in words) (granules_in words) words chunk
chunk_of_read words chunk n filled all r = record {
  entries = λ k below some. let e = r.entries k (omega arith) some in (e.entry, e.is);
  packed = λ place later order below zero. ⊎_elim
      (λ (none : logged (version_in words) words chunk later ≡ 0). none)
      (λ (some : logged (version_in words) words chunk later ≢ 0). ⊎_elim
      (λ (same : place ≡ later). absurd (some (sym (ap (logged (version_in words) words chunk) same) ∙ zero)))
      (λ (before : place ≢ later). absurd (r.clear later (omega arith) (record { below = below; some = some; bad = inr (place, omega arith, zero) })))
      (cases_eq place later))
      (cases_eq (logged (version_in words) words chunk later) 0);
}

-- a chunk without a bad word has none
pub none_bad : (words : List ℕ) (chunk : ℕ) → IsChunk (version_in words) (granules_in words) words chunk → HasNone (IsBadLogWord words chunk)
none_bad words chunk is = record {
  none = λ entry bad. ⊎_elim
      (λ none. let found = is.entries entry bad.below bad.some in none found.0 found.1)
      (λ gap. bad.some (is.packed gap.0 entry (omega (arith, gap.1)) bad.below gap.2))
      bad.bad;
}
