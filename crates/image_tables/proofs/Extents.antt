-- The live extents after a store.
use Rattle.std.proofs.Common.{◌≡◌, ◌≢◌, ◌++◌, ℕ, List, [], ◌∷◌, Option, None, eqb, refl, ap, ◌∙◌, ◌<◌, length, flat_map}
use Rattle.std.specs.List.{All}
use Rattle.std.proofs.lemmas.Bool.{eq-eqb, ne_eqb, cond-true, cond-false}
use Rattle.pmem_lines.specs.Words.{word_at, put_word}
use Rattle.pool_layout.specs.Places.{directory_word, entry_slot}
use Rattle.pool_layout.specs.Header.{version_in}
use Rattle.image_tables.specs.declared.extent.Extent.{Extent}
use Rattle.image_tables.specs.Log.{active_chunks, chunk_log, log_of}
use Rattle.image_tables.specs.Extents.{start_of_entry, extent_of_entry, extent_after, extent_behind, extent_at}
use Rattle.image_tables.proofs.Logs.{SameLog, IsOffLog, IsFront, SameButChunk, log_of-same, log_of-inactive, log_of-directory, log_of-elsewhere, log_of-appended}

pub extent_behind-append : (xs ys : List ℕ) (start : ℕ) (before : Option Extent) → extent_behind (xs ++ ys) start before ≡ extent_behind ys start (extent_behind xs start before)
extent_behind-append [] ys start before = refl
extent_behind-append (x ∷ xs) ys start before = extent_behind-append xs ys start (extent_after x start before)

-- an entry decides about the start that it names
pub extent_after-named : (word start : ℕ) (before : Option Extent) → start_of_entry word ≡ start → extent_after word start before ≡ extent_of_entry word
extent_after-named word start before names = cond-true (eqb (start_of_entry word) start) (extent_of_entry word) before (eq-eqb (start_of_entry word) start names)

-- and about no other
pub extent_after-other : (word start : ℕ) (before : Option Extent) → start_of_entry word ≢ start → extent_after word start before ≡ before
extent_after-other word start before other = cond-false (eqb (start_of_entry word) start) (extent_of_entry word) before (ne_eqb (start_of_entry word) start other)

-- where the words of the log are the same
pub extent_at-same : (words new : List ℕ) (start : ℕ) → SameLog words new → extent_at new start ≡ extent_at words start
unfolding extent_at
extent_at-same words new start same = ap (λ log. extent_behind log start None) (log_of-same words new same)

-- a store to a word that is none of the log's
pub extent_at-elsewhere : (words : List ℕ) (k v start : ℕ) → IsOffLog words k → extent_at (put_word words k v) start ≡ extent_at words start
unfolding extent_at
extent_at-elsewhere words k v start off = ap (λ log. extent_behind log start None) (log_of-elsewhere words k v off)

-- stores to a chunk that is not active
pub extent_at-inactive : (words new : List ℕ) (chunk start : ℕ) → All (λ c. c ≢ chunk) (active_chunks (word_at words directory_word)) → SameButChunk words new chunk → extent_at new start ≡ extent_at words start
unfolding extent_at
extent_at-inactive words new chunk start inactive same = ap (λ log. extent_behind log start None) (log_of-inactive words new chunk inactive same)

-- a store of an entry at the end of the log
pub extent_at-appended : (words before : List ℕ) (chunk entry v start : ℕ) → IsFront words before chunk entry → v ≢ 0 →
    extent_at (put_word words (entry_slot (version_in words) chunk entry) v) start ≡ extent_after v start (extent_at words start)
unfolding extent_at
extent_at-appended words before chunk entry v start front some =
    ap (λ log. extent_behind log start None) (log_of-appended words before chunk entry v front some)
    ∙ extent_behind-append (log_of words) (v ∷ []) start None

-- a store of the directory
pub extent_at-directory : (words : List ℕ) (directory start : ℕ) → directory_word < length words →
    extent_at (put_word words directory_word directory) start ≡ extent_behind (flat_map (chunk_log (version_in words) words) (active_chunks directory)) start None
unfolding extent_at
extent_at-directory words directory start inside = ap (λ log. extent_behind log start None) (log_of-directory words directory inside)
