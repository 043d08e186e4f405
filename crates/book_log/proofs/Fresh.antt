-- The log of an arena that is made anew.
use Rattle.std.proofs.Common.{◌≡◌, ◌<◌, ℕ, List, [], ◌∷◌, arith}
use Rattle.book_log.proofs.Common.{All-nil, All-cons, word_at, directory_word, version_in}
use Rattle.book_log.specs.Log.{IsChunk, logged}
use Rattle.book_log.specs.Book.{HasLog}
use Rattle.book_log.proofs.Books.{HasLog-of}

-- chunk 0 is active, and has no entry
pub record IsFresh (words : List ℕ) : Type 0 where
  pub directory : word_at words directory_word ≡ 1
  pub empty : (entry : ℕ) → logged (version_in words) words 0 entry ≡ 0

-- such a log is well formed
pub HasLog-fresh : (granules : ℕ) (words : List ℕ) → IsFresh words → HasLog granules words
HasLog-fresh granules words fresh =
    let chunk : IsChunk (version_in words) granules words 0 = record {
      entries = λ place below some. absurd (some (fresh.empty place));
      packed = λ place later behind below none. fresh.empty later;
    } in
    HasLog-of granules words (0 ∷ []) (record {
      directory = record {
        word = fresh.directory;
        some = omega arith;
        most = omega arith;
        small = All-cons (λ c. c < 16) 0 [] (omega arith) (All-nil (λ c. c < 16));
        once = λ k later d before below. absurd (omega arith);
      };
      entries = All-cons (IsChunk (version_in words) granules words) 0 [] chunk (All-nil (IsChunk (version_in words) granules words));
    })
