-- The log of words that are raised: the entries of the old one, each so much higher.
use Rattle.std.proofs.Common.{◌≡◌, ◌≢◌, ⊎_elim, ℕ, ◌+◌, ◌<◌, ◌≤◌, List, map, sym, ap, subst, ◌∙◌, arith, None, flat_map}
use Rattle.image_raise.proofs.Common.{All, cases_eq, cases_lt, word_at, layout_of, directory_word, entry_slot, version_in, granules_in}
use Rattle.std.proofs.lemmas.List.Elements.{All-weaker}
use Rattle.image_tables.specs.Log.{active_chunks, chunk_log, log_of}
use Rattle.image_tables.specs.Extents.{extent_behind, extent_at}
use Rattle.image_tables.proofs.Chunks.{entries_below-zeros, few_chunks}
use Rattle.book_log.specs.Log.{IsChunk}
use Rattle.book_log.specs.Book.{HasLog, chunks_of}
use Rattle.book_log.proofs.LiveExtents.{IsValid, valid_log}
use Rattle.image_raise.specs.Rise.{rise}
use Rattle.image_raise.proofs.Rows.{rises, more_entries}
use Rattle.image_raise.proofs.Entries.{higher_word, entry_none, entry_some, raised_is, valid_raised, Says, says, below_raised, flat_raised, behind_raised, behind_low}
use Rattle.image_raise.proofs.Raised.{IsRaisedWords}

module _ {words new : List ℕ} (version : version_in words ≡ 1) (log : HasLog (granules_in words) words) (few : granules_in words ≤ 4096) (is : IsRaisedWords words new) where
  pub version_now : version_in new ≡ 2
  version_now = is.version

  pub granules_now : granules_in new ≡ granules_in words + rise
  granules_now = is.granules

  same_chunks : chunks_of new ≡ chunks_of words
  same_chunks = ap active_chunks is.directory

  -- an entry of a chunk that is in use
  entry_now : (chunk entry : ℕ) → chunk < 16 → IsChunk 1 (granules_in words) words chunk → entry < (layout_of 1).chunk_entries → word_at new (entry_slot 2 chunk entry) ≡ higher_word (word_at words (entry_slot 1 chunk entry))
  entry_now chunk entry small formed less = raised_is (granules_in words) (word_at words (entry_slot 1 chunk entry)) (word_at new (entry_slot 2 chunk entry)) (formed.entries entry less) (is.entry chunk entry small less)

  chunk_now : (chunk : ℕ) → chunk < 16 → IsChunk 1 (granules_in words) words chunk → chunk_log 2 new chunk ≡ map higher_word (chunk_log 1 words chunk)
  unfolding chunk_log
  chunk_now chunk small formed =
      entries_below-zeros (λ e. word_at new (entry_slot 2 chunk e)) (layout_of 1).chunk_entries (layout_of 2).chunk_entries more_entries (λ e low high. is.no_entry chunk e small low high)
      ∙ below_raised (λ e. word_at words (entry_slot 1 chunk e)) (λ e. word_at new (entry_slot 2 chunk e)) (layout_of 1).chunk_entries (λ e less. entry_now chunk e small formed less)

  old_log : log_of words ≡ flat_map (chunk_log 1 words) (chunks_of words)
  unfolding log_of
  old_log = ap (λ v. flat_map (chunk_log v words) (chunks_of words)) version

  new_log : log_of new ≡ map higher_word (log_of words)
  unfolding log_of
  new_log =
      ap (λ v. flat_map (chunk_log v new) (chunks_of new)) version_now
      ∙ ap (flat_map (chunk_log 2 new)) same_chunks
      ∙ flat_raised (chunk_log 1 words) (chunk_log 2 new) (chunks_of words) (λ i d inside. chunk_now _ (few_chunks (word_at words directory_word) i d inside) (subst (λ v. All (IsChunk v (granules_in words) words) (chunks_of words)) version log.entries i d inside))
      ∙ ap (map higher_word) (sym old_log)

  all_valid : All (IsValid (layout_of 1).first_granule (granules_in words)) (log_of words)
  all_valid =
      subst (All (IsValid (layout_of 1).first_granule (granules_in words))) (sym old_log)
      (valid_log 1 (granules_in words) words (chunks_of words) (subst (λ v. All (IsChunk v (granules_in words) words) (chunks_of words)) version log.entries))

  all_say : All Says (log_of words)
  all_say = All-weaker (IsValid (layout_of 1).first_granule (granules_in words)) Says (λ word valid. says (layout_of 1).first_granule (granules_in words) word few valid) (log_of words) all_valid

  pub extent_now : (start : ℕ) → extent_at new (start + rise) ≡ extent_at words start
  unfolding extent_at
  extent_now start = ap (λ log. extent_behind log (start + rise) None) new_log ∙ behind_raised (log_of words) start None all_say

  pub extent_low : (start : ℕ) → start < rise → extent_at new start ≡ None
  unfolding extent_at
  extent_low start low = ap (λ log. extent_behind log start None) new_log ∙ behind_low (log_of words) start None low all_say

  chunk_formed : (chunk : ℕ) → chunk < 16 → IsChunk 1 (granules_in words) words chunk → IsChunk 2 (granules_in words + rise) new chunk
  chunk_formed chunk small formed = record {
    entries = λ place below some. ⊎_elim
        (λ (less : place < (layout_of 1).chunk_entries).
        let here = entry_now chunk place small formed less in
        let was : word_at words (entry_slot 1 chunk place) ≢ 0 = λ none. some (here ∙ entry_none _ none) in
        let valid = valid_raised (layout_of 1).first_granule (granules_in words) (word_at words (entry_slot 1 chunk place)) few (formed.entries place less was) in
        subst (λ first. IsValid first (granules_in words + rise) (word_at new (entry_slot 2 chunk place))) (sym rises) (subst (IsValid ((layout_of 1).first_granule + rise) (granules_in words + rise)) (sym here) valid))
        (λ (past : (layout_of 1).chunk_entries ≤ place). absurd (some (is.no_entry chunk place small past below)))
        (cases_lt place (layout_of 1).chunk_entries);
    packed = λ place later order below none. ⊎_elim
        (λ (less : later < (layout_of 1).chunk_entries).
        let before : place < (layout_of 1).chunk_entries = omega (arith, order, less) in
        let was : word_at words (entry_slot 1 chunk place) ≡ 0 = no_word (word_at words (entry_slot 1 chunk place)) (sym (entry_now chunk place small formed before) ∙ none) in
        entry_now chunk later small formed less ∙ entry_none _ (formed.packed place later order less was))
        (λ (past : (layout_of 1).chunk_entries ≤ later). is.no_entry chunk later small past below)
        (cases_lt later (layout_of 1).chunk_entries);
  }
    where
      no_word : (word : ℕ) → higher_word word ≡ 0 → word ≡ 0
      no_word word none = ⊎_elim (λ (is : word ≡ 0). is) (λ (some : word ≢ 0). absurd (omega (arith, none, entry_some word some))) (cases_eq word 0)

  chunks_formed : (chunks : List ℕ) → All (λ c. c < 16) chunks → All (IsChunk 1 (granules_in words) words) chunks → All (IsChunk 2 (granules_in words + rise) new) chunks
  chunks_formed chunks small formed = λ i d inside. chunk_formed _ (small i d inside) (formed i d inside)

  pub log_now : HasLog (granules_in new) new
  log_now = record {
    directory = rw (same_chunks, is.directory) log.directory;
    entries = rw (same_chunks, version_now, granules_now) (chunks_formed (chunks_of words) (few_chunks (word_at words directory_word)) (subst (λ v. All (IsChunk v (granules_in words) words) (chunks_of words)) version log.entries));
  }
