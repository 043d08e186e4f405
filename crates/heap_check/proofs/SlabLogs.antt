-- A slab comes and goes by an entry of the log: what the words say before and after.
use Rattle.std.proofs.Common.{◌≡◌, ◌≢◌, ℕ, ◌<◌, ◌≤◌, true, false, List, sym, ap, ◌∙◌, ⊎_elim, Some}
use Rattle.heap_check.proofs.Common.{cases_eq, word_at, wal_word, heap_word, version_in, Slab, extent_at, IsSameOffLog, version_in-off_log, root_word-off_log, wal_word-off_log, heap_word-off_log, roots-same, entry_among-same, slab_header-heap}
use Rattle.image_tables.specs.Tables.{held_of, root_in, open_entry_in, AreSlabsInHeap, large_of, is_slab_of, is_slab, wal_lines, tables_of}
use Rattle.heap_check.specs.Slabs.{IsSameSlab, IsSlabMore}

-- words that differ in the log alone, where the second have one slab more
pub record AddsSlab (words new : List ℕ) (start : ℕ) : Type 0 where
  pub off_log : IsSameOffLog words new
  pub slabs : AreSlabsInHeap words
  pub none : is_slab words start ≡ false
  pub no_large : large_of (extent_at words start) ≡ 0
  pub slab : extent_at new start ≡ Some Slab
  pub others : (other : ℕ) → other ≢ start → extent_at new other ≡ extent_at words other

module _ (words new : List ℕ) (start : ℕ) (adds : AddsSlab words new start) where
  heap : (k : ℕ) → heap_word (version_in words) ≤ k → word_at new k ≡ word_at words k
  heap k high = heap_word-off_log words new k adds.off_log high

  slab_other : (other : ℕ) → other ≢ start → is_slab new other ≡ is_slab words other
  slab_other other differ = ap is_slab_of (adds.others other differ)

  same_slab : (other : ℕ) → other ≢ start → IsSameSlab (tables_of words) (tables_of new) other
  unfolding tables_of
  same_slab other differ = record { slab = slab_other other differ; header = slab_header-heap words new other adds.slabs (slab_other other differ) heap }

  pub IsSlabMore-logged : IsSlabMore (tables_of words) (tables_of new) start
  unfolding tables_of
  IsSlabMore-logged = record {
    word = words_same;
    root = λ k. held_of (entry_same k) (words_same k);
    entry = entry_same;
    large = λ k other. large other k;
    none = adds.none;
    slab = ap is_slab_of adds.slab;
    others = same_slab;
  }
    where
      words_same : root_in new ≡ root_in words
      words_same k root = roots-same words new (version_in-off_log words new adds.off_log) (λ r below. root_word-off_log words new r adds.off_log below) root k

      entry_same : open_entry_in new ≡ open_entry_in words
      entry_same = entry_among-same (λ line. word_at words (wal_word line)) (λ line. word_at new (wal_word line)) wal_lines (λ line below. wal_word-off_log words new line adds.off_log below)

      large : (other : ℕ) → large_of (extent_at new other) ≡ large_of (extent_at words other)
      large other = ⊎_elim (λ (same : other ≡ start). ap (λ k. large_of (extent_at new k)) same ∙ ap large_of adds.slab ∙ sym (ap (λ k. large_of (extent_at words k)) same ∙ adds.no_large)) (λ differ. ap large_of (adds.others other differ)) (cases_eq other start)
