-- What the proofs of this crate cite of the crates below, in one place.
pub use Rattle.std.proofs.Math.ListN.{length-append}
pub use Rattle.std.proofs.Math.Seq.{get_or-append_seam}
pub use Rattle.std.proofs.lemmas.Bool.{false≢true, cond-true, cond-false, eq-eqb, eqb-true, ne_eqb, lt-ltb, and_parts, and_from, false_from_ne_true, cases_eq, cases_lt, ltb-true, leb-true, ltb-false, le-leb, eqb-false}
pub use Rattle.std.proofs.lemmas.List.{get_or_default, get_or_append_left}
pub use Rattle.std.proofs.lemmas.List.Sorted.{Contains-permutation, IsPermutation-sym, IsPartitionPoint-from_clause, IsPartitionedBy-ltb, IsNonDecreasingBy-from_default}
pub use Rattle.std.specs.List.{Contains, All, AllPairs}
pub use Rattle.pmem_lines.specs.Words.{word_at}
pub use Rattle.size_classes.specs.Classes.{class_size, class_capacity}
pub use Rattle.pool_layout.proofs.Layouts.{layout_rules}
pub use Rattle.pool_layout.specs.Header.{version_in, granules_in}
pub use Rattle.pool_layout.specs.Layout.{layout_of}
pub use Rattle.pool_layout.specs.Places.{wal_word, granule_word, line_place, entry_slot, chunk_word, directory_word}
pub use Rattle.image_tables.proofs.Tables.{slab_table, slab_fields, root_table-past, number_table, bit_table}
pub use Rattle.image_tables.specs.Forms.{IsWalWord, IsState, IsStateWord, IsIndexWord}
pub use Rattle.image_tables.specs.Log.{active_chunks}
pub use Rattle.image_tables.specs.Tables.{Tables, is_slab, state_field, tables_of, state_word, index_word, bit_of_word}
pub use Rattle.image_tables.specs.declared.entry.WalEntry.{WalEntry}
pub use Rattle.image_tables.specs.declared.entry.WalEntry.TheVariants.{Place, Move}
pub use Rattle.slab_header.specs.State.{IsWordOfState, SaysOfState, kind_of, entries_of}
pub use Rattle.attach_wal.specs.Entry.{IsEntryWord}
pub use Rattle.book_log.specs.Log.{IsChunk, logged, directory_of, IsDirectory}
pub use Rattle.heap_model.specs.Machine.{slab_block, Range, Bounds, LiesIn}
pub use Rattle.heap_check.specs.Heap.{slab_of, is_old, entry_at, entry_old, size_by, IsClaim, claim_at, HoldsBit, HoldsOld}
pub use Rattle.heap_check.specs.Image.{bounds_of, IsSoundImage, IsExactImage}
pub use Rattle.heap_check.specs.Sound.{IsLooseLarge, IsEmptySlab, IsMorphing, IsDoneSlab, AreFewLoose, IsOpen, IsInSlab, IsValidSlab, IsNewEntry, IsOldEntry, IsOpenPlace, IsOpenMove, IsOpenEntry, granules_at, Covers, IsStanding}
pub use Rattle.image_defects.specs.Blocks.{IsRooted, DoOverlap, HasShared, IsSharing, IsFirstShared, AreRooted, IsStray, IsStrayAddress}
pub use Rattle.image_defects.specs.Least.{HasNone, IsLeast, IsLeastOf, lesser}
pub use Rattle.image_defects.specs.Log.{HasEntry, IsBadLogWord, AreDisjoint, IsOverlap, chunk_in}
pub use Rattle.image_defects.specs.Loose.{AreLoose}
pub use Rattle.image_defects.specs.Wal.{IsGoodWal, IsOpenWord, IsBadLine, IsOpenAlone}
pub use Rattle.image_reading.proofs.Holding.{IsBack, refuted, not_back, back_without, large_far}
pub use Rattle.image_reading.specs.Slabs.{slab_in, AreSlabs, no_slab, IsRead}
pub use Rattle.image_reading.specs.declared.slab.Slab.{Slab}
