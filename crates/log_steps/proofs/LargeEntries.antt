-- An entry that names no slab is done: the tables of slabs and of large extents then.
use Rattle.std.proofs.Common.{◌≡◌, ℕ, false, List, arith}
use Rattle.image_tables.specs.Extents.{extent_at}
use Rattle.image_tables.specs.Tables.{large_of, is_slab_of, is_slab, tables_of}
use Rattle.image_tables.specs.Updates.{put_at}
use Rattle.image_tables.proofs.Tables.{large_table}
use Rattle.image_tables.proofs.Updates.{put_at-same, put_at-other}
use Rattle.book_log.specs.declared.entry.LogEntry.{LogEntry}
use Rattle.book_log.specs.Entry.{extent_of, start_of}
use Rattle.book_log.specs.Log.{with_entry}

module _ (words : List ℕ) (entry : LogEntry) (other : ℕ) where
  -- the slabs are the same, where none starts at its start
  pub slab_entry : is_slab_of (extent_of entry) ≡ false → is_slab words (start_of entry) ≡ false → is_slab_of (with_entry (extent_at words) entry other) ≡ is_slab words other
  slab_entry no_slab none = grind arith

  -- and of large extents, what starts there is changed
  pub large_entry : large_of (with_entry (extent_at words) entry other) ≡ put_at (tables_of words).large (start_of entry) (large_of (extent_of entry)) other
  large_entry = grind (arith, put_at-same, large_table, put_at-other)
