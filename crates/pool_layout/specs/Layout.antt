-- The numbers that depend on the version of a pool, one row a version.
use Rattle.std.specs.Prelude.{◌≡◌, ◌==◌, ℕ, ◌+◌, ◌*◌, ◌/◌, ◌%◌, ◌^◌, ◌<◌, ◌≤◌, if◌then◌else◌}
use Rattle.pool_layout.specs.declared.layout.Layout.{Layout}

-- a pool may have this version: 1 or 2
pub record IsVersion (version : ℕ) : Type 0 where
  pub some : 1 ≤ version
  pub most : version ≤ 2

-- the rows
abbrev pub first_layout : Layout
first_layout = record {
  roots = 4096;
  log_at = 49152;
  chunk_bytes = 1024;
  chunk_entries = 120;
  first_granule = 4;
  least_granules = 16;
  most_granules = 1024;
  roll_events = 142;
  entry_events = 682;
  slab_events = 757;
  recovery_events = 909;
  room = 2048;
}

abbrev pub second_layout : Layout
second_layout = record {
  roots = 16384;
  log_at = 147456;
  chunk_bytes = 4096;
  chunk_entries = 504;
  first_granule = 13;
  least_granules = 25;
  most_granules = 4096;
  roll_events = 574;
  entry_events = 2842;
  slab_events = 2917;
  recovery_events = 3501;
  room = 4096;
}

-- the table: a version that no pool has is read as the first
unfoldable pub layout_of : ℕ → Layout
layout_of version = if version == 2 then second_layout else first_layout

-- how many granules so many arenas have together, and how many those of a pool have at most
unfoldable pub all_granules : ℕ → ℕ → ℕ
all_granules arenas granules = arenas * granules

abbrev pub pool_granules : ℕ
pool_granules = 16528

-- What every row keeps. Of places: the roots lie before the log, a chunk is a line and the lines of its entries, the heap
-- begins where the sixteen chunks end, and an arena has a heap. There are 4096 roots at least, and numbers of roots and of
-- entries have 16 bits.
--
-- Of events: as many extents as live at most go into five chunks, and these five are stored and flushed, named in the
-- directory, and an entry is added to the last; the header of a slab has 75 events besides; recovery adds two entries, the
-- second of which rolls at most, and has 85 events besides; and all of a call fits into the room, 11 events of a block with
-- a slab that is opened for it. The room is from 2048 to 4096 events.
pub record IsLayout (layout : Layout) : Type 0 where
  pub least_roots : 4096 ≤ layout.roots
  pub few_roots : layout.roots < 2 ^ 16
  pub roots : 16384 + 8 * layout.roots ≤ layout.log_at
  pub log : layout.log_at % 64 ≡ 0
  pub chunk : layout.chunk_bytes ≡ 64 + 8 * layout.chunk_entries
  pub some_entry : 0 < layout.chunk_entries
  pub few_entries : layout.chunk_entries < 2 ^ 16
  pub lines : layout.chunk_entries % 8 ≡ 0
  pub heap : layout.log_at + 16 * layout.chunk_bytes ≡ 16384 * layout.first_granule
  pub first : 4 ≤ layout.first_granule
  pub some_granule : layout.first_granule < layout.least_granules
  pub least : 16 ≤ layout.least_granules
  pub range : layout.least_granules ≤ layout.most_granules
  pub most : layout.most_granules ≤ 4096
  pub few_chunks : layout.most_granules < 10 * layout.chunk_entries
  pub roll : layout.chunk_entries + layout.chunk_entries / 8 + 7 ≤ layout.roll_events
  pub rises : layout.roll_events ≤ layout.entry_events
  pub entry : 5 * (layout.chunk_entries + layout.chunk_entries / 8) + 7 ≤ layout.entry_events
  pub slab : layout.entry_events + 75 ≤ layout.slab_events
  pub recovery : layout.entry_events + layout.roll_events + 85 ≤ layout.recovery_events
  pub call : layout.slab_events + 11 ≤ layout.room
  pub recovered : layout.recovery_events ≤ layout.room
  pub room : 2048 ≤ layout.room
  pub most_room : layout.room ≤ 4096
