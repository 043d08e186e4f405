use Rattle.std.proofs.Common.{◌≡◌, ◌-◌, ◌++◌, length}
use Rattle.image_tables.specs.Log.{most_chunks, chunks_named, active_chunks}
use Rattle.book_log.proofs.directory.active_chunks.Given as goal

abbrev pub invariant-loop-byte : goal.invariant-loop-byte
invariant-loop-byte l =
    record {
      count : length l.chunks.items ≡ l._byte;
      whole : l.chunks.items ++ chunks_named (most_chunks - l._byte) l.rest ≡ active_chunks l.directory;
    }
