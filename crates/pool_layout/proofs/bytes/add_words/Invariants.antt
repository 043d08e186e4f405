use Rattle.std.proofs.Common.{◌≡◌, ◌++◌, take, map}
use Rattle.std.specs.Int.{from_le_bytes, w64}
use Rattle.pool_layout.proofs.bytes.add_words.Given as goal

abbrev pub invariant-loop-chunk : goal.invariant-loop-chunk
invariant-loop-chunk l = l.words.items ≡ l.fn.words.items ++ map (from_le_bytes w64) (take l.chunk-index l.chunks)
