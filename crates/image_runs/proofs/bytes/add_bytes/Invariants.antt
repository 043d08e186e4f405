use Rattle.std.proofs.Common.{◌≡◌, ◌*◌, ◌++◌, length}
use Rattle.pmem_lines.specs.Words.{words_at}
use Rattle.pool_layout.specs.Bytes.{bytes_of_words}
use Rattle.image_runs.proofs.bytes.add_bytes.Given as goal

abbrev pub invariant-loop-at : goal.invariant-loop-at
invariant-loop-at l = record {
  bytes : l.bytes.items ≡ l.fn.bytes.items ++ bytes_of_words (words_at l.words 0 (512 * l.at));
  piece : length l.piece ≡ 4096;
}
