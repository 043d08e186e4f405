use Rattle.std.proofs.Common.{◌≡◌, ◌*◌, take}
use Rattle.pmem_lines.specs.Words.{words_at}
use Rattle.pool_layout.specs.Bytes.{bytes_of_words}
use Rattle.pool_layout.proofs.bytes.image_bytes.Given as goal

abbrev pub invariant-loop-i : goal.invariant-loop-i
invariant-loop-i l = take (8 * l.i) l.into ≡ bytes_of_words (words_at l.words l.from l.i)
