use Rattle.bit_words.proofs.Bits.{has-zeros}
use Rattle.interleaved_bitmap.proofs.set.no_blocks.Goals as goal

pub returns-clause-none : goal.returns-clause-none
returns-clause-none c = λ i. has-zeros 64 i
