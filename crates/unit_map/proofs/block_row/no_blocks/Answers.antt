use Rattle.bit_words.proofs.Bits.{has-zeros}
use Rattle.unit_map.proofs.block_row.no_blocks.Goals as goal

pub returns-clause-none : goal.returns-clause-none
returns-clause-none c = has-zeros 64
