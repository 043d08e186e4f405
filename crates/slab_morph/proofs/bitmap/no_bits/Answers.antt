use Rattle.std.proofs.Common.{refl}
use Rattle.pmem_lines.specs.Words.{zeros}
use Rattle.slab_header.specs.Steps.{bitmap_words}
use Rattle.slab_morph.proofs.bitmap.no_bits.Goals as goal

pub returns-clause-words : goal.returns-clause-words
unfolding zeros bitmap_words
returns-clause-words c = refl
