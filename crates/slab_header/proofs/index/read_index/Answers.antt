use Rattle.std.proofs.Common.{◌/◌, ◌%◌, sym}
use Rattle.slab_header.proofs.Entries.{bit_of_word-lowest}
use Rattle.slab_header.proofs.index.read_index.Goals as goal

pub returns : goal.returns
returns c = λ i. record { live = sym (bit_of_word-lowest c.args.word) i; number = c.args.word / 65536 % 65536 }
