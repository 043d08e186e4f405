use Rattle.pool_layout.proofs.Words.{words_of_bytes-append}
use Rattle.pool_layout.proofs.laws.law_of_pieces.Goals as goal

pub returns : goal.returns
returns c = words_of_bytes-append
