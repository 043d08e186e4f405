use Rattle.pool_layout.proofs.Words.{words_of_bytes-bytes_of_words}
use Rattle.pool_layout.proofs.laws.law_of_words_of_bytes.Goals as goal

pub returns : goal.returns
returns c = words_of_bytes-bytes_of_words
