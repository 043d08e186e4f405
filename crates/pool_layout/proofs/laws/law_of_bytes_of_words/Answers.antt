use Rattle.pool_layout.proofs.Words.{bytes_of_words-words_of_bytes}
use Rattle.pool_layout.proofs.laws.law_of_bytes_of_words.Goals as goal

pub returns : goal.returns
returns c = bytes_of_words-words_of_bytes
