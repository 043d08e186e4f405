-- The words of an image.
use Rattle.std.proofs.Common.{◌≡◌, ℕ, List, length, arith}
use Rattle.std.proofs.lemmas.List.{take_all}
use Rattle.pmem_lines.specs.Words.{words_at}

-- a run of words that is all of them
pub all_words : (words : List ℕ) (n : ℕ) → n ≡ length words → words_at words 0 n ≡ words
unfolding words_at
all_words words n all = take_all n words (omega (arith, all))
