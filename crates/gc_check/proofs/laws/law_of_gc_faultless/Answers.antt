use Rattle.gc_check.proofs.Faultless.{sound_of, faultless_of}
use Rattle.gc_check.proofs.laws.law_of_gc_faultless.Goals as goal

pub returns : goal.returns
returns c = λ words. (sound_of words, faultless_of words)
