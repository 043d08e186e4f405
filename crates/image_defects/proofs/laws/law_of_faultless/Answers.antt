use Rattle.image_defects.proofs.Faultless.{sound_of, faultless_of}
use Rattle.image_defects.proofs.laws.law_of_faultless.Goals as goal

pub returns : goal.returns
returns c = λ words. (sound_of words, faultless_of words)
