use Rattle.heap_model.proofs.SoundStacks.{law_of_no_stacks, law_of_sound_stacks}
use Rattle.heap_model.proofs.laws.law_of_sound_stacks.Goals as goal

pub returns : goal.returns
returns c = record { none = law_of_no_stacks; along = law_of_sound_stacks }
