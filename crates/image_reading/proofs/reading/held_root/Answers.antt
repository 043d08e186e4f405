use Rattle.std.proofs.Common.{◌∙◌, sym}
use Rattle.image_reading.proofs.HeldRoots.{root_held}
use Rattle.image_reading.proofs.reading.held_root.Goals as goal

pub returns-in-None : goal.returns-in-None
returns-in-None c = c.root_word.ensures ∙ sym (root_held c.args.words.now _ c.args.root (c.requires.entry ∙ c.in-None.is))

pub returns-in-Some : goal.returns-in-Some
returns-in-Some c = c.held_under.ensures ∙ sym (root_held c.args.words.now _ c.args.root (c.requires.entry ∙ c.in-Some.is))
