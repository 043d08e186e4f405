use Rattle.gc_steps.proofs.Words.{root_few, root_place, attach_step}
use Rattle.gc_steps.proofs.roots.attach.Goals as goal

pub root_at-requires : goal.root_at-requires
root_at-requires g c = root_few _ c.args.root c.requires.attachable.rooted c.requires.attachable.image.formed

pub write_word-requires-clause-place : goal.write_word-requires-clause-place
write_word-requires-clause-place g c = root_place c.args.root c.root_at.result c.root_at.ensures c.requires.attachable.rooted c.requires.attachable.image.formed

pub returns-clause-step : goal.returns-clause-step
returns-clause-step g c = (attach_step c.args.root c.args.word c.root_at.result c.root_at.ensures c.requires.attachable c.write_word.ensures).0

pub returns-clause-attached : goal.returns-clause-attached
returns-clause-attached g c = (attach_step c.args.root c.args.word c.root_at.result c.root_at.ensures c.requires.attachable c.write_word.ensures).1
