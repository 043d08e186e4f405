use Rattle.gc_steps.proofs.Words.{root_few, root_place, detach_step}
use Rattle.gc_steps.proofs.roots.detach.Goals as goal

pub root_at-requires : goal.root_at-requires
root_at-requires g c = root_few _ c.args.root c.requires.detachable.rooted c.requires.detachable.image.formed

pub write_word-requires-clause-place : goal.write_word-requires-clause-place
write_word-requires-clause-place g c = root_place c.args.root c.root_at.result c.root_at.ensures c.requires.detachable.rooted c.requires.detachable.image.formed

pub returns-clause-step : goal.returns-clause-step
returns-clause-step g c = (detach_step c.args.root c.root_at.result c.root_at.ensures c.requires.detachable c.write_word.ensures).0

pub returns-clause-detached : goal.returns-clause-detached
returns-clause-detached g c = (detach_step c.args.root c.root_at.result c.root_at.ensures c.requires.detachable c.write_word.ensures).1
