use Rattle.gc_steps.proofs.Words.{state_few, state_at, state_place, class_step}
use Rattle.gc_steps.proofs.slabs.put_class.Goals as goal

pub granule_at-requires : goal.granule_at-requires
granule_at-requires g c = state_few _ c.args.start c.requires.image c.requires.slab

pub write_word-requires-clause-place : goal.write_word-requires-clause-place
write_word-requires-clause-place g c = state_place c.args.start c.granule_at.result (state_at c.args.start c.granule_at.result c.granule_at.ensures) c.requires.slab c.requires.image

pub returns-clause-step : goal.returns-clause-step
returns-clause-step g c = (class_step c.args.start c.args.class c.granule_at.result _ (state_at c.args.start c.granule_at.result c.granule_at.ensures) c.normal_word.ensures c.requires.image c.requires.slab c.requires.class c.write_word.ensures).0

pub returns-clause-put : goal.returns-clause-put
returns-clause-put g c = (class_step c.args.start c.args.class c.granule_at.result _ (state_at c.args.start c.granule_at.result c.granule_at.ensures) c.normal_word.ensures c.requires.image c.requires.slab c.requires.class c.write_word.ensures).1
