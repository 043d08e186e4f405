use Rattle.std.proofs.Common.{arith}
use Rattle.gc_steps.proofs.Extended.{state_inside, state_step}
use Rattle.gc_steps.proofs.Words.{state_at}
use Rattle.gc_steps.proofs.extents.put_state.Goals as goal

pub granule_at-requires : goal.granule_at-requires
granule_at-requires g c = omega (arith, state_inside c.requires.creatable c.requires.class, c.requires.creatable.image.formed.size)

pub write_word-requires-clause-place : goal.write_word-requires-clause-place
write_word-requires-clause-place g c =
    let at = state_at c.args.start c.granule_at.result c.granule_at.ensures in
    record { aligned = omega (arith, at); inside = omega (arith, at, state_inside c.requires.creatable c.requires.class) }

pub returns-clause-step : goal.returns-clause-step
returns-clause-step g c = (state_step c.args.start c.args.class c.granule_at.result _ c.granule_at.ensures c.normal_word.ensures c.requires.creatable c.requires.class c.write_word.ensures).0

pub returns-clause-words : goal.returns-clause-words
returns-clause-words g c = (state_step c.args.start c.args.class c.granule_at.result _ c.granule_at.ensures c.normal_word.ensures c.requires.creatable c.requires.class c.write_word.ensures).1
