use Rattle.pmem_lines.specs.Pmem.{words_of}
use Rattle.step_tests.proofs.TakenClasses.{on_its_way}
use Rattle.step_tests.proofs.slabs.morphs.arrive.Goals as goal

pub finish_morph-requires-clause-morphing : goal.finish_morph-requires-clause-morphing
finish_morph-requires-clause-morphing g c =
    on_its_way (words_of (g.P.Pmem.state c.args.p.now)) 4 c.load.result c.in-Some-Morphing.field-0 c.load.ensures c.in-Some-Morphing.ensures.says c.in-Some-Morphing.field-0-is
