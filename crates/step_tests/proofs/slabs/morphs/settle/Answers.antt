use Rattle.pmem_lines.specs.Pmem.{words_of}
use Rattle.step_tests.proofs.TakenClasses.{none_left}
use Rattle.step_tests.proofs.slabs.morphs.settle.Goals as goal

pub finish_old-requires-clause-done : goal.finish_old-requires-clause-done
finish_old-requires-clause-done g c =
    none_left (words_of (g.P.Pmem.state c.args.p.now)) 4 c.load.result c.in-Some-Morphed.field-0 c.load.ensures c.in-Some-Morphed.ensures.says c.in-Some-Morphed.field-0-is c.if-entries-eq1.true c.load-then-entries-eq1.ensures c.if-load-eq0.true
