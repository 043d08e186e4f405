use Rattle.std.proofs.Common.{arith}
use Rattle.gc_map.proofs.Premises.{slab_at}
use Rattle.gc_map.proofs.Slabs.{class_said, class_low}
use Rattle.gc_map.proofs.places.class_of_slab.Goals as goal

pub state_word-requires : goal.state_word-requires
state_word-requires c = slab_at c.requires.read c.args.start c.requires.slab

pub overflow_cast-result : goal.overflow_cast-result
overflow_cast-result c =
    omega (arith, class_said c.args.words.now c.requires.sound c.args.start c.state_word.result c.requires.slab c.state_word.ensures, class_low c.args.words.now c.requires.sound c.args.start c.requires.slab)

pub returns-clause-class : goal.returns-clause-class
returns-clause-class c = class_said c.args.words.now c.requires.sound c.args.start c.state_word.result c.requires.slab c.state_word.ensures

pub returns-clause-few : goal.returns-clause-few
returns-clause-few c =
    omega (arith, class_said c.args.words.now c.requires.sound c.args.start c.state_word.result c.requires.slab c.state_word.ensures, class_low c.args.words.now c.requires.sound c.args.start c.requires.slab)
