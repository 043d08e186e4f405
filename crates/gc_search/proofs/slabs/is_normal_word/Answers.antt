use Rattle.std.proofs.lemmas.Bool.{ltb-true, lt-ltb}
use Rattle.std.proofs.Common.{◌/◌}
use Rattle.gc_search.proofs.StateWords.{normal_word, normal_class_of}
use Rattle.gc_search.proofs.slabs.is_normal_word.Goals as goal

pub returns-then-word-eq1 : goal.returns-then-word-eq1
returns-then-word-eq1 c =
    (λ e. normal_word c.args.word c.if-word-eq1.true (ltb-true (c.args.word / 256) 36 e), λ is. lt-ltb (c.args.word / 256) 36 (normal_class_of c.args.word is))
