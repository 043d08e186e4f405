use Rattle.std.proofs.Common.{sym, ap, ◌∙◌}
use Rattle.pool_layout.specs.declared.defect.Defect.TheVariants.{StrayRoot}
use Rattle.gc_search.proofs.Premises.{roots_inside}
use Rattle.gc_search.proofs.Standing.{gc_word}
use Rattle.gc_search.proofs.roots.check_roots.Goals as goal

pub root_word-requires : goal.root_word-requires
root_word-requires c = roots_inside c.args.words.now c.requires.header c.requires.size

pub returns-in-Some-clause-defect : goal.returns-in-Some-clause-defect
returns-in-Some-clause-defect c =
    let words = c.args.words.now in
    let root = c.in-Some.root in
    record { root = root; first = c.in-Some.ensures; is = ap (StrayRoot root) (c.root_word.ensures ∙ sym (gc_word words root)) }
