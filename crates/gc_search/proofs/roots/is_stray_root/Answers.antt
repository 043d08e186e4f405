use Rattle.std.proofs.Common.{sym, ap, ◌∙◌, not}
use Rattle.std.proofs.lemmas.Bool.{false≢true}
use Rattle.gc_search.proofs.Premises.{roots_inside}
use Rattle.gc_search.proofs.Standing.{settled_none, settled_by, stray_by, true_of}
use Rattle.gc_search.proofs.roots.is_stray_root.Goals as goal

pub root_word-word-requires : goal.root_word-word-requires
root_word-word-requires c = roots_inside c.args.words.now c.requires.header c.requires.size

pub returns-then-word-eq0-clause-settled : goal.returns-then-word-eq0-clause-settled
returns-then-word-eq0-clause-settled c = λ _. settled_none c.args.words.now c.args.root c.root_word-word.result c.root_word-word.ensures c.if-word-eq0.true

pub returns-clause-stray : goal.returns-clause-stray
returns-clause-stray c = λ e. stray_by c.args.words.now c.args.root c.root_word-word.result c.root_word-word.ensures c.if-word-eq0.false (λ standing. false≢true (sym (ap not (c.is_standing.ensures.1 standing)) ∙ e))

pub returns-clause-settled : goal.returns-clause-settled
returns-clause-settled c = λ e. settled_by c.args.words.now c.args.root c.root_word-word.result c.root_word-word.ensures (c.is_standing.ensures.0 (true_of c.is_standing.result e))
