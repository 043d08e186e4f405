use Rattle.std.proofs.Common.{◌∙◌, true≢false, not, ap, sym}
use Rattle.std.proofs.lemmas.Bool.{eq-eqb, ne_eqb}
use Rattle.gc_search.proofs.Marks.{held_by}
use Rattle.gc_map.proofs.Premises.{roots_inside}
use Rattle.gc_map.proofs.summary.has_root.Goals as goal

pub root_word-requires : goal.root_word-requires
root_word-requires c = roots_inside c.args.words.now c.requires

pub returns : goal.returns
returns c =
    let same = c.address_of.ensures.field ∙ held_by c.args.words.now c.args.root c.root_word.result c.root_word.ensures in
    (λ is nothing. true≢false (sym is ∙ ap not (eq-eqb c.address_of.result 0 (same ∙ nothing))), λ some. ap not (ne_eqb c.address_of.result 0 (λ none. some (sym same ∙ none))))
