use Rattle.std.proofs.Common.{◌∙◌, refl, arith}
use Rattle.defect_search.proofs.Common.{slab_table, slab_in, refuted}
use Rattle.defect_search.proofs.OpenEntries.{all_but_morphing}
use Rattle.defect_search.proofs.open_words.none_is_morphing.Goals as goal

pub returns-then-is_morphing : goal.returns-then-is_morphing
returns-then-is_morphing c =
    let read = c.requires.each c.loop-i.i (omega arith) in
    refuted (λ none_morphing. none_morphing.none_morphing (slab_in c.args.slabs.now c.loop-i.i).start (slab_table c.args.words.now _ ∙ read.at.slab) (read.of.kind ∙ c.is_morphing.ensures.0 c.if-is_morphing.true))

pub returns : goal.returns
returns c = (λ _. all_but_morphing c.args.words.now c.args.slabs.now c.loop-i.i (omega arith) c.requires c.loop-i.invariant, λ _. refl)
