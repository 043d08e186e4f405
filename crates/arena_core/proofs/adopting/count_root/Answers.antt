use Rattle.std.proofs.Common.{subst, ◌∙◌, arith}
use Rattle.arena_core.proofs.Common.{words_of, tables_of, sizes_of, IsInSlab}
use Rattle.arena_core.proofs.AdoptedSlabs.{counted_word, counted_few}
use Rattle.arena_core.proofs.Plans.{root_in}
use Rattle.arena_core.proofs.adopting.count_root.Goals as goal

pub raise-requires-clause-few : goal.raise-requires-clause-few
raise-requires-clause-few g c =
    let words = words_of (g.P.Pmem.state c.args.device.now) in
    omega (arith, counted_few words c.args.lives.now.counts c.args.root c.in-Some.slab.start c.requires.counted, c.requires.root, (sizes_of words c.requires.exact.formed).roots)

pub returns-in-Some-clause-counted : goal.returns-in-Some-clause-counted
returns-in-Some-clause-counted g c =
    let words = words_of (g.P.Pmem.state c.args.device.now) in
    let exact = c.requires.exact in
    let named = (root_in exact c.requires.slabs c.args.root c.root_word-at.result c.in-Some.slab.start c.in-Some.slab.class c.requires.root c.root_word-at.ensures c.in-Some.ensures).1 in
    counted_word words c.args.lives.now.counts c.raise.new.self.counts c.args.root c.in-Some.slab.start exact.exact.sound (λ none. c.if-at-eq0.false (c.root_word-at.ensures ∙ none))
    (subst (IsInSlab (tables_of words) c.in-Some.slab.start) c.root_word-at.ensures named.inside) c.raise.ensures.size c.raise.ensures.counts c.requires.counted
