use Rattle.std.proofs.Common.{◌∙◌, sym, arith}
use Rattle.std.proofs.lemmas.Bool.{ltb-true, lt-ltb}
use Rattle.gc_search.proofs.Standing.{gc_large}
use Rattle.gc_map.proofs.summary.has_large.Goals as goal

pub returns : goal.returns
returns c =
    let is = c.large_at.ensures c.args.words.now c.requires.book.reads ∙ sym (gc_large c.args.words.now c.args.start) in
    (λ some. omega (arith, is, ltb-true 0 c.large_at.result some), λ some. lt-ltb 0 c.large_at.result (omega (arith, is, some)))
