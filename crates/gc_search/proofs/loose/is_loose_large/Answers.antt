use Rattle.std.proofs.Common.{arith}
use Rattle.image_reading.proofs.Holding.{refuted}
use Rattle.gc_search.proofs.Premises.{large_lies}
use Rattle.gc_search.proofs.Marks.{no_loose_large, loose_large_by}
use Rattle.gc_search.proofs.loose.is_loose_large.Goals as goal

pub returns-then-large_at-eq0 : goal.returns-then-large_at-eq0
returns-then-large_at-eq0 c = refuted (no_loose_large c.args.words.now c.args.start c.large_at.result (c.large_at.ensures c.args.words.now c.requires.read.reads) c.if-large_at-eq0.true)

pub returns : goal.returns
returns c =
    let words = c.args.words.now in
    let large = c.large_at.ensures words c.requires.read.reads in
    let lies = large_lies c.requires.read c.args.start (omega (arith, large, c.if-large_at-eq0.false)) in
    rw c.starts.ensures (loose_large_by words c.args.names.now.starts c.args.start c.large_at.result large (omega (arith, c.if-large_at-eq0.false)) lies.0 (omega (arith, c.requires.inside, c.requires.names.starts_size)) c.requires.names.starts)
