use Rattle.std.proofs.Common.{refl, arith}
use Rattle.gc_check.specs.Heap.{gc_tables}
use Rattle.image_reading.proofs.Holding.{refuted}
use Rattle.gc_search.proofs.Standing.{block_of, back_from}
use Rattle.gc_search.proofs.roots.has_class_block.Goals as goal

pub returns-then-has_block_back : goal.returns-then-has_block_back
returns-then-has_block_back c = (λ _. block_of (gc_tables c.args.words.now).slab c.args.class c.args.at c.loop-back.back (c.has_block_back.ensures.0 c.if-has_block_back.true), λ _. refl)

pub returns : goal.returns
returns c = refuted (λ block.
    let found = back_from (gc_tables c.args.words.now).slab c.args.class c.args.at c.requires.class block in
    c.loop-back.invariant found.0 (omega (arith, found.1)) found.2)
