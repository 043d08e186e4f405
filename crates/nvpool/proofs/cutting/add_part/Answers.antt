use Rattle.std.proofs.Common.{arith}
use Rattle.trace_text.specs.Grammar.{pool_of}
use Rattle.nvheap.proofs.Devices.{few_words}
use Rattle.nvpool.proofs.Cuts.{own_added, other_added}
use Rattle.nvpool.proofs.cutting.add_part.Goals as goal

pub returns-then-arena-cut-clause-part : goal.returns-then-arena-cut-clause-part
returns-then-arena-cut-clause-part c =
    own_added (pool_of c.args.trace.now) c.args.trace.now.calls.items c.args.cut c.args.image.now c.add_bytes.result c.args.arena c.args.bytes.now.items c.add_bytes.new.bytes.items c.if-arena-cut.true c.add_bytes.ensures.bytes

pub returns-clause-part : goal.returns-clause-part
returns-clause-part c =
    other_added (pool_of c.args.trace.now) c.args.trace.now.calls.items c.args.cut c.args.image.now c.add_run.result c.args.arena c.args.bytes.now.items c.add_run.new.bytes.items c.if-arena-cut.false c.add_run.ensures.run

pub add_bytes-requires-clause-whole : goal.add_bytes-requires-clause-whole
add_bytes-requires-clause-whole c = let size = c.requires.sound.formed.size in omega (arith, size)

pub add_bytes-requires-clause-few : goal.add_bytes-requires-clause-few
add_bytes-requires-clause-few c = let few = (few_words c.args.image.now c.requires.sound).0 in omega (arith, few)
