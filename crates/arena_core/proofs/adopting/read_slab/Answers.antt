use Rattle.std.proofs.Common.{arith}
use Rattle.arena_core.proofs.Common.{words_of}
use Rattle.arena_core.proofs.AdoptedSlabs.{class_read, with_slab}
use Rattle.arena_core.proofs.adopting.read_slab.Goals as goal

pub returns-clause-slab : goal.returns-clause-slab
returns-clause-slab g c =
    let words = words_of (g.P.Pmem.state c.args.device.now) in
    let is = class_read words c.granule_at-at.result c.args.start c.class_at.result (omega (arith, c.granule_at-at.ensures)) c.requires.slab c.class_at.ensures in
    with_slab words c.args.supply.now c.add_used.new.self c.args.start c.granule_at-at.result c.class_at.result (omega (arith, c.granule_at-at.ensures)) is c.add_used.ensures c.used_blocks.ensures.unused
