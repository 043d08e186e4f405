use Rattle.arena_core.proofs.Common.{words_of}
use Rattle.arena_core.proofs.AdoptedExtents.{index_read, slabs_read}
use Rattle.arena_core.proofs.adopting.read_image.Goals as goal

pub returns-clause-free : goal.returns-clause-free
returns-clause-free g c = index_read (c.in_default.ensures.reads (words_of (g.P.Pmem.state c.args.device.now)) c.requires.log.reads).none c.loop-extent.invariant.read

pub returns-clause-slabs : goal.returns-clause-slabs
returns-clause-slabs g c = slabs_read (c.in_default.ensures.reads (words_of (g.P.Pmem.state c.args.device.now)) c.requires.log.reads).none c.loop-extent.invariant.read
