use Rattle.std.proofs.Common.{refl, ap, ◌∙◌, arith}
use Rattle.pmem_lines.specs.Words.{word_at}
use Rattle.pmem_lines.specs.Pmem.{words_of}
use Rattle.gc_heap.proofs.Adopted.{slab_low, class_place, class_read}
use Rattle.gc_heap.proofs.adopting.class_at.Goals as goal

pub granule_at-requires : goal.granule_at-requires
granule_at-requires g c = slab_low (words_of (g.P.Pmem.state c.args.device.now)) c.requires.exact c.args.start c.requires.slab

pub load-requires : goal.load-requires
load-requires g c = class_place (words_of (g.P.Pmem.state c.args.device.now)) c.requires.exact (g.P.Pmem.state c.args.device.now) c.args.start c.granule_at.result refl c.granule_at.ensures c.requires.slab

pub returns : goal.returns
returns g c = class_read (words_of (g.P.Pmem.state c.args.device.now)) c.requires.exact c.args.start c.load.result c.requires.slab (c.load.ensures ∙ ap (word_at (words_of (g.P.Pmem.state c.args.device.now))) (omega (arith, c.granule_at.ensures)))
