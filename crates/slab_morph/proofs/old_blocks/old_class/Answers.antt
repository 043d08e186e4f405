use Rattle.std.proofs.Common.{◌∙◌}
use Rattle.pmem_lines.specs.Pmem.{words_of}
use Rattle.slab_morph.proofs.OldBlocks.{old_is}
use Rattle.slab_morph.proofs.old_blocks.old_class.Goals as goal

pub returns : goal.returns
returns g c = c.fields_of.ensures.old ∙ old_is (words_of (g.P.Pmem.state c.args.p.now)) c.args.slab c.requires.here c.state_at.result c.state_at.ensures.says
