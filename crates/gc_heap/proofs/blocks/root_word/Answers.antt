use Rattle.std.proofs.Common.{sym, ap, ◌∙◌, arith}
use Rattle.pmem_lines.specs.Words.{word_at}
use Rattle.pmem_lines.specs.Pmem.{words_of}
use Rattle.gc_heap.proofs.Sizes.{first_sizes}
use Rattle.gc_heap.proofs.RootBlocks.{word_is, root_place}
use Rattle.gc_heap.proofs.blocks.root_word.Goals as goal

pub root_at-requires : goal.root_at-requires
root_at-requires g c = omega (arith, c.requires.root, (first_sizes _ c.requires.exact.formed).roots)

pub load-requires : goal.load-requires
load-requires g c = root_place c.args.root c.root_at.result c.root_at.ensures c.requires.root c.requires.exact

pub returns : goal.returns
returns g c =
    let words = words_of (g.P.Pmem.state c.args.device.now) in
    c.load.ensures ∙ ap (word_at words) (omega (arith, c.root_at.ensures)) ∙ sym (word_is words c.args.root c.requires.root)
