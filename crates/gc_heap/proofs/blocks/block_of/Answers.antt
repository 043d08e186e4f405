use Rattle.std.proofs.Common.{refl, sym}
use Rattle.pmem_lines.specs.Pmem.{words_of}
use Rattle.gc_heap.proofs.Sizes.{root_first}
use Rattle.gc_heap.proofs.RootBlocks.{block_found}
use Rattle.gc_heap.proofs.blocks.block_of.Goals as goal

pub returns : goal.returns
returns g c = (
  block_found _ c.requires.exact c.args.root c.root_word-word.result c.address_in.result c.size_in.result (root_first _ c.layout_of.result c.args.root c.requires.exact.formed c.layout_of.ensures.row c.if-root-layout_of.false)
      c.root_word-word.ensures c.if-word-eq0.false c.address_in.ensures (c.size_in.ensures (words_of (g.P.Pmem.state c.args.device.now)) c.requires.book),
  refl,
)

pub size_in-requires : goal.size_in-requires
size_in-requires g c =
    let words = words_of (g.P.Pmem.state c.args.device.now) in
    (words, c.requires.exact, c.requires.book, record { root = c.args.root; is = sym c.root_word-word.ensures; some = c.if-word-eq0.false })
