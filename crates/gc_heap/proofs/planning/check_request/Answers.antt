use Rattle.std.proofs.Common.{ap, ◌∙◌}
use Rattle.pmem_lines.specs.Pmem.{words_of}
use Rattle.gc_check.specs.Heap.{address_field, gc_block, gc_tables}
use Rattle.gc_check.proofs.Heaps.{gc_heap-some}
use Rattle.gc_heap.proofs.Sizes.{root_first}
use Rattle.gc_heap.proofs.planning.check_request.Goals as goal

pub returns-then-word-ne0 : goal.returns-then-word-ne0
returns-then-word-ne0 g c =
    let words = words_of (g.P.Pmem.state c.args.device.now) in
    let t = gc_tables words in (
      root_first words c.layout_of.result c.args.root c.requires.exact.formed c.layout_of.ensures.row c.if-root-layout_of.false,
      (gc_block t.large (t.word c.args.root), gc_heap-some t c.args.root (λ none. c.if-word-ne0.true (c.root_word-word.ensures ∙ none)), c.address_in.ensures ∙ ap address_field c.root_word-word.ensures),
    )
