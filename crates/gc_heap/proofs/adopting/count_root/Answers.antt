use Rattle.std.proofs.Common.{sym, ◌∙◌}
use Rattle.pmem_lines.specs.Pmem.{words_of}
use Rattle.gc_heap.proofs.Adopted.{next_root, small_of, root_passed}
use Rattle.gc_heap.proofs.adopting.count_root.Goals as goal

pub returns-in-0-clause-counted : goal.returns-in-0-clause-counted
returns-in-0-clause-counted g c =
    let words = words_of (g.P.Pmem.state c.args.device.now) in
    next_root words c.args.root c.args.indexes.now (root_passed words c.requires.exact c.args.root c.root_word-word.result c.args.indexes.now c.root_word-word.ensures (sym c.class_in.ensures ∙ c.in-0.is) c.requires.counted)
