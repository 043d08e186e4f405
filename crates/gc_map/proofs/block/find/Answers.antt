use Rattle.std.proofs.Common.{◌≡◌, ◌∙◌, ap, sym}
use Rattle.gc_check.specs.Heap.{address_field, gc_size, gc_tables}
use Rattle.gc_check.proofs.Heaps.{gc_heap-none}
use Rattle.gc_search.proofs.Standing.{gc_word}
use Rattle.gc_map.proofs.Premises.{roots_inside}
use Rattle.gc_map.proofs.RootBlocks.{root_block}
use Rattle.gc_map.proofs.block.find.Goals as goal

pub root_word-word-requires : goal.root_word-word-requires
root_word-word-requires c = roots_inside c.args.words.now c.requires.sound

pub returns-then-word-eq0 : goal.returns-then-word-eq0
returns-then-word-eq0 c = gc_heap-none (gc_tables c.args.words.now) c.args.root (gc_word c.args.words.now c.args.root ∙ sym c.root_word-word.ensures ∙ c.if-word-eq0.true)

pub size_of-requires-clause-word : goal.size_of-requires-clause-word
size_of-requires-clause-word c = c.root_word-word.ensures ∙ sym (gc_word c.args.words.now c.args.root)

pub returns : goal.returns
returns c =
    let t = gc_tables c.args.words.now in
    let same : c.root_word-word.result ≡ t.word c.args.root = c.root_word-word.ensures ∙ sym (gc_word c.args.words.now c.args.root) in
    root_block c.args.words.now c.requires.sound c.args.root (λ none. c.if-word-eq0.false (same ∙ none)) c.address_of.result c.size_of.result (c.address_of.ensures.field ∙ ap address_field same) (c.size_of.ensures ∙ ap (gc_size t.large) same)
