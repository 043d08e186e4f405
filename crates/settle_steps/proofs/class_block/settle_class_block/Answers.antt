use Rattle.std.proofs.Common.{◌≡◌, ◌*◌, ◌/◌, subst, ◌∙◌, arith}
use Rattle.settle_steps.proofs.Common.{put_word, words_of, PutsBitOver, bit_word, bit_put}
use Rattle.settle_steps.specs.ClassBlocks.{is_named}
use Rattle.settle_steps.proofs.ClassImages.{number_low, root_there, reads_named, class_block_settled, class_block_step}
use Rattle.settle_steps.proofs.class_block.settle_class_block.Given as given
use Rattle.settle_steps.proofs.class_block.settle_class_block.Goals as goal

pub names-named-requires : goal.names-named-requires
names-named-requires g c =
    let there = root_there (words_of (g.P.Pmem.state c.args.p.now)) c.args.line c.args.root c.args.block c.requires.line c.requires.open_entry in
    record { root = there.low; inside = there.inside }

pub mark_as-requires-clause-number : goal.mark_as-requires-clause-number
mark_as-requires-clause-number g c = number_low (words_of (g.P.Pmem.state c.args.p.now)) c.args.line c.args.root c.args.block c.requires.line c.requires.open_entry

-- the test is what the root says
named : (g : given.Over) (c : goal.After-close_entry g) → c.names-named.result ≡ is_named (words_of (g.P.Pmem.state c.args.p.now)) c.args.root c.args.block.at
named g c = c.names-named.ensures ∙ reads_named (words_of (g.P.Pmem.state c.args.p.now)) c.args.line c.args.root c.args.block c.requires.line c.requires.open_entry

over : (g : given.Over) (c : goal.After-close_entry g) → PutsBitOver (words_of (g.P.Pmem.state c.args.p.now)) c.args.block.start c.args.block.number (is_named (words_of (g.P.Pmem.state c.args.p.now)) c.args.root c.args.block.at)
over g c = subst (λ on. PutsBitOver (words_of (g.P.Pmem.state c.args.p.now)) c.args.block.start c.args.block.number on) (named g c) c.mark_as.ensures.over

-- the words behind the bit's store
made : (g : given.Over) (c : goal.After-close_entry g) → words_of (g.P.Pmem.state c.mark_as.new.p)
    ≡ put_word (words_of (g.P.Pmem.state c.args.p.now)) (bit_word c.args.block) (bit_put (words_of (g.P.Pmem.state c.args.p.now)) c.args.block (is_named (words_of (g.P.Pmem.state c.args.p.now)) c.args.root c.args.block.at))
made g c =
    let words = words_of (g.P.Pmem.state c.args.p.now) in
    let word : 8 * bit_word c.args.block / 8 ≡ bit_word c.args.block = omega arith in
    c.mark_as.ensures.step.appends.words ∙ (λ i. put_word words (word i) (bit_put words c.args.block (named g c i)))

pub returns-clause-settled : goal.returns-clause-settled
returns-clause-settled g c = class_block_settled (words_of (g.P.Pmem.state c.args.p.now)) c.args.line c.args.root c.args.block c.requires.line c.requires.open_entry (over g c) (made g c) c.close_entry.ensures.closes

pub returns-clause-step : goal.returns-clause-step
returns-clause-step g c = class_block_step (words_of (g.P.Pmem.state c.args.p.now)) c.args.line c.args.root c.args.block c.requires.line c.requires.open_entry (over g c) (named g c) (made g c) c.mark_as.ensures.step c.close_entry.ensures.step
