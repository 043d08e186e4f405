use Rattle.std.proofs.Common.{◌≡◌, ◌*◌, ◌/◌, subst, ◌∙◌, arith}
use Rattle.settle_steps.proofs.Common.{put_word, words_of, index_word, IndexEntry, word_of_index, PutsIndexOver}
use Rattle.settle_steps.specs.ClassBlocks.{is_named}
use Rattle.settle_steps.specs.OldBlocks.{entry_put, live_put}
use Rattle.settle_steps.proofs.OldImages.{place_low, old_root_there, reads_named_old, reads_number, old_block_settled, old_block_step}
use Rattle.settle_steps.proofs.old_block.settle_old_block.Given as given
use Rattle.settle_steps.proofs.old_block.settle_old_block.Goals as goal

pub names-live-requires : goal.names-live-requires
names-live-requires g c =
    let there = old_root_there (words_of (g.P.Pmem.state c.args.p.now)) c.args.line c.args.root c.args.block c.requires.line c.requires.open_entry in
    record { root = there.low; inside = there.inside }

pub old_number-number-requires-clause-place : goal.old_number-number-requires-clause-place
old_number-number-requires-clause-place g c = place_low (words_of (g.P.Pmem.state c.args.p.now)) c.args.line c.args.root c.args.block c.requires.line c.requires.open_entry

pub mark_live-requires-clause-place : goal.mark_live-requires-clause-place
mark_live-requires-clause-place g c = place_low (words_of (g.P.Pmem.state c.args.p.now)) c.args.line c.args.root c.args.block c.requires.line c.requires.open_entry

-- the entry that is put, by what is read
abbrev read_entry : (g : given.Over) (c : goal.After-close_entry g) → IndexEntry
read_entry g c = record { live = c.names-live.result; number = c.old_number-number.result }

entry_is : (g : given.Over) (c : goal.After-close_entry g) → read_entry g c ≡ entry_put (words_of (g.P.Pmem.state c.args.p.now)) c.args.block (is_named (words_of (g.P.Pmem.state c.args.p.now)) c.args.root c.args.block.at)
entry_is g c =
    let words = words_of (g.P.Pmem.state c.args.p.now) in
    let live = c.names-live.ensures ∙ reads_named_old words c.args.line c.args.root c.args.block c.requires.line c.requires.open_entry in
    let number = c.old_number-number.ensures ∙ reads_number words c.args.line c.args.root c.args.block c.requires.line c.requires.open_entry in
    λ i. record { live = live i; number = number i }

over : (g : given.Over) (c : goal.After-close_entry g) → PutsIndexOver (words_of (g.P.Pmem.state c.args.p.now)) c.args.block.start c.args.block.place
    (entry_put (words_of (g.P.Pmem.state c.args.p.now)) c.args.block (is_named (words_of (g.P.Pmem.state c.args.p.now)) c.args.root c.args.block.at))
over g c = subst (λ (e : IndexEntry). PutsIndexOver (words_of (g.P.Pmem.state c.args.p.now)) c.args.block.start c.args.block.place e) (entry_is g c) c.mark_live.ensures.over

-- the words behind the index word's store
made : (g : given.Over) (c : goal.After-close_entry g) → words_of (g.P.Pmem.state c.mark_live.new.p)
    ≡ put_word (words_of (g.P.Pmem.state c.args.p.now)) (index_word c.args.block.start c.args.block.place)
    (live_put (words_of (g.P.Pmem.state c.args.p.now)) c.args.block (is_named (words_of (g.P.Pmem.state c.args.p.now)) c.args.root c.args.block.at))
made g c =
    let words = words_of (g.P.Pmem.state c.args.p.now) in
    let k = index_word c.args.block.start c.args.block.place in
    let word : 8 * k / 8 ≡ k = omega arith in
    c.mark_live.ensures.step.appends.words ∙ (λ i. put_word words (word i) (word_of_index (entry_is g c i)))

pub returns-clause-settled : goal.returns-clause-settled
returns-clause-settled g c = old_block_settled (words_of (g.P.Pmem.state c.args.p.now)) c.args.line c.args.root c.args.block c.requires.line c.requires.open_entry (over g c) (made g c) c.close_entry.ensures.closes

pub returns-clause-step : goal.returns-clause-step
returns-clause-step g c = old_block_step (words_of (g.P.Pmem.state c.args.p.now)) c.args.line c.args.root c.args.block c.requires.line c.requires.open_entry (over g c) (entry_is g c) (made g c) c.mark_live.ensures.step c.close_entry.ensures.step
