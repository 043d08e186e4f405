use Rattle.std.proofs.Common.{subst}
use Rattle.defect_search.proofs.Common.{IsWordOfState, SaysOfState, IsStateWord}
use Rattle.defect_search.proofs.SlabWords.{state_of_word, word_or}
use Rattle.defect_search.proofs.header.bad_word.Goals as goal

pub bad_entry_of-requires-clause-state : goal.bad_entry_of-requires-clause-state
bad_entry_of-requires-clause-state c =
    let is = c.state_word-word.ensures in
    state_of_word c.args.words.now c.args.start c.in-Some.state c.requires.slab (subst (λ w. IsWordOfState w c.in-Some.state) is c.in-Some.ensures.state) (subst (λ w. SaysOfState w c.in-Some.state) is c.in-Some.ensures.says)

pub returns-in-Some : goal.returns-in-Some
returns-in-Some c = word_or c.args.words.now c.args.start c.bad_entry_of.result c.requires.slab (subst IsStateWord c.state_word-word.ensures c.in-Some.ensures.says.form) c.bad_entry_of.ensures
