use Rattle.std.proofs.Common.{◌≡◌, ◌/◌, ◌∙◌, ap, subst, arith}
use Rattle.pmem_lines.specs.Words.{word_at}
use Rattle.image_tables.specs.Tables.{state_word}
use Rattle.slab_header.specs.State.{IsNoStateWord, IsWordOfState, SaysOfState}
use Rattle.image_reading.proofs.Holding.{read_of, state_there}
use Rattle.image_reading.proofs.held.read_slab.Goals as goal

pub unreachable-requires : goal.unreachable-requires
unreachable-requires c =
    let here : c.granule_at.result / 8 ≡ state_word c.args.start = omega (arith, c.granule_at.ensures) in
    let is = c.word_at.ensures ∙ ap (word_at c.args.words.now) here in
    state_there c.args.words.now c.args.start c.requires.at c.requires.good (subst IsNoStateWord is c.in-None.ensures.state)

pub returns-clause-read : goal.returns-clause-read
returns-clause-read c =
    let here : c.granule_at.result / 8 ≡ state_word c.args.start = omega (arith, c.granule_at.ensures) in
    let is = c.word_at.ensures ∙ ap (word_at c.args.words.now) here in
    read_of c.args.words.now (record { start = c.args.start; state = c.in-Some.state }) c.requires.at c.requires.good (subst (λ w. IsWordOfState w c.in-Some.state) is c.in-Some.ensures.state) (subst (λ w. SaysOfState w c.in-Some.state) is c.in-Some.ensures.says)
