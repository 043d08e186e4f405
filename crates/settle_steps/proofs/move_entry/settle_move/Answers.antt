use Rattle.std.proofs.Common.{◌≡◌, ℕ, ◌*◌, List, ap, subst, ◌∙◌}
use Rattle.settle_steps.proofs.Common.{words_of, IsQuietStep, word_events, wal_word, Closes, ClosesOrNot}
use Rattle.settle_steps.specs.Moves.{both_named, release_events, released, ReleasesOrNot}
use Rattle.settle_steps.proofs.MoveImages.{from_place, to_place, reads_both, move_settled, move_step}
use Rattle.settle_steps.proofs.move_entry.settle_move.Given as given
use Rattle.settle_steps.proofs.move_entry.settle_move.Goals as goal

pub have_words-both-requires : goal.have_words-both-requires
have_words-both-requires g c =
    let there = from_place (words_of (g.P.Pmem.state c.args.p.now)) c.args.line c.args.from c.args.to c.requires.line c.requires.open_entry in
    let also = to_place (words_of (g.P.Pmem.state c.args.p.now)) c.args.line c.args.from c.args.to c.requires.line c.requires.open_entry in
    record { from = there.low; to = also.low; from_inside = there.inside; to_inside = also.inside }

pub release-requires-clause-root : goal.release-requires-clause-root
release-requires-clause-root g c = (from_place (words_of (g.P.Pmem.state c.args.p.now)) c.args.line c.args.from c.args.to c.requires.line c.requires.open_entry).low

pub release-requires-clause-inside : goal.release-requires-clause-inside
release-requires-clause-inside g c = (from_place (words_of (g.P.Pmem.state c.args.p.now)) c.args.line c.args.from c.args.to c.requires.line c.requires.open_entry).inside

-- the test is what the tables say
both : (g : given.Over) (c : goal.After-close_entry g) → c.have_words-both.result ≡ both_named (words_of (g.P.Pmem.state c.args.p.now)) c.args.from c.args.to
both g c = c.have_words-both.ensures ∙ reads_both (words_of (g.P.Pmem.state c.args.p.now)) c.args.line c.args.from c.args.to c.requires.line c.requires.open_entry

-- the words behind the root's store
made : (g : given.Over) (c : goal.After-close_entry g) → words_of (g.P.Pmem.state c.release.new.p) ≡ released (words_of (g.P.Pmem.state c.args.p.now)) c.args.from (both_named (words_of (g.P.Pmem.state c.args.p.now)) c.args.from c.args.to)
made g c = c.release.ensures.words ∙ ap (released (words_of (g.P.Pmem.state c.args.p.now)) c.args.from) (both g c)

pub returns-clause-settled : goal.returns-clause-settled
returns-clause-settled g c =
    let state = g.P.Pmem.state in
    let new = words_of (state c.close_entry.new.device) in
    move_settled (words_of (state c.args.p.now)) c.args.line c.args.from c.args.to c.requires.line c.requires.open_entry new
    (subst (λ (ws : List ℕ). Closes ws c.args.line new) (made g c) c.close_entry.ensures.closes)

pub returns-clause-step : goal.returns-clause-step
returns-clause-step g c =
    let state = g.P.Pmem.state in
    let words = words_of (state c.args.p.now) in
    move_step words c.args.line c.args.from c.args.to c.requires.line c.requires.open_entry
    (subst (λ b. IsQuietStep (state c.args.p.now) (state c.release.new.p) (release_events c.args.from b) (ReleasesOrNot words c.args.from b)) (both g c) c.release.ensures.step)
    (subst (λ (ws : List ℕ). IsQuietStep (state c.release.new.p) (state c.close_entry.new.device) (word_events (8 * wal_word c.args.line) 0) (ClosesOrNot ws c.args.line)) (made g c) c.close_entry.ensures.step)
