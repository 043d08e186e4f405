use Rattle.std.proofs.Common.{ℕ, List, subst, arith}
use Rattle.recovery_steps.proofs.Common.{words_of, step_wider, tables_of, HasNone, end_events}
use Rattle.recovery_steps.specs.Nearly.{IsDoneBesides}
use Rattle.recovery_steps.proofs.Books.{book_off_header}
use Rattle.recovery_steps.proofs.Chains.{takes_none, does_one, leaves_none}
use Rattle.recovery_steps.proofs.NearlyDone.{endable_of, steady_of, steadied_of, steadied_self}
use Rattle.recovery_steps.proofs.steadying.make_steady.Goals as goal

pub end_transition-requires-clause-endable : goal.end_transition-requires-clause-endable
end_transition-requires-clause-endable g c =
    let words = words_of (g.P.Pmem.state c.args.p.now) in
    endable_of words c.requires.begins.image c.in-Some.start (subst (λ (ws : List ℕ). IsDoneBesides (tables_of ws) c.in-Some.start) c.all_words.ensures c.in-Some.ensures)

pub returns-in-Some : goal.returns-in-Some
returns-in-Some g c =
    let words = words_of (g.P.Pmem.state c.args.p.now) in
    let start = c.in-Some.start in
    let done = c.end_transition.ensures in
    does_one IsDoneBesides end_events start c.all_words.ensures c.in-Some.ensures (step_wider (λ image leaves. leaves.keeps) done.step) (omega (arith, done.count)) (λ here. (
      steadied_of words start (words_of (g.P.Pmem.state c.end_transition.new.p)) c.requires.begins.image here done.ended,
      book_off_header start c.requires.begins.image here.done.slab done.ended.off done.ended.bounds c.requires.begins.book,
    ))

pub returns-in_default : goal.returns-in_default
returns-in_default g c =
    let words = words_of (g.P.Pmem.state c.args.p.now) in
    let none = subst (λ (ws : List ℕ). HasNone (IsDoneBesides (tables_of ws))) c.all_words.ensures c.in_default.ensures in
    record { part = leaves_none c.requires.begins.quiet (takes_none none); left = steadied_self words (steady_of words c.requires.begins.image none); book = c.requires.begins.book }
