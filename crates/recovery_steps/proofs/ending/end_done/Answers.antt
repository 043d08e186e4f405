use Rattle.std.proofs.Common.{arith}
use Rattle.recovery_steps.proofs.Common.{words_of, step_wider, IsDoneSlab, end_events}
use Rattle.recovery_steps.proofs.Arenas.{sound_of}
use Rattle.recovery_steps.proofs.Books.{book_off_header}
use Rattle.recovery_steps.proofs.Chains.{does_one, does_none}
use Rattle.recovery_steps.proofs.Leaving.{rids_done, rids_self}
use Rattle.recovery_steps.proofs.ending.end_done.Goals as goal

pub returns-in-Some : goal.returns-in-Some
returns-in-Some g c =
    let shut = c.requires.image.shut in
    let done = c.end_transition.ensures in
    does_one IsDoneSlab end_events c.in-Some.start c.all_words.ensures c.in-Some.ensures (step_wider (λ image leaves. leaves.keeps shut.image) done.step) (omega (arith, done.count)) (λ here. (
      rids_done shut here done.ended,
      book_off_header c.in-Some.start (sound_of (words_of (g.P.Pmem.state c.args.p.now)) shut.image) here.slab done.ended.off done.ended.bounds c.requires.book,
    ))

pub returns-in_default : goal.returns-in_default
returns-in_default g c = does_none IsDoneSlab end_events 3 c.requires c.requires.image.shut.image c.all_words.ensures c.in_default.ensures (rids_self (words_of (g.P.Pmem.state c.args.p.now)) c.requires.image.shut)
