use Rattle.std.proofs.Common.{arith}
use Rattle.recovery_steps.proofs.Common.{words_of, IsMorphing, finish_events}
use Rattle.recovery_steps.proofs.Arenas.{sound_of}
use Rattle.recovery_steps.proofs.Books.{book_off_header}
use Rattle.recovery_steps.proofs.Chains.{does_one, does_none}
use Rattle.recovery_steps.proofs.Leaving.{none_morphing_finished, none_morphing_self}
use Rattle.recovery_steps.proofs.finishing.finish_morphing.Goals as goal

pub returns-in-Some : goal.returns-in-Some
returns-in-Some g c =
    let words = words_of (g.P.Pmem.state c.args.p.now) in
    let start = c.in-Some.start in
    let done = c.finish_transition.ensures in
    does_one IsMorphing finish_events start c.all_words.ensures c.in-Some.ensures done.step (omega (arith, done.count)) (λ here. (
      none_morphing_finished words start (words_of (g.P.Pmem.state c.finish_transition.new.p)) (sound_of words c.requires.image.shut.image) here.slab done.finished,
      book_off_header start (sound_of words c.requires.image.shut.image) here.slab done.finished.off done.finished.keeps.bounds c.requires.book,
    ))

pub returns-in_default : goal.returns-in_default
returns-in_default g c = does_none IsMorphing finish_events 76 c.requires c.requires.image.shut.image c.all_words.ensures c.in_default.ensures (none_morphing_self (words_of (g.P.Pmem.state c.args.p.now)) c.requires.image.shut)
