use Rattle.recovery_steps.proofs.Common.{words_of, layout_of, version_in, IsLooseLarge}
use Rattle.book_log.specs.declared.entry.LogEntry.TheVariants.{Tomb}
use Rattle.log_steps.specs.Events.{log_events}
use Rattle.recovery_steps.proofs.Chains.{drop_step, does_one, does_none}
use Rattle.recovery_steps.proofs.Leaving.{rids_large, rids_self}
use Rattle.recovery_steps.proofs.extents.drop_loose.Goals as goal

pub returns-in-Some-clause-does : goal.returns-in-Some-clause-does
returns-in-Some-clause-does g c =
    let shut = c.requires.image.shut in
    let done = c.drop_extent.ensures in
    does_one IsLooseLarge (λ words start. log_events words (Tomb start)) c.in-Some.start c.all_words.ensures c.in-Some.ensures (drop_step done.gone.heap done.step) done.few
    (λ here. (rids_large (record { image = shut.image; closed = shut.closed; loose = here }) done.gone, done.book))

pub returns-in_default-clause-does : goal.returns-in_default-clause-does
returns-in_default-clause-does g c =
    does_none IsLooseLarge (λ words start. log_events words (Tomb start)) (layout_of (version_in (words_of (g.P.Pmem.state c.args.p.now)))).entry_events c.requires c.requires.image.shut.image c.all_words.ensures c.in_default.ensures (rids_self (words_of (g.P.Pmem.state c.args.p.now)) c.requires.image.shut)
