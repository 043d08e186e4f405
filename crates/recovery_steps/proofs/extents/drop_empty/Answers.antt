use Rattle.recovery_steps.proofs.Common.{words_of, IsEmptySlab}
use Rattle.log_room.specs.Room.{most_events}
use Rattle.extent_steps.specs.Slabs.{drop_events}
use Rattle.recovery_steps.proofs.Chains.{drop_step, does_one, does_none}
use Rattle.recovery_steps.proofs.Leaving.{rids_empty, rids_self}
use Rattle.recovery_steps.proofs.extents.drop_empty.Goals as goal

pub returns-in-Some : goal.returns-in-Some
returns-in-Some g c =
    let shut = c.requires.image.shut in
    let done = c.drop_slab.ensures in
    does_one IsEmptySlab drop_events c.in-Some.start c.all_words.ensures c.in-Some.ensures (drop_step done.dropped.heap done.step) done.most
    (λ here. (rids_empty (record { image = shut.image; closed = shut.closed; empty = here }) done.dropped, done.book))

pub returns-in_default : goal.returns-in_default
returns-in_default g c =
    does_none IsEmptySlab drop_events (most_events (words_of (g.P.Pmem.state c.args.p.now))) c.requires c.requires.image.shut.image c.all_words.ensures c.in_default.ensures (rids_self (words_of (g.P.Pmem.state c.args.p.now)) c.requires.image.shut)
