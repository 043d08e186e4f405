use Rattle.std.proofs.Common.{arith}
use Rattle.extent_steps.proofs.Common.{words_of, IsEitherHeap, Slab}
use Rattle.pmem_lines.proofs.Steps.{step_then}
use Rattle.log_steps.specs.Events.{log_events}
use Rattle.log_steps.proofs.Entries.{most_few}
use Rattle.extent_steps.proofs.NewSlabs.{in_heap, start_high, made_version, made_same, made_book, made_disjoint, made_either, made_events, logged_either, opened}
use Rattle.extent_steps.proofs.slab.create_slab.Goals as goal

pub log_entry-requires-clause-formed : goal.log_entry-requires-clause-formed
log_entry-requires-clause-formed g c = (made_same c.requires.openable c.requires.class c.make_header.ensures.made.kept).near.formed

pub log_entry-requires-clause-disjoint : goal.log_entry-requires-clause-disjoint
log_entry-requires-clause-disjoint g c = made_disjoint c.requires.openable c.requires.class c.make_header.ensures.made.kept

pub log_entry-requires-clause-book : goal.log_entry-requires-clause-book
log_entry-requires-clause-book g c = made_book c.requires.openable c.requires.class c.make_header.ensures.made.kept c.args.log.now c.requires.book

pub log_entry-requires-clause-valid : goal.log_entry-requires-clause-valid
log_entry-requires-clause-valid g c = let same = made_same c.requires.openable c.requires.class c.make_header.ensures.made.kept in grind (arith, in_heap, start_high)

pub log_entry-requires-clause-room : goal.log_entry-requires-clause-room
log_entry-requires-clause-room g c = grind (arith, made_version, made_events, most_few)

pub returns-clause-few : goal.returns-clause-few
returns-clause-few g c = grind (arith, made_version, made_events)

pub returns-clause-step : goal.returns-clause-step
returns-clause-step g c =
    let new = words_of (g.P.Pmem.state c.log_entry.new.device) in
    step_then (IsEitherHeap (words_of (g.P.Pmem.state c.args.p.now)) new) (λ ws. log_events ws (Slab c.args.start)) c.make_header.ensures.step c.log_entry.ensures.step
    (made_either c.requires.openable c.requires.class new) (logged_either c.requires.openable c.requires.class c.make_header.ensures.made new)

pub returns-clause-opened : goal.returns-clause-opened
returns-clause-opened g c = opened c.requires.openable c.requires.class c.make_header.ensures.made c.log_entry.ensures.logged
