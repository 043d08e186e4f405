use Rattle.std.proofs.Common.{arith}
use Rattle.pmem_lines.specs.Pmem.{words_of}
use Rattle.pmem_lines.proofs.Steps.{step_then}
use Rattle.book_log.specs.declared.entry.LogEntry.TheVariants.{Slab}
use Rattle.log_steps.specs.Events.{log_events}
use Rattle.gc_check.specs.State.{IsEitherGcHeap}
use Rattle.gc_steps.proofs.Extended.{put_exact, put_book, put_lies, put_most, put_either, put_created, put_or_not, exact_disjoint}
use Rattle.gc_steps.proofs.extents.create_slab.Goals as goal

pub log_entry-requires-clause-formed : goal.log_entry-requires-clause-formed
log_entry-requires-clause-formed g c = (put_exact c.requires.creatable c.requires.class c.put_state.ensures.words).formed

pub log_entry-requires-clause-disjoint : goal.log_entry-requires-clause-disjoint
log_entry-requires-clause-disjoint g c = exact_disjoint (put_exact c.requires.creatable c.requires.class c.put_state.ensures.words)

pub log_entry-requires-clause-book : goal.log_entry-requires-clause-book
log_entry-requires-clause-book g c = put_book c.requires.creatable c.requires.class c.put_state.ensures.words c.args.log.now c.requires.book

pub log_entry-requires-clause-valid : goal.log_entry-requires-clause-valid
log_entry-requires-clause-valid g c = put_lies c.requires.creatable c.requires.class c.put_state.ensures.words

pub log_entry-requires-clause-room : goal.log_entry-requires-clause-room
log_entry-requires-clause-room g c = omega (arith, c.requires.room, c.put_state.ensures.count, c.put_state.ensures.step.appends.room, put_most c.requires.creatable c.requires.class c.put_state.ensures.words)

pub returns-clause-step : goal.returns-clause-step
returns-clause-step g c =
    let new = words_of (g.P.Pmem.state c.log_entry.new.device) in
    step_then (IsEitherGcHeap (words_of (g.P.Pmem.state c.args.p.now)) new) (λ ws. log_events ws (Slab c.args.start)) c.put_state.ensures.step c.log_entry.ensures.step
    (put_either c.requires.creatable c.requires.class c.put_state.ensures.words new) (put_or_not c.requires.creatable c.requires.class c.put_state.ensures.words new)

pub returns-clause-most : goal.returns-clause-most
returns-clause-most g c = omega (arith, c.put_state.ensures.count, c.log_entry.ensures.most, put_most c.requires.creatable c.requires.class c.put_state.ensures.words)

pub returns-clause-created : goal.returns-clause-created
returns-clause-created g c = put_created c.requires.creatable c.requires.class c.put_state.ensures.words c.log_entry.ensures.logged
