use Rattle.std.proofs.Common.{◌∙◌, arith}
use Rattle.pmem_lines.specs.Pmem.{words_of}
use Rattle.pmem_lines.proofs.Steps.{step_end}
use Rattle.pool_layout.specs.Layout.{layout_of}
use Rattle.pool_layout.proofs.Layouts.{layout_rules}
use Rattle.pool_layout.specs.Header.{version_in}
use Rattle.log_steps.proofs.Entries.{most_few}
use Rattle.gc_recovery_steps.proofs.Kept.{keeps_on, names_same, slabs_on}
use Rattle.gc_recovery_steps.proofs.NoneLoose.{exact_by_none}
use Rattle.gc_recovery_steps.proofs.Parts.{both}
use Rattle.gc_recovery_steps.proofs.recovery.make_exact.Goals as goal

pub drop_loose-requires-clause-room : goal.drop_loose-requires-clause-room
drop_loose-requires-clause-room g c =
    let words = words_of (g.P.Pmem.state c.args.p.now) in
    omega (arith, c.requires.room, most_few words, (layout_rules (version_in words)).recovery)

pub drop_loose-requires-2-clause-image : goal.drop_loose-requires-2-clause-image
drop_loose-requires-2-clause-image g c = (step_end c.drop_loose.ensures.part.step).sound

pub drop_loose-requires-2-clause-names : goal.drop_loose-requires-2-clause-names
drop_loose-requires-2-clause-names g c = names_same (words_of (g.P.Pmem.state c.args.p.now)) (words_of (g.P.Pmem.state c.drop_loose.new.p)) c.args.names.now (step_end c.drop_loose.ensures.part.step) c.requires.names

pub drop_loose-requires-2-clause-room : goal.drop_loose-requires-2-clause-room
drop_loose-requires-2-clause-room g c =
    let words = words_of (g.P.Pmem.state c.args.p.now) in
    omega (arith, c.requires.room, c.drop_loose.ensures.once, (layout_rules (version_in words)).recovery, c.drop_loose.ensures.part.step.appends.room)

pub returns-clause-part : goal.returns-clause-part
returns-clause-part g c =
    let words = words_of (g.P.Pmem.state c.args.p.now) in
    let first = c.drop_loose.ensures.part in
    both (layout_of (version_in words)).recovery_events first c.drop_loose-2.ensures.part (omega (arith, c.drop_loose.ensures.once, first.step.appends.count, (layout_rules (version_in words)).recovery))

pub returns-clause-exact : goal.returns-clause-exact
returns-clause-exact g c =
    let last = c.drop_loose-2.ensures in
    exact_by_none (words_of (g.P.Pmem.state c.drop_loose-2.new.p)) (step_end last.part.step).sound
    (record { none = λ start loose. c.drop_loose.ensures.rid.none.none start (last.rid.loose.large start loose) })
    last.rid.none

pub returns-clause-heap : goal.returns-clause-heap
returns-clause-heap g c =
    keeps_on (words_of (g.P.Pmem.state c.args.p.now)) (words_of (g.P.Pmem.state c.drop_loose.new.p)) (words_of (g.P.Pmem.state c.drop_loose-2.new.p)) (step_end c.drop_loose.ensures.part.step) (step_end c.drop_loose-2.ensures.part.step)

pub returns-clause-header : goal.returns-clause-header
returns-clause-header g c = c.drop_loose-2.ensures.rid.header ∙ c.drop_loose.ensures.rid.header

pub returns-clause-slabs : goal.returns-clause-slabs
returns-clause-slabs g c =
    slabs_on (words_of (g.P.Pmem.state c.args.p.now)) (words_of (g.P.Pmem.state c.drop_loose.new.p)) (words_of (g.P.Pmem.state c.drop_loose-2.new.p)) c.drop_loose.ensures.rid.slabs c.drop_loose-2.ensures.rid.slabs
