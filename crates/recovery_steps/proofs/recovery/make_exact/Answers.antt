use Rattle.std.proofs.Common.{◌-◌, ap, subst, ◌∙◌, arith}
use Rattle.recovery_steps.proofs.Common.{words_of, layout_of, version_in, layout_rules, KeepsHeap, KeepsHeap-then}
use Rattle.pool_layout.specs.Header.{version_field}
use Rattle.recovery_steps.specs.Parts.{IsPart}
use Rattle.recovery_steps.specs.Recovery.{Recovers}
use Rattle.recovery_steps.proofs.Chains.{part_after, part_alone, none_taken}
use Rattle.recovery_steps.proofs.Leaving.{names_same, classes_then}
use Rattle.recovery_steps.proofs.NearlyDone.{none_besides}
use Rattle.recovery_steps.proofs.recovery.make_exact.Goals as goal

pub make_steady_exact-requires-clause-names : goal.make_steady_exact-requires-clause-names
make_steady_exact-requires-clause-names g c =
    let state = g.P.Pmem.state in
    let steadied = c.make_steady.ensures.left in
    names_same c.args.names.now (words_of (state c.args.p.now)) (words_of (state c.make_steady.new.p)) steadied.keeps.bounds steadied.roots c.requires.names

pub returns-clause-part : goal.returns-clause-part
returns-clause-part g c =
    let words = words_of (g.P.Pmem.state c.args.p.now) in
    let steadied = c.make_steady.ensures.left in
    let same = ap version_field steadied.header in
    part_after (layout_of (version_in words)).recovery_events
    (omega (arith, (layout_rules (version_in words)).recovery, ap (λ v. (layout_of v).recovery_events) same))
    c.make_steady.ensures.part steadied.keeps c.make_steady_exact.ensures.part

pub make_steady-requires-clause-begins : goal.make_steady-requires-clause-begins
make_steady-requires-clause-begins g c = record { image = c.requires.image; book = c.requires.book; quiet = c.requires.quiet; room = omega (arith, c.requires.room, (layout_rules (version_in (words_of (g.P.Pmem.state c.args.p.now)))).recovery) }

pub make_steady_exact-requires-clause-begins : goal.make_steady_exact-requires-clause-begins
make_steady_exact-requires-clause-begins g c =
    let words = words_of (g.P.Pmem.state c.args.p.now) in
    let part = c.make_steady.ensures.part in
    let steadied = c.make_steady.ensures.left in
    let same = ap version_field steadied.header in
    record { image = steadied.keeps.steady; book = c.make_steady.ensures.book; quiet = c.make_steady.ensures.part.step.quiet; room = omega (arith, c.requires.room, (layout_rules (version_in words)).recovery, ap (λ v. (layout_of v).recovery_events) same, part.few, part.step.appends.count, part.step.appends.room) }

pub returns-clause-steady : goal.returns-clause-steady
returns-clause-steady g c = λ steady.
    let words = words_of (g.P.Pmem.state c.args.p.now) in
    let steadied = c.make_steady.ensures.left in
    let same = ap version_field steadied.header in
    subst (λ v. IsPart KeepsHeap (g.P.Pmem.state c.args.p.now) (g.P.Pmem.state c.make_steady_exact.new.p) Recovers ((layout_of v).recovery_events - 3)) same (part_alone c.make_steady.ensures.part
    (none_taken (none_besides (words_of (g.P.Pmem.state c.args.p.now)) steady) c.make_steady.ensures.part.stores)
    c.make_steady_exact.ensures.part)

pub returns-clause-heap : goal.returns-clause-heap
returns-clause-heap g c =
    let state = g.P.Pmem.state in
    KeepsHeap-then (words_of (state c.args.p.now)) (words_of (state c.make_steady.new.p)) (words_of (state c.make_steady_exact.new.p)) c.make_steady.ensures.left.keeps c.make_steady_exact.ensures.heap

pub returns-clause-left : goal.returns-clause-left
returns-clause-left g c =
    let first = c.make_steady.ensures.left in
    let second = c.make_steady_exact.ensures.left in
    record { shut = second.shut; header = second.header ∙ first.header; roots = second.roots ∙ first.roots; slabs = classes_then first.slabs second.slabs }
