use Rattle.std.proofs.Common.{sym, subst, arith}
use Rattle.pmem_lines.specs.Pmem.{PmemState, words_of, began, HasRoom}
use Rattle.pool_layout.specs.Layout.{layout_of}
use Rattle.pool_layout.specs.Header.{version_in}
use Rattle.gc_recovery_steps.proofs.Kept.{names_same}
use Rattle.gc_recover.proofs.Recoveries.{recovered, recovery_few}
use Rattle.gc_recover.proofs.recovering.make_device_exact.Goals as goal

pub make_exact-requires-clause-room : goal.make_exact-requires-clause-room
make_exact-requires-clause-room g c =
    let old = g.P.Pmem.state c.args.p in
    let few : HasRoom (began old) (layout_of (version_in (words_of old))).recovery_events = omega (arith, c.requires.room, recovery_few (words_of old) c.requires.sound) in
    subst (λ (s : PmemState). HasRoom s (layout_of (version_in (words_of s))).recovery_events) (sym c.begin.ensures.state) few

pub returns-clause-recovered : goal.returns-clause-recovered
returns-clause-recovered g c =
    recovered (g.P.Pmem.state c.args.p) (g.P.Pmem.state c.make_exact.new.p) (rw c.begin.ensures.state at c.make_exact.ensures.part)
    c.make_exact.ensures.exact (rw c.begin.ensures.state at c.make_exact.ensures.heap) (rw c.begin.ensures.state at c.make_exact.ensures.slabs) (rw c.begin.ensures.state at c.make_exact.ensures.header)

pub returns-clause-names : goal.returns-clause-names
returns-clause-names g c =
    names_same (words_of (g.P.Pmem.state c.args.p)) (words_of (g.P.Pmem.state c.make_exact.new.p)) c.args.names.now (rw c.begin.ensures.state at c.make_exact.ensures.heap) c.requires.names
