use Rattle.std.proofs.Common.{sym, ap, subst, arith}
use Rattle.pmem_lines.specs.Pmem.{PmemState, words_of, began, HasRoom}
use Rattle.pool_layout.specs.Layout.{layout_of}
use Rattle.pool_layout.specs.Header.{version_field, version_in}
use Rattle.pool_layout.proofs.Layouts.{layout_rules}
use Rattle.recovery_steps.specs.Parts.{IsLeft}
use Rattle.recover.proofs.Recoveries.{recovered}
use Rattle.recover.proofs.recovering.make_device_exact.Goals as goal

pub make_exact-requires-clause-room : goal.make_exact-requires-clause-room
make_exact-requires-clause-room g c =
    let old = g.P.Pmem.state c.args.p in
    let few : HasRoom (began old) (layout_of (version_in (words_of old))).recovery_events = omega (arith, c.requires.room, (layout_rules (version_in (words_of old))).recovered) in
    subst (λ (s : PmemState). HasRoom s (layout_of (version_in (words_of s))).recovery_events) (sym c.begin.ensures.state) few

pub returns-clause-version : goal.returns-clause-version
returns-clause-version g c =
    let left : IsLeft (words_of (g.P.Pmem.state c.args.p)) (words_of (g.P.Pmem.state c.make_exact.new.p)) = rw c.begin.ensures.state at c.make_exact.ensures.left in
    ap version_field left.header

pub returns-clause-recovered : goal.returns-clause-recovered
returns-clause-recovered g c =
    recovered (g.P.Pmem.state c.args.p) (g.P.Pmem.state c.make_exact.new.p) (rw c.begin.ensures.state at c.make_exact.ensures.part)
    (rw c.begin.ensures.state at c.make_exact.ensures.steady) c.make_exact.ensures.exact (rw c.begin.ensures.state at c.make_exact.ensures.heap) (rw c.begin.ensures.state at c.make_exact.ensures.left)
