use Rattle.std.proofs.Common.{sym, ap, subst, arith}
use Rattle.pmem_lines.specs.Pmem.{PmemState}
use Rattle.pool_layout.specs.Layout.{layout_of}
use Rattle.recover.specs.Recovered.{IsRecovered}
use Rattle.recover.proofs.recovering.recover_prepared.Goals as goal

pub adopt-requires-clause-room : goal.adopt-requires-clause-room
adopt-requires-clause-room g c =
    let exact = c.make_device_exact-p.ensures in
    omega (arith, c.requires.room, ap (λ v. (layout_of v).room) exact.version, ap (λ (s : PmemState). s.room) exact.recovered.state)

pub returns-clause-recovered : goal.returns-clause-recovered
returns-clause-recovered g c = subst (λ (s : PmemState). IsRecovered (g.P.Pmem.state c.args.p) s) (sym c.adopt.ensures.device) c.make_device_exact-p.ensures.recovered
