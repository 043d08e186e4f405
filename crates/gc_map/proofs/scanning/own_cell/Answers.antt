use Rattle.std.proofs.Common.{sym, true≢false}
use Rattle.gc_map.proofs.Exact.{closed}
use Rattle.gc_map.proofs.scanning.own_cell.Goals as goal

pub returns-then-granule-eq0 : goal.returns-then-granule-eq0
returns-then-granule-eq0 c = record { kind = c.if-granule-eq0.true; loose = (λ is. absurd (true≢false (sym is)), λ opened. absurd (closed c.args.words.now opened)) }
