use Rattle.std.proofs.Common.{arith}
use Rattle.gc_map.proofs.scanning.heap_cell.Goals as goal

pub returns-then-granule-scan : goal.returns-then-granule-scan
returns-then-granule-scan c = c.requires.scan.cell c.args.granule (omega arith) c.if-granule-scan.true
