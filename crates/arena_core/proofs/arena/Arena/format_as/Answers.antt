use Rattle.std.proofs.Common.{sym, ap, arith}
use Rattle.arena_core.proofs.Common.{Layout, layout_rules}
use Rattle.pool_layout.specs.declared.header.PoolVariant.TheVariants.{Log}
use Rattle.arena_core.proofs.HeaderLines.{IsWritten, formatted_device, formatted_ready, formatted_log}
use Rattle.arena_core.proofs.Formats.{formatted_exact, formatted_steady, formatted_arena}
use Rattle.arena_core.proofs.arena.Arena.format_as.Given as given
use Rattle.arena_core.proofs.arena.Arena.format_as.Goals as goal

pub take_front-requires-clause-high : goal.take_front-requires-clause-high
take_front-requires-clause-high g c =
    omega (arith, c.requires.header.least, (layout_rules c.args.version).some_granule, ap (λ (row : Layout). row.first_granule) c.layout_of.ensures.row, c.room.invariant.index, c.granules.ensures.granules)

-- the header line was written
written : (g : given.Over) (c : goal.After-device-3-1 g) → IsWritten Log (g.P.Pmem.state c.args.device) (g.P.Pmem.state c.begin.new.self) (g.P.Pmem.state c.write_header.new.device) (record { version = c.args.version; number = c.args.number; arenas = c.args.arenas; granules = c.granules.result })
written g c = grind arith

pub load-requires-clause-log : goal.load-requires-clause-log
load-requires-clause-log g c = formatted_log (written g c) _ (sym c.granules.ensures.granules)

pub invariant_of-result : goal.invariant_of-result
invariant_of-result g c =
    formatted_arena (g.P.Pmem.state c.write_header.new.device) (record { version = c.args.version; number = c.args.number; arenas = c.args.arenas; granules = c.granules.result }) (record c.room.inside.volatile { free = c.take_front.new.free; log = c.load.new.self })
    (formatted_ready (written g c.before)) (formatted_device (written g c.before)) c.load.ensures.reads (grind arith) (grind arith) (grind arith) (grind arith) c.room.invariant.no_slab (grind arith) c.room.invariant.no_lives c.room.invariant.no_normal c.room.invariant.no_unfit c.room.invariant.first

pub returns-clause-exact : goal.returns-clause-exact
returns-clause-exact g c = (formatted_exact (written g c.before)).0

pub returns-clause-empty : goal.returns-clause-empty
returns-clause-empty g c = (formatted_exact (written g c.before)).1

pub returns-clause-crash : goal.returns-clause-crash
returns-clause-crash g c = formatted_steady (written g c.before)
