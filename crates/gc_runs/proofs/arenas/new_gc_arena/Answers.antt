use Rattle.std.proofs.Common.{ap, arith}
use Rattle.pool_layout.specs.declared.layout.Layout.{Layout}
use Rattle.pool_layout.specs.Layout.{layout_of}
use Rattle.pool_layout.proofs.Layouts.{first_row}
use Rattle.trace_text.proofs.Pools.{pool_least}
use Rattle.trace_runs.specs.Arenas.{header_for}
use Rattle.trace_runs.proofs.Formatting.{IsPoolHeader-for}
use Rattle.gc_runs.proofs.Formatting.{formatted_for, new_formatted}
use Rattle.gc_runs.proofs.arenas.new_gc_arena.Goals as goal

pub new-requires-clause-least : goal.new-requires-clause-least
new-requires-clause-least g c = pool_least c.requires.pool

pub new-requires-clause-most : goal.new-requires-clause-most
new-requires-clause-most g c = omega (arith, c.requires.pool.most, ap (λ v. (layout_of v).most_granules) c.requires.first, ap (λ (row : Layout). row.most_granules) first_row)

pub returns : goal.returns
returns g c =
    let pool = c.args.pool in
    let device = g.P.Pmem.state c.args.device in
    let made = c.format.ensures in
    new_formatted (header_for pool c.args.arena) device c.format.result (record { valid = IsPoolHeader-for c.requires.pool c.requires.inside; first = c.requires.first }) c.requires.zeroed (formatted_for pool c.args.arena c.in_ok-room.room device c.format.result c.requires.first c.in_ok-room.ensures made.device)
    made.stacks made.ready made.exact made.empty
