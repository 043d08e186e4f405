use Rattle.std.proofs.Common.{◌≡◌, ⊎_elim}
use Rattle.pool_layout.proofs.Layouts.{version_cases}
use Rattle.trace_text.proofs.Pools.{pool_least, pool_most}
use Rattle.trace_runs.specs.Arenas.{header_for}
use Rattle.trace_runs.proofs.Formatting.{IsNewArena-format, IsPoolHeader-for, formatted_for}
use Rattle.trace_runs.proofs.arenas.new_arena.Goals as goal

pub new-requires-clause-least : goal.new-requires-clause-least
new-requires-clause-least g c = pool_least c.requires.pool

pub new-requires-clause-most : goal.new-requires-clause-most
new-requires-clause-most g c = pool_most c.requires.pool

pub returns-then-pool-eq2 : goal.returns-then-pool-eq2
returns-then-pool-eq2 g c =
    let pool = c.args.pool in
    let device = g.P.Pmem.state c.args.device in
    let made = c.format_v2.ensures in
    IsNewArena-format (header_for pool c.args.arena) device c.format_v2.result (IsPoolHeader-for c.requires.pool c.requires.inside) c.requires.zeroed
    (formatted_for pool c.args.arena 2 c.in_ok-room.room device c.format_v2.result c.if-pool-eq2.true c.in_ok-room.ensures made.device) made.line made.stacks made.ready made.exact made.empty

pub returns : goal.returns
returns g c =
    let pool = c.args.pool in
    let device = g.P.Pmem.state c.args.device in
    let made = c.format.ensures in
    let first : pool.version ≡ 1 = ⊎_elim (λ (one : pool.version ≡ 1). one) (λ (two : pool.version ≡ 2). absurd (c.if-pool-eq2.false two)) (version_cases pool.version c.requires.pool.version) in
    IsNewArena-format (header_for pool c.args.arena) device c.format.result (IsPoolHeader-for c.requires.pool c.requires.inside) c.requires.zeroed
    (formatted_for pool c.args.arena 1 c.in_ok-room.room device c.format.result first c.in_ok-room.ensures made.device) made.line made.stacks made.ready made.exact made.empty
