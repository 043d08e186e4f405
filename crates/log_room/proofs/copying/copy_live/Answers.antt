use Rattle.std.proofs.Common.{◌-◌, ap, arith, drop}
use Rattle.log_room.proofs.Common.{drop_all, live_at, live_words}
use Rattle.log_room.specs.Copies.{copy_events}
use Rattle.log_room.proofs.Storing.{events_done}
use Rattle.log_room.proofs.copying.copy_live.Goals as goal

pub returns-clause-appends : goal.returns-clause-appends
returns-clause-appends g c =
    let state = g.P.Pmem.state in
    let extents = live_at c.args.log.now in
    let granules = c.args.log.now.granules in
    let fresh = c.args.fresh.now in
    let left = live_words extents c.loop-chunk.from (granules - c.loop-chunk.from) in
    events_done (state c.args.device.now) (state c.loop-chunk.device) (copy_events c.args.version (drop c.loop-chunk.chunk-index fresh) left) (copy_events c.args.version fresh (live_words extents 0 granules))
    (ap (λ cs. copy_events c.args.version cs left) (drop_all c.loop-chunk.chunk-index fresh (omega arith))) c.loop-chunk.invariant.whole
