use Rattle.std.proofs.Common.{◌+◌, ◌-◌, ap, arith, length}
use Rattle.log_room.proofs.Common.{live_at, live_words}
use Rattle.log_room.proofs.Next.{next_below, count_next, no_words}
use Rattle.log_room.proofs.copying.count_live.Goals as goal

pub overflow_add-count : goal.overflow_add-count
overflow_add-count c =
    let below = next_below 0 c.args.log.now.granules (live_at c.args.log.now) c.loop-entry.from c.in-Some.entry c.requires c.in-Some.ensures.live in
    let next = c.in-Some.ensures.live in
    omega (arith, below.1, next.at_least, c.loop-entry.invariant.few)

pub overflow_add-from : goal.overflow_add-from
overflow_add-from c = omega (arith, c.start-from.ensures, (next_below 0 c.args.log.now.granules (live_at c.args.log.now) c.loop-entry.from c.in-Some.entry c.requires c.in-Some.ensures.live).1)

pub loop-entry-smaller : goal.loop-entry-smaller
loop-entry-smaller c =
    let next = c.in-Some.ensures.live in
    omega (arith, c.start-from.ensures, next.at_least, (next_below 0 c.args.log.now.granules (live_at c.args.log.now) c.loop-entry.from c.in-Some.entry c.requires c.in-Some.ensures.live).0)

pub loop-entry-preserved : goal.loop-entry-preserved
loop-entry-preserved c =
    let extents = live_at c.args.log.now in
    let granules = c.args.log.now.granules in
    let from = c.loop-entry.from in
    let entry = c.in-Some.entry in
    let next = c.in-Some.ensures.live in
    let below = next_below 0 granules extents from entry c.requires next in
    let start = c.start-from.ensures in
    record {
      whole = omega (arith, count_next 0 granules extents from entry c.requires next, ap (λ s. length (live_words extents (s + 1) (granules - (s + 1)))) start, c.loop-entry.invariant.whole);
      few = omega (arith, start, next.at_least, c.loop-entry.invariant.few);
      below = omega (arith, start, below.0);
    }

pub returns : goal.returns
returns c =
    let none = no_words (live_at c.args.log.now) c.loop-entry.from (c.args.log.now.granules - c.loop-entry.from) c.in_default.ensures.live in
    omega (arith, c.loop-entry.invariant.whole, ap length none)
