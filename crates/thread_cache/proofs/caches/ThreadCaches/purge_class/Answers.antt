use Rattle.std.proofs.Common.{◌/◌, ◌*◌, ◌^◌, ◌<◌, arith}
use Rattle.std.proofs.lemmas.List.{get_or_read}
use Rattle.std.proofs.lemmas.Nat.{pow_pos}
use Rattle.std.proofs.Math.Nat.{div-lt_iff_lt-mul}
use Rattle.thread_cache.specs.Stacks.{stacks_of}
use Rattle.thread_cache.proofs.Purges.{purged_start, purged_seat, purged_seats}
use Rattle.thread_cache.proofs.Tables.{no_seat, none_from}
use Rattle.thread_cache.proofs.caches.ThreadCaches.purge_class.Goals as goal

pub returns-then-seats-seat-eq0 : goal.returns-then-seats-seat-eq0
returns-then-seats-seat-eq0 c =
    let seat = c.loop-seat.seat in
    let word = get_or_read c.self.inside.seats.items c.args.class c.index-seats.result.now (omega (arith, c.self.invariant.seats_size)) c.index-seats.ensures 0 in
    let low : c.index-seats.result.now < 1 * 2 ^ seat = (div-lt_iff_lt-mul (pow_pos seat)).0 (omega (arith, c.if-seats-seat-eq0.true)) in
    purged_seats (stacks_of c.args.self.now) seat c.args.class
    (none_from c.self.view_is c.self.invariant c.args.class seat c.requires.class (omega (arith, word, low)))
    c.loop-seat.invariant

pub loop-seat-init : goal.loop-seat-init
loop-seat-init c = purged_start (c.args.slab / 16384) c.args.class (stacks_of c.args.self.now)

pub loop-seat-preserved : goal.loop-seat-preserved
loop-seat-preserved c = purged_seat c.loop-seat.seat c.args.class c.loop-seat.invariant c.purge_stack.ensures

pub returns : goal.returns
returns c = purged_seats (stacks_of c.args.self.now) c.loop-seat.seat c.args.class (λ other past. no_seat c.args.self.now other c.args.class (omega (arith, past, c.loop-seat-test.false))) c.loop-seat.invariant
