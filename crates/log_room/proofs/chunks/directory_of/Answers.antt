use Rattle.std.proofs.Common.{arith, ◌+◌, ◌-◌, length}
use Rattle.log_room.proofs.Listing.{directory_more, directory_fits}
use Rattle.log_room.proofs.chunks.directory_of.Goals as goal

pub overflow_mul-word : goal.overflow_mul-word
overflow_mul-word c =
    let chunks = c.args.chunks.now in
    omega (arith, c.loop-i.invariant, directory_more chunks c.loop-i.i c.loop-i-test.true, directory_fits chunks (length chunks - (c.loop-i.i + 1)) c.requires.most c.requires.small)

pub overflow_add-word : goal.overflow_add-word
overflow_add-word c =
    let chunks = c.args.chunks.now in
    omega (arith, c.from.ensures, c.loop-i.invariant, directory_more chunks c.loop-i.i c.loop-i-test.true, directory_fits chunks (length chunks - (c.loop-i.i + 1)) c.requires.most c.requires.small)

pub overflow_add-word-in-loop-i : goal.overflow_add-word-in-loop-i
overflow_add-word-in-loop-i c =
    let chunks = c.args.chunks.now in
    omega (arith, c.from.ensures, c.loop-i.invariant, directory_more chunks c.loop-i.i c.loop-i-test.true, directory_fits chunks (length chunks - (c.loop-i.i + 1)) c.requires.most c.requires.small)

pub loop-i-preserved : goal.loop-i-preserved
loop-i-preserved c =
    let chunks = c.args.chunks.now in
    omega (arith, c.from.ensures, c.loop-i.invariant, directory_more chunks c.loop-i.i c.loop-i-test.true)
