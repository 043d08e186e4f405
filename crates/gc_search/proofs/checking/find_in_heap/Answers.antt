use Rattle.std.proofs.Common.{arith}
use Rattle.gc_search.proofs.Premises.{many_roots, roots_inside}
use Rattle.gc_search.proofs.checking.find_in_heap.Goals as goal

pub check_shared-requires-clause-room : goal.check_shared-requires-clause-room
check_shared-requires-clause-room c = omega (arith, many_roots c.args.words.now c.requires.read.header, c.requires.room)

pub read-requires-clause-inside : goal.read-requires-clause-inside
read-requires-clause-inside c = roots_inside c.args.words.now c.requires.read.header c.requires.read.size
