use Rattle.std.proofs.Common.{refl}
use Rattle.gc_check.specs.Heap.{gc_tables}
use Rattle.gc_search.proofs.FirstPairs.{in_order, unshared_of, first_of, second_of}
use Rattle.gc_search.proofs.shared.check_shared.Goals as goal

pub shared_pair-requires : goal.shared_pair-requires
shared_pair-requires c = rw c.deref.ensures.value (in_order c.requires.read c.requires.standing _ c.read_sorted.ensures.claims c.read_sorted.ensures.rising)

pub returns-in-None-clause-apart : goal.returns-in-None-clause-apart
returns-in-None-clause-apart c = unshared_of (gc_tables c.args.words.now) _ c.read_sorted.ensures.claims (rw c.deref.ensures.value at c.in-None.ensures)

pub returns-in-Some-clause-defect : goal.returns-in-Some-clause-defect
returns-in-Some-clause-defect c =
    let t = gc_tables c.args.words.now in
    let is = rw c.deref.ensures.value at c.in-Some.ensures in
    record { pair = c.in-Some.pair; first = first_of t _ c.read_sorted.ensures.claims c.in-Some.pair is; second = second_of t _ c.read_sorted.ensures.claims c.in-Some.pair is; is = refl }
