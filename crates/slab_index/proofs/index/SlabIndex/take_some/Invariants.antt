use Rattle.std.proofs.Common.{◌≡◌, length}
use Rattle.slab_index.proofs.Firsts.{AreTakenSoFar}
use Rattle.slab_index.proofs.index.SlabIndex.take_some.Given as goal

abbrev pub invariant-loop : goal.invariant-loop
invariant-loop l = record {
  taken : AreTakenSoFar l.fn.self l.start l.most l.numbers.items l.self;
  count : length l.numbers.items ≡ l.counter;
}
