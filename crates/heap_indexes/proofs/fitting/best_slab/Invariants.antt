use Rattle.std.proofs.Common.{◌<◌, MatchOption, IfSome, length}
use Rattle.slab_index.specs.Lives.{HasNoSparse, IsFirstSparse}
use Rattle.slab_index.proofs.Noting.{left_behind}
use Rattle.heap_indexes.specs.Fitting.{AreNotedBesides}
use Rattle.heap_indexes.proofs.fitting.best_slab.Given as goal

abbrev pub invariant-loop-next : goal.invariant-loop-next
invariant-loop-next l = record {
  noted : AreNotedBesides l.initial.lives l.units l.class l.lives;
  first : MatchOption l.next (HasNoSparse l.lives l.class) (IsFirstSparse l.lives l.class);
  inside : IfSome l.next (λ found. found.start < length l.lives.counts);
}

abbrev pub decreases-loop-next : goal.decreases-loop-next
decreases-loop-next l = left_behind l.next
