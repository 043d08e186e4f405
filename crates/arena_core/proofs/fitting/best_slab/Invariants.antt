use Rattle.std.proofs.Common.{◌<◌, MatchOption, IfSome, length}
use Rattle.arena_core.proofs.Common.{words_of, AreLivesOf}
use Rattle.slab_index.specs.Lives.{HasNoSparse, IsFirstSparse}
use Rattle.slab_index.proofs.Noting.{left_behind}
use Rattle.arena_core.proofs.fitting.best_slab.Given as goal

abbrev pub invariant-loop-next : goal.invariant-loop-next
invariant-loop-next g l = record {
  lives : AreLivesOf l.lives (words_of (g.P.Pmem.state l.device));
  first : MatchOption l.next (HasNoSparse l.lives l.class) (IsFirstSparse l.lives l.class);
  inside : IfSome l.next (λ found. found.start < length l.lives.counts);
}

abbrev pub decreases-loop-next : goal.decreases-loop-next
decreases-loop-next g l = left_behind l.next
