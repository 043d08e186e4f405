use Rattle.std.proofs.Common.{◌≡◌, ℕ, None, false}
use Rattle.arena_core.proofs.Common.{words_of, normal_at, is_unfit, AreCountsOf, HasCounted}
use Rattle.arena_core.specs.Adopting.{HasNoted}
use Rattle.arena_core.proofs.adopting.read_lives.Given as goal

abbrev pub invariant-loop-root : goal.invariant-loop-root
invariant-loop-root g l = record {
  counted : HasCounted (words_of (g.P.Pmem.state l.device)) l.lives.counts l.root;
  normal : (start : ℕ) → normal_at l.lives start ≡ None;
  no_unfit : (class start : ℕ) → is_unfit l.lives.unfit class start ≡ false;
}

abbrev pub invariant-loop-start : goal.invariant-loop-start
invariant-loop-start g l = record {
  counts : AreCountsOf l.lives.counts (words_of (g.P.Pmem.state l.device));
  noted : HasNoted (words_of (g.P.Pmem.state l.device)) l.lives l.start;
}
