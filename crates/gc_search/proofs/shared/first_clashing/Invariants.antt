use Rattle.std.specs.Option.{MatchOption}
use Rattle.gc_search.specs.Pairs.{IsReach, HasNoClashing, IsFirstClashing}
use Rattle.gc_search.proofs.shared.first_clashing.Given as goal

abbrev pub invariant-loop-i : goal.invariant-loop-i
invariant-loop-i l = record { reach : IsReach l.sorted l.i l.reach; found : MatchOption l.found (HasNoClashing l.sorted l.i) (IsFirstClashing l.sorted l.i) }
