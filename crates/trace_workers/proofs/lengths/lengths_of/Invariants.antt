use Rattle.std.proofs.Common.{◌≡◌, length}
use Rattle.trace_runs.specs.Each.{EachFrom}
use Rattle.trace_workers.specs.Lengths.{AllAsked, AreInOrder, IsCounted}
use Rattle.trace_workers.specs.Workers.{AllOf}
use Rattle.trace_workers.proofs.lengths.lengths_of.Given as goal

abbrev pub invariant-loop-arena : goal.invariant-loop-arena
invariant-loop-arena g l = record {
  of : AllOf l.pool l.passes;
  order : AreInOrder 0 l.passes;
  asked : AllAsked l.fn.passes l.passes;
  counted : EachFrom (IsCounted l.passes) 0 l.counts.items;
  all : length l.counts.items ≡ l.arena;
}
