use Rattle.std.proofs.Common.{MatchOption, sym, subst}
use Rattle.trace_text.specs.declared.call.PoolSize.{PoolSize}
use Rattle.trace_text.specs.declared.kind.Kind.{Kind}
use Rattle.trace_text.specs.Lines.{lines_for}
use Rattle.trace_text.proofs.kind.read_head.Goals as goal

pub returns-in-Every : goal.returns-in-Every
returns-in-Every c =
    subst (λ (kind : Kind). MatchOption c.read_pool_line.result ((pool : PoolSize) → ¬ ((lines_for kind).head c.args.line.now pool)) (λ pool. (lines_for kind).head c.args.line.now pool))
    (sym c.in-Every.is) c.read_pool_line.ensures

pub returns-in-Still : goal.returns-in-Still
returns-in-Still c =
    subst (λ (kind : Kind). MatchOption c.read_first_pool_line.result ((pool : PoolSize) → ¬ ((lines_for kind).head c.args.line.now pool)) (λ pool. (lines_for kind).head c.args.line.now pool))
    (sym c.in-Still.is) c.read_first_pool_line.ensures
