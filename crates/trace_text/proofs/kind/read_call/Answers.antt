use Rattle.std.proofs.Common.{ℕ, ◌≤◌, ◌^◌, ◌≡◌, List, Option, Some, None, MatchOption, ap, sym, subst, arith}
use Rattle.trace_text.specs.declared.call.PoolSize.{PoolSize}
use Rattle.trace_text.specs.declared.call.TraceCall.{TraceCall}
use Rattle.trace_text.specs.declared.kind.Kind.{Kind}
use Rattle.trace_text.specs.declared.kind.Kind.TheVariants.{Every, Still}
use Rattle.trace_text.specs.Grammar.{IsCallLine, IsStill, still_lines}
use Rattle.trace_text.specs.Lines.{lines_for}
use Rattle.trace_text.proofs.OneMeaning.{one_call}
use Rattle.trace_text.proofs.kind.read_call.Goals as goal

-- a line that makes no call makes none of either kind of trace
no_call : (kind : Kind) (pool : PoolSize) (line : List ℕ) → ((call : TraceCall) → ¬ (IsCallLine pool.arenas line call)) → (call : TraceCall) → ¬ ((lines_for kind).call pool line call)
no_call Every pool line none call is = none call is
no_call Still pool line none call is = none call is.0

-- of the call that a line makes it is said whether it moves a block
still_call : (pool : PoolSize) (line : List ℕ) (call : TraceCall) (result : Option TraceCall) → pool.arenas ≤ 2 ^ 32 → IsCallLine pool.arenas line call → MatchOption result (¬ (IsStill call.call)) (λ same. (same ≡ call) × IsStill call.call)
    → MatchOption result ((other : TraceCall) → ¬ (still_lines.call pool line other)) (λ other. still_lines.call pool line other)
still_call pool line call None few is moves = λ other says. moves (subst IsStill (ap (λ (made : TraceCall). made.call) (one_call pool.arenas line other call few says.0 is)) says.1)
still_call pool line call (Some same) few is stays = (subst (λ (made : TraceCall). IsCallLine pool.arenas line made) (sym stays.0) is, subst (λ (made : TraceCall). IsStill made.call) (sym stays.0) stays.1)

pub returns-in_err-call : goal.returns-in_err-call
returns-in_err-call c = rw c.from_residual.ensures (no_call c.args.kind c.args.pool c.args.line.now c.in_err-call.ensures)

pub returns-in-Every : goal.returns-in-Every
returns-in-Every c = subst (λ (kind : Kind). (lines_for kind).call c.args.pool c.args.line.now c.in_ok-call.call) (sym c.in-Every.is) c.in_ok-call.ensures

pub returns-in-Still : goal.returns-in-Still
returns-in-Still c =
    subst (λ (kind : Kind). MatchOption c.as_still.result ((call : TraceCall) → ¬ ((lines_for kind).call c.args.pool c.args.line.now call)) (λ call. (lines_for kind).call c.args.pool c.args.line.now call)) (sym c.in-Still.is)
    (still_call c.args.pool c.args.line.now c.in_ok-call.call c.as_still.result (omega (arith, c.requires.few)) c.in_ok-call.ensures c.as_still.ensures)
