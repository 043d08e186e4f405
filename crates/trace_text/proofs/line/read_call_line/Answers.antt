use Rattle.std.proofs.Common.{arith}
use Rattle.trace_text.proofs.CallLines.{behind_thread, behind_arena}
use Rattle.trace_text.proofs.line.read_call_line.Goals as goal

pub returns-in_err-arena : goal.returns-in_err-arena
returns-in_err-arena c = rw c.from_residual-in_err-arena.ensures (λ call is.
    c.in_err-arena.ensures call.arena _ (omega (arith, is.valid.arena)) (behind_thread c.args.arenas c.args.line.now _ _ call c.in_ok-thread.ensures.0 c.in_ok-thread.ensures.1 is))

pub returns-in_err-call : goal.returns-in_err-call
returns-in_err-call c = rw c.from_residual-in_err-call.ensures (λ call is.
    c.in_err-call.ensures call.call is.valid.asked
    (behind_arena c.args.arenas c.args.line.now _ _ _ _ call (omega arith) c.in_ok-thread.ensures.0 (omega (arith, c.in_ok-arena.ensures.0)) c.in_ok-thread.ensures.1 c.in_ok-arena.ensures.1 is).1)
