use Rattle.trace_text.specs.Texts.{IsText}
use Rattle.trace_text.specs.Lines.{lines_for}
use Rattle.trace_text.proofs.Calls.{kind_head, kind_calls, kind_pool}
use Rattle.trace_text.proofs.trace.read_kind.Goals as goal

is_text : (c : goal.In_ok-calls-in-Ok) → IsText (lines_for c.args.kind) c.args.bytes.now c.in-Ok.behind.pool c.in_ok-calls-in-Ok.calls.items
is_text c = record { lines = c.in-Ok.ensures.made c.in_ok-calls-in-Ok.calls.items c.in_ok-calls-in-Ok.ensures.calls }

pub returns-in_ok-calls-in-Ok-clause-pool : goal.returns-in_ok-calls-in-Ok-clause-pool
returns-in_ok-calls-in-Ok-clause-pool c = kind_pool c.args.kind c.args.bytes.now c.in-Ok.behind.pool c.in_ok-calls-in-Ok.calls.items (is_text c)

pub returns-in_ok-calls-in-Ok-clause-each : goal.returns-in_ok-calls-in-Ok-clause-each
returns-in_ok-calls-in-Ok-clause-each c = kind_calls c.args.kind c.args.bytes.now c.in-Ok.behind.pool c.in_ok-calls-in-Ok.calls.items (is_text c)

pub read_calls-requires-clause-some : goal.read_calls-requires-clause-some
read_calls-requires-clause-some c = (kind_head c.args.kind c.in-Ok.ensures.line c.in-Ok.behind.pool c.in-Ok.ensures.says).valid.some

pub read_calls-requires-clause-few_arenas : goal.read_calls-requires-clause-few_arenas
read_calls-requires-clause-few_arenas c = (kind_head c.args.kind c.in-Ok.ensures.line c.in-Ok.behind.pool c.in-Ok.ensures.says).valid.few
