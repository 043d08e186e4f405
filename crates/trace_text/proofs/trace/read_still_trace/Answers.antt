use Rattle.std.proofs.lemmas.Result.{IfOk-weaker}
use Rattle.trace_text.specs.Grammar.{pool_of}
use Rattle.trace_text.proofs.Calls.{still_version, still_calls}
use Rattle.trace_text.proofs.trace.read_still_trace.Goals as goal

pub returns-clause-version : goal.returns-clause-version
returns-clause-version c = IfOk-weaker c.read_kind.result _ _ (λ trace is. still_version c.args.bytes.now (pool_of trace) trace.calls.items is) c.read_kind.ensures.text

pub returns-clause-still : goal.returns-clause-still
returns-clause-still c = IfOk-weaker c.read_kind.result _ _ (λ trace is. still_calls c.args.bytes.now (pool_of trace) trace.calls.items is) c.read_kind.ensures.text
