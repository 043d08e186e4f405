use Rattle.std.proofs.Common.{refl, arith}
use Rattle.trace_text.proofs.Pools.{is_pool}
use Rattle.trace_gen.proofs.drawing.generated_pool.Goals as goal

pub returns-clause-valid : goal.returns-clause-valid
returns-clause-valid c = is_pool refl (omega arith) (omega arith) (omega arith) (omega arith)
