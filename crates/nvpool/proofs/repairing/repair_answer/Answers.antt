use Rattle.std.proofs.Common.{refl}
use Rattle.std.proofs.lemmas.Bool.{false≢true}
use Rattle.nvpool.specs.Rules.{log_pools, gc_pools}
use Rattle.nvpool.specs.Repairing.{repairing_by}
use Rattle.nvpool.proofs.Repairs.{log_kept, gc_kept}
use Rattle.nvpool.proofs.Variants.{log_answer, gc_answer}
use Rattle.nvpool.proofs.repairing.repair_answer.Goals as goal

pub repair_by-requires-clause-keeps : goal.repair_by-requires-clause-keeps
repair_by-requires-clause-keeps c = gc_kept

pub repair_by-requires-else-has_gc_text-clause-keeps : goal.repair_by-requires-else-has_gc_text-clause-keeps
repair_by-requires-else-has_gc_text-clause-keeps c = log_kept

pub returns-then-has_gc_text : goal.returns-then-has_gc_text
returns-then-has_gc_text c = gc_answer (repairing_by log_pools) (repairing_by gc_pools) c.args.words.now c.args.bytes c.repair_by.result (c.if-has_gc_text.ensures.0 refl) c.repair_by.ensures

pub returns-else-has_gc_text : goal.returns-else-has_gc_text
returns-else-has_gc_text c =
    log_answer (repairing_by log_pools) (repairing_by gc_pools) c.args.words.now c.args.bytes c.repair_by-else-has_gc_text.result (λ is. false≢true (c.if-has_gc_text.ensures.1 is)) c.repair_by-else-has_gc_text.ensures
