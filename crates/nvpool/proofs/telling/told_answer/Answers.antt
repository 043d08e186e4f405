use Rattle.std.proofs.Common.{refl}
use Rattle.std.proofs.lemmas.Bool.{false≢true}
use Rattle.nvpool.specs.Rules.{log_pools, gc_pools}
use Rattle.nvpool.specs.Telling.{telling_by}
use Rattle.nvpool.proofs.Variants.{log_answer, gc_answer}
use Rattle.nvpool.proofs.telling.told_answer.Goals as goal

pub returns-then-has_gc_text : goal.returns-then-has_gc_text
returns-then-has_gc_text c =
    gc_answer (telling_by log_pools c.args.form) (telling_by gc_pools c.args.form) c.args.words.now c.args.bytes c.told_by.result (c.if-has_gc_text.ensures.0 refl) c.told_by.ensures

pub returns-else-has_gc_text : goal.returns-else-has_gc_text
returns-else-has_gc_text c =
    log_answer (telling_by log_pools c.args.form) (telling_by gc_pools c.args.form) c.args.words.now c.args.bytes c.told_by-else-has_gc_text.result (λ is. false≢true (c.if-has_gc_text.ensures.1 is)) c.told_by-else-has_gc_text.ensures
