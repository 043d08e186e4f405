use Rattle.std.proofs.Common.{refl}
use Rattle.std.proofs.lemmas.Bool.{false≢true}
use Rattle.nvpool.specs.Rules.{log_pools, gc_pools}
use Rattle.nvpool.specs.Dumping.{dumping_by}
use Rattle.nvpool.proofs.Aligned.{log_lines, gc_lines}
use Rattle.nvpool.proofs.Variants.{log_answer, gc_answer}
use Rattle.nvpool.proofs.dumping.dump_answer.Goals as goal

pub dump_by-requires-clause-lines : goal.dump_by-requires-clause-lines
dump_by-requires-clause-lines c = gc_lines

pub dump_by-requires-else-has_gc_text-clause-lines : goal.dump_by-requires-else-has_gc_text-clause-lines
dump_by-requires-else-has_gc_text-clause-lines c = log_lines

pub returns-then-has_gc_text : goal.returns-then-has_gc_text
returns-then-has_gc_text c =
    gc_answer (dumping_by log_pools c.args.arena c.args.root) (dumping_by gc_pools c.args.arena c.args.root) c.args.words.now c.args.bytes c.dump_by.result (c.if-has_gc_text.ensures.0 refl) c.dump_by.ensures

pub returns-else-has_gc_text : goal.returns-else-has_gc_text
returns-else-has_gc_text c =
    log_answer (dumping_by log_pools c.args.arena c.args.root) (dumping_by gc_pools c.args.arena c.args.root) c.args.words.now c.args.bytes c.dump_by-else-has_gc_text.result (λ is. false≢true (c.if-has_gc_text.ensures.1 is)) c.dump_by-else-has_gc_text.ensures
