use Rattle.std.proofs.Common.{List, ℕ, subst}
use Rattle.dict_text.specs.Calls.{calls_of}
use Rattle.dict_runs.specs.Printing.{IsCrashText}
use Rattle.nvheap.proofs.script_crashing.map_text.Goals as goal

pub returns : goal.returns
returns g c = subst (λ (old : List ℕ). IsCrashText c.args.crashed.now (calls_of c.args.script.now) c.args.dict.now.pairs old c.write_left.new.out.items) c.new-text.ensures.items c.in_ok-write_left.ensures
