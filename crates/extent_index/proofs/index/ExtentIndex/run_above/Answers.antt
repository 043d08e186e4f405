use Rattle.std.proofs.Common.{sym, arith}
use Rattle.std.proofs.lemmas.List.{get_or_read, get_or_past}
use Rattle.extent_index.proofs.Members.{runs_of, is_run_above}
use Rattle.extent_index.proofs.index.ExtentIndex.run_above.Goals as goal

pub returns-then-k-self-clause-run : goal.returns-then-k-self-clause-run
returns-then-k-self-clause-run c =
    is_run_above c.self.view_is (runs_of c.self.invariant) c.args.k c.index.result.now c.requires.held
    (get_or_read c.self.inside.length_at.items c.args.k c.index.result.now (omega (arith, c.self.invariant.sizes.length_at_size)) c.index.ensures 0)

pub returns-else-k-self-clause-run : goal.returns-else-k-self-clause-run
returns-else-k-self-clause-run c =
    is_run_above c.self.view_is (runs_of c.self.invariant) c.args.k 0 c.requires.held
    (sym (get_or_past c.self.inside.length_at.items c.args.k 0 (omega (arith, c.self.invariant.sizes.length_at_size))))
