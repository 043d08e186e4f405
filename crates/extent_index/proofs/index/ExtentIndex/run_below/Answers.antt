use Rattle.std.proofs.Common.{◌-◌, arith}
use Rattle.std.proofs.lemmas.List.{get_or_read}
use Rattle.extent_index.proofs.Members.{granules_of, is_run_below, no_run_below}
use Rattle.extent_index.proofs.index.ExtentIndex.run_below.Goals as goal
use Rattle.extent_index.proofs.index.ExtentIndex.run_below.Goals.{then-first-eq0, else-first-eq0}

pub returns-clause-run : goal.returns-clause-run
returns-clause-run c =
    let s = c.self.inside in
    let read = get_or_read s.start_at.items (c.args.k - 1) c.index-first.result.now (omega (arith, c.self.invariant.sizes.start_at_size, granules_of s.granules s.length_at.items c.self.view_is)) c.index-first.ensures 0 in
    elim c.if-first-eq0.branch [
      | then-first-eq0 w ↦ rw w.start-is (no_run_below c.self.view_is c.self.invariant c.args.k c.index-first.result.now read w.if-first-eq0.true c.requires.held)
      | else-first-eq0 w ↦ rw w.start-is (is_run_below c.self.view_is c.self.invariant c.args.k c.index-first.result.now read (omega arith) c.requires.heap)
    ]
