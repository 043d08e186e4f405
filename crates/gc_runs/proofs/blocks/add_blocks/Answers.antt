use Rattle.std.proofs.Common.{◌∙◌}
use Rattle.pmem_lines.specs.Pmem.{words_of}
use Rattle.gc_check.specs.State.{gc_blocks}
use Rattle.trace_runs.proofs.Listing.{one_listed, none_listed}
use Rattle.gc_runs.proofs.blocks.add_blocks.Goals as goal
use Rattle.gc_runs.proofs.blocks.add_blocks.Goals.{in-Some+in_ok-push, in_default}

pub loop-root-preserved : goal.loop-root-preserved
loop-root-preserved g c = elim c.match-block.branch [
  | in-Some+in_ok-push w ↦
      let further = one_listed (gc_blocks (words_of c.args.arena.now.device)) c.args.from c.loop-root.root c.args.blocks.now.items c.loop-root.blocks.items w.in-Some.block c.loop-root.auto.root c.loop-root.invariant w.in-Some.ensures in
      rw w.blocks-is (w.in_ok-push.ensures.items ∙ further)
  | in_default w ↦
      rw w.blocks-is (none_listed (gc_blocks (words_of c.args.arena.now.device)) c.args.from c.loop-root.root c.args.blocks.now.items c.loop-root.blocks.items c.loop-root.auto.root c.loop-root.invariant w.in_default.ensures)
]
