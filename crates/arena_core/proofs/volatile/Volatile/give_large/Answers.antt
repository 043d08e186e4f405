use Rattle.std.proofs.Common.{arith}
use Rattle.arena_core.proofs.LargeBlocks.{large_given}
use Rattle.arena_core.proofs.volatile.Volatile.give_large.Goals as goal

pub returns-clause-done : goal.returns-clause-done
returns-clause-done g c =
    large_given c.requires.arena c.requires.givable c.take.new.self c.log_entry.new.log c.log_entry.ensures.logged c.log_entry.ensures.step c.log_entry.ensures.book c.take.ensures.granules c.take.ensures.free
    (omega (arith, c.granule_at.ensures)) c.put_root.ensures.words c.put_root.ensures.step
