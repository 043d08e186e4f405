use Rattle.std.proofs.Common.{◌+◌, ◌*◌}
use Rattle.map_text.specs.Dump.{dump_line}
use Rattle.map_text.proofs.Pieces.{written_more}
use Rattle.map_text.proofs.dump.write_dump.Goals as goal

pub loop-i-preserved : goal.loop-i-preserved
loop-i-preserved c =
    written_more (λ i. dump_line c.args.words.now (c.args.at + 16 * i)) c.loop-i.i c.args.out.now.items c.loop-i.out.items c.write_line.new.out.items c.loop-i.invariant c.in_ok-write_line.ensures
