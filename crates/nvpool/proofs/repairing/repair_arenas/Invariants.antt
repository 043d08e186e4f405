use Rattle.std.proofs.Common.{◌≡◌, length}
use Rattle.image_runs.proofs.Repairs.{HasParts}
use Rattle.nvpool.proofs.repairing.repair_arenas.Given as goal

abbrev pub invariant-loop-arena : goal.invariant-loop-arena
invariant-loop-arena g l = record {
  done : HasParts g.V.Variant.rules.IsRepaired l.words l.header.granules l.arena l.bytes.items;
  piece : length l.piece.items ≡ 4096;
}
