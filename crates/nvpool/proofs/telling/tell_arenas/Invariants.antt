use Rattle.std.proofs.Common.{ℕ, ◌<◌}
use Rattle.pool_layout.specs.Image.{part_of}
use Rattle.map_text.specs.Pieces.{Adds}
use Rattle.nvpool.specs.Telling.{AreTold, front_of}
use Rattle.nvpool.proofs.telling.tell_arenas.Given as goal

abbrev pub invariant-loop-arena : goal.invariant-loop-arena
invariant-loop-arena g l = record {
  told : Adds (AreTold g.V.Variant.rules.maps l.form l.words l.header l.arena) (front_of l.form l.header) l.text.items;
  sound : (k : ℕ) → k < l.arena → g.V.Variant.rules.maps.IsSound (part_of l.words l.header.granules k);
}
