use Rattle.std.proofs.Common.{ℕ, ◌<◌}
use Rattle.pool_layout.specs.Header.{IsHeaderLine}
use Rattle.pool_layout.specs.Image.{part_of, header_of_arena}
use Rattle.pool_layout.proofs.image.check_arenas.Given as goal

abbrev pub invariant-loop-arena : goal.invariant-loop-arena
invariant-loop-arena l = (earlier : ℕ) → earlier < l.arena → IsHeaderLine l.variant (part_of l.words l.header.granules earlier) (header_of_arena l.header earlier)
