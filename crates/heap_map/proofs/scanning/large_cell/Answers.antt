use Rattle.heap_map.proofs.Premises.{arena_of}
use Rattle.heap_map.proofs.scanning.large_cell.Goals as goal

pub is_loose_large-requires-clause-arena : goal.is_loose_large-requires-clause-arena
is_loose_large-requires-clause-arena c = arena_of c.args.words.now c.requires.reading.sound
