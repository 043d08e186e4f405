use Rattle.heap_map.proofs.Premises.{arena_of}
use Rattle.heap_map.proofs.scanning.is_loose_slab.Goals as goal

pub is_empty_slab-requires-clause-arena : goal.is_empty_slab-requires-clause-arena
is_empty_slab-requires-clause-arena c = arena_of c.args.words.now c.requires.reading.sound

pub is_morphing-requires-clause-arena : goal.is_morphing-requires-clause-arena
is_morphing-requires-clause-arena c = arena_of c.args.words.now c.requires.reading.sound

pub is_done-requires-clause-arena : goal.is_done-requires-clause-arena
is_done-requires-clause-arena c = arena_of c.args.words.now c.requires.reading.sound
