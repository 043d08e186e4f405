use Rattle.heap_check.specs.Image.{bounds_of}
use Rattle.gc_check.specs.Heap.{gc_tables}
use Rattle.heap_map.proofs.Requests.{greatest_request}
use Rattle.gc_map.proofs.Exact.{none_loose_exact}
use Rattle.gc_map.proofs.mapping.gc_map_of.Goals as goal

pub returns-in-Ok-draw-clause-exact : goal.returns-in-Ok-draw-clause-exact
returns-in-Ok-draw-clause-exact c = none_loose_exact c.args.words.now c.in-Ok-draw.map.cells.items c.in-Ok.ensures.sound c.in-Ok-draw.ensures.cells

pub returns-in-Ok-draw-clause-request : goal.returns-in-Ok-draw-clause-request
returns-in-Ok-draw-clause-request c = greatest_request (bounds_of c.args.words.now) (gc_tables c.args.words.now) c.in-Ok-draw.map.facts.longest c.in-Ok-draw.ensures.facts.longest
