use Rattle.image_tables.specs.Tables.{tables_of}
use Rattle.heap_check.specs.Image.{bounds_of}
use Rattle.heap_map.proofs.Exact.{none_loose_exact}
use Rattle.heap_map.proofs.Requests.{greatest_request}
use Rattle.heap_map.proofs.mapping.map_of.Goals as goal

pub returns-in-Ok-draw-clause-exact : goal.returns-in-Ok-draw-clause-exact
returns-in-Ok-draw-clause-exact c = none_loose_exact c.args.words.now c.in-Ok-draw.map.cells.items c.in-Ok.ensures.sound c.in-Ok-draw.ensures.cells

pub returns-in-Ok-draw-clause-request : goal.returns-in-Ok-draw-clause-request
returns-in-Ok-draw-clause-request c = greatest_request (bounds_of c.args.words.now) (tables_of c.args.words.now) c.in-Ok-draw.map.facts.longest c.in-Ok-draw.ensures.facts.longest
