use Rattle.std.proofs.Common.{arith, refl}
use Rattle.map_text.proofs.Classes.{writable}
use Rattle.nvpool.proofs.Told.{adds_told}
use Rattle.nvpool.proofs.telling.tell_one.Goals as goal

pub write_map-requires-clause-map : goal.write_map-requires-clause-map
write_map-requires-clause-map g c =
    let map = c.in-Ok.ensures in
    let few = g.met.V.Variant.few_granules c.args.words.now map.sound in
    writable g.V.Variant.rules.maps c.args.words.now c.in-Ok.map (omega (arith, few, map.cells.all)) (omega (arith, few, map.facts.granules)) map.cells map.classes

pub returns-in-Err-Defect-clause-defect : goal.returns-in-Err-Defect-clause-defect
returns-in-Err-Defect-clause-defect g c = record { same = refl; first = rw c.in-Err-Defect.field-0-is (rw c.in-Err-Defect.field-0-is at c.in-Err-Defect.ensures.defect) }

pub returns-in-Ok-write_map-clause-told : goal.returns-in-Ok-write_map-clause-told
returns-in-Ok-write_map-clause-told g c =
    let map = c.in-Ok.ensures in
    adds_told g.V.Variant.rules.maps c.args.header.now c.args.words.now c.args.arena c.in-Ok.map map.sound map.cells map.exact map.facts map.classes c.args.form c.args.text.now.items c.write_map.new.text.items c.in-Ok-write_map.ensures
