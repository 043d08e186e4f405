use Rattle.gc_check.specs.Heap.{gc_tables}
use Rattle.gc_map.proofs.RootPlaces.{placed_by, places_more}
use Rattle.gc_map.proofs.places.places_of.Goals as goal

pub loop-root-preserved : goal.loop-root-preserved
loop-root-preserved c =
    let t = gc_tables c.args.words.now in
    places_more t c.loop-root.root c.loop-root.places.items c.push.new.self.items c.place_of.result c.loop-root.invariant (placed_by t c.loop-root.root c.place_of.result c.place_of.ensures) c.in_ok-push.ensures.items
