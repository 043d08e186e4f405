use Rattle.dict_index.proofs.Places.{count_of}
use Rattle.dict_index.proofs.Searches.{place_above}
use Rattle.dict_index.proofs.slots.Slots.end.Goals as goal

pub returns : goal.returns
returns c key none =
    let s = c.self.inside in
    place_above c.args.self.now key s.count (count_of s.count s.row.items s.keys.items s.roots.items c.self.invariant.keyed.within c.self.view_is) none
