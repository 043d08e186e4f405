use Rattle.dict_index.proofs.Searches.{next_of}
use Rattle.dict_index.proofs.key_map.KeyMap.next_from.Goals as goal

pub returns : goal.returns
returns c =
    rw (← c.self.view_is)
    (next_of c.self.inside.slots c.args.key c.place_of-place.result c.place_of-place.ensures.place c.place_of-place.ensures.sound c.row_at.result c.row_at.ensures)
