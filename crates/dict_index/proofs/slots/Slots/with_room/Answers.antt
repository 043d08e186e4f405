use Rattle.dict_index.proofs.Fresh.{new_fresh}
use Rattle.dict_index.proofs.slots.Slots.with_room.Goals as goal

pub returns : goal.returns
returns c =
    let keys = c.in_ok-keys.ensures.items_if_clones_equal (λ y h. h) in
    let roots = c.in_ok-all.ensures.items_if_clones_equal (λ y h. h) in
    rw (keys, roots) (new_fresh c.args.roots c.in_ok-row.row.items c.requires c.in_ok-row.ensures)
