use Rattle.dict_index.proofs.Readings.{root_in_slot}
use Rattle.dict_index.proofs.slots.Slots.root_in.Goals as goal

pub returns : goal.returns
returns c =
    let s = c.self.inside in
    let at = rw (c.deref.ensures.value, c.deref-2.ensures.value) at c.in_ok-root.ensures in
    rw c.from.ensures (root_in_slot s.count s.row.items s.keys.items s.roots.items c.args.self.now c.args.slot c.args.key c.in_ok-root.root c.self.invariant c.self.view_is at)
