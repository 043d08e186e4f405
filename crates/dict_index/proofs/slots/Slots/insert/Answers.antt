use Rattle.std.proofs.Common.{◌<◌, length, subst, ap, sym, arith}
use Rattle.std.proofs.lemmas.List.{with_items_is, get_or_read}
use Rattle.dict_index.specs.KeyRoots.{KeyRoots, LacksRoot}
use Rattle.dict_index.proofs.Places.{count_of}
use Rattle.dict_index.proofs.Room.{room}
use Rattle.dict_index.proofs.Inserted.{coming, slot_read, kept_inserted, has_more}
use Rattle.dict_index.proofs.slots.Slots.insert.Goals as goal

pub index-slot-requires : goal.index-slot-requires
index-slot-requires c =
    let s = c.self.inside in
    let low : c.args.more.root < length s.keys.items = omega (arith, c.requires.root, ap (λ (m : KeyRoots). m.roots) c.self.view_is) in
    let fresh = subst (λ (m : KeyRoots). LacksRoot m c.args.more.root) (sym c.self.view_is) c.requires.fresh in
    omega (arith, room s.count s.row.items s.keys.items s.roots.items c.self.invariant c.args.more.root low fresh, c.self.invariant.slots.size, s.row.ok.0)

pub turn_up-requires-clause-order : goal.turn_up-requires-clause-order
turn_up-requires-clause-order c =
    let s = c.self.inside in
    omega (arith, c.requires.place.within, count_of s.count s.row.items s.keys.items s.roots.items c.self.invariant.keyed.within c.self.view_is)

pub turn_up-requires-clause-inside : goal.turn_up-requires-clause-inside
turn_up-requires-clause-inside c =
    let s = c.self.inside in
    let low : c.args.more.root < length s.keys.items = omega (arith, c.requires.root, ap (λ (m : KeyRoots). m.roots) c.self.view_is) in
    let fresh = subst (λ (m : KeyRoots). LacksRoot m c.args.more.root) (sym c.self.view_is) c.requires.fresh in
    omega (arith, room s.count s.row.items s.keys.items s.roots.items c.self.invariant c.args.more.root low fresh, c.self.invariant.slots.size, ap length c.deref_mut.ensures.value)

pub index_mut-requires : goal.index_mut-requires
index_mut-requires c =
    let s = c.self.inside in
    let low : c.args.more.root < length s.keys.items = omega (arith, c.requires.root, ap (λ (m : KeyRoots). m.roots) c.self.view_is) in
    let fresh = subst (λ (m : KeyRoots). LacksRoot m c.args.more.root) (sym c.self.view_is) c.requires.fresh in
    let free = room s.count s.row.items s.keys.items s.roots.items c.self.invariant c.args.more.root low fresh in
    let inside : s.count < length s.row.items = omega (arith, free, c.self.invariant.slots.size) in
    omega (arith, get_or_read s.row.items s.count c.index-slot.result.now inside c.index-slot.ensures 0, c.self.invariant.slots.below s.count inside, s.keys.ok.0)

pub index_mut-requires-2 : goal.index_mut-requires-2
index_mut-requires-2 c =
    let s = c.self.inside in
    let low : c.args.more.root < length s.keys.items = omega (arith, c.requires.root, ap (λ (m : KeyRoots). m.roots) c.self.view_is) in
    let fresh = subst (λ (m : KeyRoots). LacksRoot m c.args.more.root) (sym c.self.view_is) c.requires.fresh in
    let free = room s.count s.row.items s.keys.items s.roots.items c.self.invariant c.args.more.root low fresh in
    let inside : s.count < length s.row.items = omega (arith, free, c.self.invariant.slots.size) in
    omega (arith, get_or_read s.row.items s.count c.index-slot.result.now inside c.index-slot.ensures 0, c.self.invariant.slots.below s.count inside, c.self.invariant.roots_size, s.roots.ok.0)

pub invariant_of-self : goal.invariant_of-self
invariant_of-self c =
    let s = c.self.inside in
    let turn = rw c.deref_mut.ensures.value at c.turn_up.ensures in
    let is = coming s.count s.row.items s.keys.items s.roots.items c.args.place c.args.more c.turn_up.new.row c.args.self.now c.self.invariant c.self.view_is c.requires.root (omega arith) c.requires.fresh c.requires.place c.requires.lacked turn in
    let slot = slot_read s.count s.row.items s.keys.items s.roots.items c.args.place c.args.more c.turn_up.new.row is c.index-slot.result.now c.index-slot.ensures in
    rw (with_items_is s.row c.turn_up.new.row (omega (arith, turn.size, s.row.ok.0)), slot)
    (kept_inserted s.count s.row.items s.keys.items s.roots.items c.args.place c.args.more c.turn_up.new.row is)

pub returns : goal.returns
returns c =
    let s = c.self.inside in
    let turn = rw c.deref_mut.ensures.value at c.turn_up.ensures in
    let is = coming s.count s.row.items s.keys.items s.roots.items c.args.place c.args.more c.turn_up.new.row c.args.self.now c.self.invariant c.self.view_is c.requires.root (omega arith) c.requires.fresh c.requires.place c.requires.lacked turn in
    let slot = slot_read s.count s.row.items s.keys.items s.roots.items c.args.place c.args.more c.turn_up.new.row is c.index-slot.result.now c.index-slot.ensures in
    rw (← c.self.view_is, with_items_is s.row c.turn_up.new.row (omega (arith, turn.size, s.row.ok.0)), slot)
    (has_more s.count s.row.items s.keys.items s.roots.items c.args.place c.args.more c.turn_up.new.row is)
