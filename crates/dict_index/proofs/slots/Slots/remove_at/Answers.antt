use Rattle.std.proofs.Common.{◌-◌, ◌<◌, ap, length, arith}
use Rattle.std.proofs.lemmas.List.{with_items_is}
use Rattle.dict_index.proofs.Places.{count_of}
use Rattle.dict_index.proofs.Readings.{is_read, in_roots}
use Rattle.dict_index.proofs.Removed.{going, slot_read, kept_removed, less_at}
use Rattle.dict_index.proofs.slots.Slots.remove_at.Goals as goal

pub index-slot-requires : goal.index-slot-requires
index-slot-requires c =
    let s = c.self.inside in
    omega (arith, c.requires, count_of s.count s.row.items s.keys.items s.roots.items c.self.invariant.keyed.within c.self.view_is, c.self.invariant.keyed.within, s.row.ok.0)

pub overflow_sub-self : goal.overflow_sub-self
overflow_sub-self c =
    let s = c.self.inside in
    omega (arith, c.requires, count_of s.count s.row.items s.keys.items s.roots.items c.self.invariant.keyed.within c.self.view_is)

pub turn_down-requires-clause-order : goal.turn_down-requires-clause-order
turn_down-requires-clause-order c =
    let s = c.self.inside in
    omega (arith, c.requires, count_of s.count s.row.items s.keys.items s.roots.items c.self.invariant.keyed.within c.self.view_is)

pub turn_down-requires-clause-inside : goal.turn_down-requires-clause-inside
turn_down-requires-clause-inside c =
    let s = c.self.inside in
    omega (arith, c.requires, count_of s.count s.row.items s.keys.items s.roots.items c.self.invariant.keyed.within c.self.view_is, c.self.invariant.keyed.within, ap length c.deref_mut.ensures.value)

pub index_mut-requires : goal.index_mut-requires
index_mut-requires c =
    let s = c.self.inside in
    let low : c.args.place < s.count = omega (arith, c.requires, count_of s.count s.row.items s.keys.items s.roots.items c.self.invariant.keyed.within c.self.view_is) in
    let is = is_read s.count s.row.items s.keys.items s.roots.items c.args.self.now c.args.place c.index-slot.result.now c.self.invariant c.self.view_is low c.index-slot.ensures in
    omega (arith, in_roots s.count s.row.items s.keys.items s.roots.items c.args.self.now c.args.place c.index-slot.result.now is, s.roots.ok.0)

pub invariant_of-self : goal.invariant_of-self
invariant_of-self c =
    let s = c.self.inside in
    let low : c.args.place < s.count = omega (arith, c.requires, count_of s.count s.row.items s.keys.items s.roots.items c.self.invariant.keyed.within c.self.view_is) in
    let turn = rw c.deref_mut.ensures.value at c.turn_down.ensures in
    let is = going s.count s.row.items s.keys.items s.roots.items c.args.place c.turn_down.new.row c.self.invariant low turn in
    let slot = slot_read s.count s.row.items s.keys.items s.roots.items c.args.place (s.count - 1) c.turn_down.new.row is c.index-slot.result.now c.index-slot.ensures in
    rw (with_items_is s.row c.turn_down.new.row (omega (arith, turn.size, s.row.ok.0)), slot)
    (kept_removed s.count s.row.items s.keys.items s.roots.items c.args.place (s.count - 1) c.turn_down.new.row is)

pub returns : goal.returns
returns c =
    let s = c.self.inside in
    let low : c.args.place < s.count = omega (arith, c.requires, count_of s.count s.row.items s.keys.items s.roots.items c.self.invariant.keyed.within c.self.view_is) in
    let turn = rw c.deref_mut.ensures.value at c.turn_down.ensures in
    let is = going s.count s.row.items s.keys.items s.roots.items c.args.place c.turn_down.new.row c.self.invariant low turn in
    let slot = slot_read s.count s.row.items s.keys.items s.roots.items c.args.place (s.count - 1) c.turn_down.new.row is c.index-slot.result.now c.index-slot.ensures in
    rw (with_items_is s.row c.turn_down.new.row (omega (arith, turn.size, s.row.ok.0)), slot)
    (less_at s.count s.row.items s.keys.items s.roots.items c.args.place (s.count - 1) c.turn_down.new.row is c.args.self.now c.self.view_is)
