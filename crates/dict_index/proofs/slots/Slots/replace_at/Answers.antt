use Rattle.std.proofs.Common.{◌<◌, length, subst, ap, sym, arith}
use Rattle.dict_index.specs.KeyRoots.{KeyRoots, LacksRoot}
use Rattle.dict_index.proofs.Places.{count_of}
use Rattle.dict_index.proofs.Readings.{is_read, in_roots, slot_of_place}
use Rattle.dict_index.proofs.Replaced.{kept_replaced, has_replaced}
use Rattle.dict_index.proofs.slots.Slots.replace_at.Goals as goal

pub index-slot-requires : goal.index-slot-requires
index-slot-requires c =
    let s = c.self.inside in
    omega (arith, c.requires.place.is.within, count_of s.count s.row.items s.keys.items s.roots.items c.self.invariant.keyed.within c.self.view_is, c.self.invariant.keyed.within, s.row.ok.0)

pub index-was-requires : goal.index-was-requires
index-was-requires c =
    let s = c.self.inside in
    let low : c.args.place < s.count = omega (arith, c.requires.place.is.within, count_of s.count s.row.items s.keys.items s.roots.items c.self.invariant.keyed.within c.self.view_is) in
    let is = is_read s.count s.row.items s.keys.items s.roots.items c.args.self.now c.args.place c.index-slot.result.now c.self.invariant c.self.view_is low c.index-slot.ensures in
    omega (arith, in_roots s.count s.row.items s.keys.items s.roots.items c.args.self.now c.args.place c.index-slot.result.now is, s.roots.ok.0)

pub index_mut-requires : goal.index_mut-requires
index_mut-requires c =
    let s = c.self.inside in
    let low : c.args.place < s.count = omega (arith, c.requires.place.is.within, count_of s.count s.row.items s.keys.items s.roots.items c.self.invariant.keyed.within c.self.view_is) in
    let is = is_read s.count s.row.items s.keys.items s.roots.items c.args.self.now c.args.place c.index-slot.result.now c.self.invariant c.self.view_is low c.index-slot.ensures in
    omega (arith, in_roots s.count s.row.items s.keys.items s.roots.items c.args.self.now c.args.place c.index-slot.result.now is, s.roots.ok.0)

pub invariant_of-self : goal.invariant_of-self
invariant_of-self c =
    let s = c.self.inside in
    let low : c.args.place < s.count = omega (arith, c.requires.place.is.within, count_of s.count s.row.items s.keys.items s.roots.items c.self.invariant.keyed.within c.self.view_is) in
    let is = is_read s.count s.row.items s.keys.items s.roots.items c.args.self.now c.args.place c.index-slot.result.now c.self.invariant c.self.view_is low c.index-slot.ensures in
    let at = slot_of_place s.count s.row.items s.keys.items s.roots.items c.args.self.now c.args.place c.index-slot.result.now c.args.more.key c.index-was.result.now is c.requires.place c.index-was.ensures in
    let in_keys : c.args.more.root < length s.keys.items = omega (arith, c.requires.root, ap (λ (m : KeyRoots). m.roots) c.self.view_is) in
    let fresh = subst (λ (m : KeyRoots). LacksRoot m c.args.more.root) (sym c.self.view_is) c.requires.fresh in
    kept_replaced s.count s.row.items s.keys.items s.roots.items c.self.invariant c.index-slot.result.now c.index-was.result.now c.args.more at in_keys fresh

pub returns : goal.returns
returns c =
    let s = c.self.inside in
    let low : c.args.place < s.count = omega (arith, c.requires.place.is.within, count_of s.count s.row.items s.keys.items s.roots.items c.self.invariant.keyed.within c.self.view_is) in
    let is = is_read s.count s.row.items s.keys.items s.roots.items c.args.self.now c.args.place c.index-slot.result.now c.self.invariant c.self.view_is low c.index-slot.ensures in
    let at = slot_of_place s.count s.row.items s.keys.items s.roots.items c.args.self.now c.args.place c.index-slot.result.now c.args.more.key c.index-was.result.now is c.requires.place c.index-was.ensures in
    let in_keys : c.args.more.root < length s.keys.items = omega (arith, c.requires.root, ap (λ (m : KeyRoots). m.roots) c.self.view_is) in
    let fresh = subst (λ (m : KeyRoots). LacksRoot m c.args.more.root) (sym c.self.view_is) c.requires.fresh in
    rw (c.from.ensures, ← c.self.view_is) (has_replaced s.count s.row.items s.keys.items s.roots.items c.self.invariant c.index-slot.result.now c.index-was.result.now c.args.more at in_keys fresh)
