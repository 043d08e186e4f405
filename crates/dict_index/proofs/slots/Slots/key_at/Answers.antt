use Rattle.std.proofs.Common.{◌<◌, arith}
use Rattle.dict_index.proofs.Places.{count_of}
use Rattle.dict_index.proofs.Readings.{is_read, in_keys, key_read}
use Rattle.dict_index.proofs.slots.Slots.key_at.Goals as goal

pub index-requires : goal.index-requires
index-requires c =
    let s = c.self.inside in
    omega (arith, c.requires, count_of s.count s.row.items s.keys.items s.roots.items c.self.invariant.keyed.within c.self.view_is, c.self.invariant.keyed.within, s.row.ok.0)

pub index-requires-2 : goal.index-requires-2
index-requires-2 c =
    let s = c.self.inside in
    let low : c.args.place < s.count = omega (arith, c.requires, count_of s.count s.row.items s.keys.items s.roots.items c.self.invariant.keyed.within c.self.view_is) in
    let is = is_read s.count s.row.items s.keys.items s.roots.items c.args.self.now c.args.place c.index.result.now c.self.invariant c.self.view_is low c.index.ensures in
    omega (arith, in_keys s.count s.row.items s.keys.items s.roots.items c.args.self.now c.args.place c.index.result.now is, s.keys.ok.0)

pub returns : goal.returns
returns c =
    let s = c.self.inside in
    let low : c.args.place < s.count = omega (arith, c.requires, count_of s.count s.row.items s.keys.items s.roots.items c.self.invariant.keyed.within c.self.view_is) in
    let is = is_read s.count s.row.items s.keys.items s.roots.items c.args.self.now c.args.place c.index.result.now c.self.invariant c.self.view_is low c.index.ensures in
    key_read s.count s.row.items s.keys.items s.roots.items c.args.self.now c.args.place c.index.result.now is c.index-2.result.now c.index-2.ensures
