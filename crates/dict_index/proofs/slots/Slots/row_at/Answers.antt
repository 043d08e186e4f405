use Rattle.std.proofs.Common.{◌<◌, arith}
use Rattle.dict_index.proofs.Places.{count_of}
use Rattle.dict_index.proofs.Readings.{is_read, row_read}
use Rattle.dict_index.proofs.slots.Slots.row_at.Goals as goal

pub returns-then-self-place : goal.returns-then-self-place
returns-then-self-place c =
    let s = c.self.inside in
    omega (arith, c.if-self-place.true, count_of s.count s.row.items s.keys.items s.roots.items c.self.invariant.keyed.within c.self.view_is)

pub returns : goal.returns
returns c =
    let s = c.self.inside in
    let low : c.args.place < s.count = omega (arith, c.if-self-place.false) in
    let is = is_read s.count s.row.items s.keys.items s.roots.items c.args.self.now c.args.place c.index-slot.result.now c.self.invariant c.self.view_is low c.index-slot.ensures in
    rw c.from.ensures (row_read s.count s.row.items s.keys.items s.roots.items c.args.self.now c.args.place c.index-slot.result.now is c.index.result.now c.index-2.result.now c.index.ensures c.index-2.ensures)
