use Rattle.std.proofs.Common.{◌<◌, subst, arith}
use Rattle.dict_index.specs.KeyRoots.{IsKeyMap}
use Rattle.dict_index.proofs.Places.{count_of, sound_of}
use Rattle.dict_index.proofs.Readings.{is_read, in_roots, slot_of_place, row_in_slot}
use Rattle.dict_index.proofs.Searches.{lacks_end, lacks_other}
use Rattle.dict_index.proofs.slots.Slots.found_at.Goals as goal
use Rattle.dict_index.proofs.slots.Slots.found_at.Goals.{then-place-self-via-then-place-self, then-place-self-via-else-place-self+then-key_at-key}

pub key_at-requires : goal.key_at-requires
key_at-requires c =
    let s = c.self.inside in
    omega (arith, c.requires.within, c.if-place-self.false, count_of s.count s.row.items s.keys.items s.roots.items c.self.invariant.keyed.within c.self.view_is)

pub returns-then-place-self : goal.returns-then-place-self
returns-then-place-self c =
    let s = c.self.inside in
    let size = count_of s.count s.row.items s.keys.items s.roots.items c.self.invariant.keyed.within c.self.view_is in
    let sound = subst IsKeyMap c.self.view_is (sound_of s.count s.row.items s.keys.items s.roots.items c.self.invariant) in
    elim c.then-place-self.branch [ then-place-self-via-then-place-self w ↦ lacks_end c.args.self.now c.args.key c.args.place c.requires (omega (arith, size, w.if-place-self.true)) | then-place-self-via-else-place-self+then-key_at-key w ↦ lacks_other c.args.self.now c.args.key c.args.place c.requires sound w.key_at.result w.key_at.ensures w.if-key_at-key.true ]

pub index-slot-requires : goal.index-slot-requires
index-slot-requires c =
    let s = c.self.inside in
    omega (arith, c.requires.within, count_of s.count s.row.items s.keys.items s.roots.items c.self.invariant.keyed.within c.self.view_is, c.if-place-self.false, c.self.invariant.keyed.within, s.row.ok.0)

pub index-requires : goal.index-requires
index-requires c =
    let s = c.self.inside in
    let low : c.args.place < s.count = omega (arith, c.requires.within, count_of s.count s.row.items s.keys.items s.roots.items c.self.invariant.keyed.within c.self.view_is, c.if-place-self.false) in
    let is = is_read s.count s.row.items s.keys.items s.roots.items c.args.self.now c.args.place c.index-slot.result.now c.self.invariant c.self.view_is low c.index-slot.ensures in
    omega (arith, in_roots s.count s.row.items s.keys.items s.roots.items c.args.self.now c.args.place c.index-slot.result.now is, s.roots.ok.0)

pub returns : goal.returns
returns c =
    let s = c.self.inside in
    let low : c.args.place < s.count = omega (arith, c.requires.within, count_of s.count s.row.items s.keys.items s.roots.items c.self.invariant.keyed.within c.self.view_is, c.if-place-self.false) in
    let is = is_read s.count s.row.items s.keys.items s.roots.items c.args.self.now c.args.place c.index-slot.result.now c.self.invariant c.self.view_is low c.index-slot.ensures in
    let at = slot_of_place s.count s.row.items s.keys.items s.roots.items c.args.self.now c.args.place c.index-slot.result.now c.key_at.result c.index.result.now is c.key_at.ensures c.index.ensures in
    rw (c.from.ensures, ← c.if-key_at-key.false) (row_in_slot s.count s.row.items s.keys.items s.roots.items c.args.self.now c.args.place c.index-slot.result.now is c.key_at.result c.index.result.now at)
