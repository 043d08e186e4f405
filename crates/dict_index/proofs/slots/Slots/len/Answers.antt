use Rattle.std.proofs.Common.{subst, arith}
use Rattle.dict_index.specs.KeyRoots.{IsKeyMap}
use Rattle.dict_index.proofs.Places.{count_of, sound_of}
use Rattle.dict_index.proofs.slots.Slots.len.Goals as goal

pub returns-clause-count : goal.returns-clause-count
returns-clause-count c =
    let s = c.self.inside in
    omega (arith, count_of s.count s.row.items s.keys.items s.roots.items c.self.invariant.keyed.within c.self.view_is)

pub returns-clause-sound : goal.returns-clause-sound
returns-clause-sound c =
    let s = c.self.inside in
    subst IsKeyMap c.self.view_is (sound_of s.count s.row.items s.keys.items s.roots.items c.self.invariant)
