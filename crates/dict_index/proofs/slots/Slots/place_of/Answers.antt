use Rattle.std.proofs.Common.{subst}
use Rattle.dict_index.specs.KeyRoots.{KeyRoots, IsKeyMap}
use Rattle.dict_index.specs.Kept.{IsPlaceOf}
use Rattle.dict_index.proofs.Places.{place_of_cut, sound_of}
use Rattle.dict_index.proofs.slots.Slots.place_of.Goals as goal

pub returns-clause-place : goal.returns-clause-place
returns-clause-place c =
    let s = c.self.inside in
    let cut = rw (c.deref.ensures.value, c.deref-2.ensures.value) at c.place_among.ensures in
    subst (λ (map : KeyRoots). IsPlaceOf map c.args.key c.place_among.result) c.self.view_is (place_of_cut s.count s.row.items s.keys.items s.roots.items c.self.invariant.keyed.within c.args.key c.place_among.result cut)

pub returns-clause-sound : goal.returns-clause-sound
returns-clause-sound c =
    let s = c.self.inside in
    subst IsKeyMap c.self.view_is (sound_of s.count s.row.items s.keys.items s.roots.items c.self.invariant)
