use Rattle.std.proofs.Common.{◌∙◌, ◌<◌, ap, sym, subst, length}
use Rattle.arena_lock.specs.Known.{Known}
use Rattle.shared_pool.specs.declared.pass.Spot.{Spot}
use Rattle.shared_pool.proofs.PassTurns.{here_of, owns_it, asked, busy, tried, tells_on, part_is}
use Rattle.shared_pool.proofs.PassParts.{tell_set}
use Rattle.shared_pool.proofs.pool.SharedPool.try_call.Goals as goal

pub try_turn-tried-requires-clause-lock : goal.try_turn-tried-requires-clause-lock
try_turn-tried-requires-clause-lock g c =
    let h = here_of _ c.self.inside.locks.items c.pass.inside.spots.items c.pass.inside.number c.args.arena _ c.index.result.now c.index_mut-spot.result.now _ _ c.self.view_is c.pass.view_is c.requires.of_pool c.requires.there c.pass.invariant.1 c.index.ensures c.index_mut-spot.ensures.value in
    h.lock ∙ ap (λ l. l.id) (sym c.deref.ensures)

pub try_turn-tried-requires-clause-number : goal.try_turn-tried-requires-clause-number
try_turn-tried-requires-clause-number g c =
    let h = here_of _ c.self.inside.locks.items c.pass.inside.spots.items c.pass.inside.number c.args.arena _ c.index.result.now c.index_mut-spot.result.now _ _ c.self.view_is c.pass.view_is c.requires.of_pool c.requires.there c.pass.invariant.1 c.index.ensures c.index_mut-spot.ensures.value in
    owns_it c.pass.inside.number c.index_mut-spot.result.now.seat.numbers h.tells.0

pub try_turn-tried-requires-clause-left : goal.try_turn-tried-requires-clause-left
try_turn-tried-requires-clause-left g c =
    let h = here_of _ c.self.inside.locks.items c.pass.inside.spots.items c.pass.inside.number c.args.arena _ c.index.result.now c.index_mut-spot.result.now _ _ c.self.view_is c.pass.view_is c.requires.of_pool c.requires.there c.pass.invariant.1 c.index.ensures c.index_mut-spot.ensures.value in
    subst (λ z. 0 < z) (ap (λ k. k.turns) (part_is c.pass.inside.number c.args.arena c.pass.inside.spots.items c.index_mut-spot.result.now c.index_mut-spot.result.now h.room c.index_mut-spot.ensures.value c.args.pass.now c.pass.view_is)) c.requires.left

pub invariant_of-pass : goal.invariant_of-pass
invariant_of-pass g c =
    let h = here_of _ c.self.inside.locks.items c.pass.inside.spots.items c.pass.inside.number c.args.arena _ c.index.result.now c.index_mut-spot.result.now _ _ c.self.view_is c.pass.view_is c.requires.of_pool c.requires.there c.pass.invariant.1 c.index.ensures c.index_mut-spot.ensures.value in
    let lost = c.in_default.ensures.busy.1 in
    (c.pass.invariant.0, tell_set c.pass.inside.number c.pass.inside.spots.items c.args.arena _ c.pass.invariant.1 (ap (λ (v : Known). v.numbers) lost ∙ h.tells.0, ap (λ (v : Known). length v.seen) lost ∙ h.tells.1))

pub returns-in_default : goal.returns-in_default
returns-in_default g c =
    let h = here_of _ c.self.inside.locks.items c.pass.inside.spots.items c.pass.inside.number c.args.arena _ c.index.result.now c.index_mut-spot.result.now _ _ c.self.view_is c.pass.view_is c.requires.of_pool c.requires.there c.pass.invariant.1 c.index.ensures c.index_mut-spot.ensures.value in
    let s : Spot = record { seat = c.try_turn-tried.new.seat; seen = c.index_mut-spot.result.now.seen } in
    busy c.pass.inside.number c.args.arena c.pass.inside.spots.items s c.index_mut-spot.result.now h.room c.index_mut-spot.ensures.value c.args.call c.in_default.ensures.busy.1 c.args.self.now c.args.pass.now c.pass.view_is c.requires.of_pool

pub invariant_of-pass-2 : goal.invariant_of-pass-2
invariant_of-pass-2 g c =
    let h = here_of _ c.self.inside.locks.items c.pass.inside.spots.items c.pass.inside.number c.args.arena _ c.index.result.now c.index_mut-spot.result.now _ _ c.self.view_is c.pass.view_is c.requires.of_pool c.requires.there c.pass.invariant.1 c.index.ensures c.index_mut-spot.ensures.value in
    let s : Spot = record { seat = c.try_turn-tried.new.seat; seen = c.in-Ok.seen } in
    (c.pass.invariant.0, tells_on c.pass.inside.number c.args.arena c.pass.inside.spots.items s c.index_mut-spot.result.now h.room c.index_mut-spot.ensures.value c.args.call c.in-Ok.result c.in-Ok.seen h.tells.0 c.in-Ok.ensures.turned (λ i. s.seen) c.pass.invariant.1)

pub returns : goal.returns
returns g c =
    let h = here_of _ c.self.inside.locks.items c.pass.inside.spots.items c.pass.inside.number c.args.arena _ c.index.result.now c.index_mut-spot.result.now _ _ c.self.view_is c.pass.view_is c.requires.of_pool c.requires.there c.pass.invariant.1 c.index.ensures c.index_mut-spot.ensures.value in
    let s : Spot = record { seat = c.try_turn-tried.new.seat; seen = c.in-Ok.seen } in
    tried c.as_tried.ensures
    (asked c.pass.inside.number c.args.arena c.pass.inside.spots.items s c.index_mut-spot.result.now h.room c.index_mut-spot.ensures.value c.args.call c.in-Ok.result c.in-Ok.seen h.tells.0 c.in-Ok.ensures.turned c.args.self.now c.args.pass.now c.pass.view_is c.requires.of_pool)
