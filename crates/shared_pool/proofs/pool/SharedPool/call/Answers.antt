use Rattle.std.proofs.Common.{◌∙◌, ◌<◌, ap, sym, subst}
use Rattle.shared_pool.specs.declared.pass.Spot.{Spot}
use Rattle.shared_pool.proofs.PassTurns.{here_of, owns_it, asked, tells_on, part_is}
use Rattle.shared_pool.proofs.pool.SharedPool.call.Goals as goal

pub with_turn-result-requires-clause-lock : goal.with_turn-result-requires-clause-lock
with_turn-result-requires-clause-lock g c =
    let h = here_of _ c.self.inside.locks.items c.pass.inside.spots.items c.pass.inside.number c.args.arena _ c.index.result.now c.index_mut-spot.result.now _ _ c.self.view_is c.pass.view_is c.requires.of_pool c.requires.there c.pass.invariant.1 c.index.ensures c.index_mut-spot.ensures.value in
    h.lock ∙ ap (λ l. l.id) (sym c.deref.ensures)

pub with_turn-result-requires-clause-number : goal.with_turn-result-requires-clause-number
with_turn-result-requires-clause-number g c =
    let h = here_of _ c.self.inside.locks.items c.pass.inside.spots.items c.pass.inside.number c.args.arena _ c.index.result.now c.index_mut-spot.result.now _ _ c.self.view_is c.pass.view_is c.requires.of_pool c.requires.there c.pass.invariant.1 c.index.ensures c.index_mut-spot.ensures.value in
    owns_it c.pass.inside.number c.index_mut-spot.result.now.seat.numbers h.tells.0

pub with_turn-result-requires-clause-left : goal.with_turn-result-requires-clause-left
with_turn-result-requires-clause-left g c =
    let h = here_of _ c.self.inside.locks.items c.pass.inside.spots.items c.pass.inside.number c.args.arena _ c.index.result.now c.index_mut-spot.result.now _ _ c.self.view_is c.pass.view_is c.requires.of_pool c.requires.there c.pass.invariant.1 c.index.ensures c.index_mut-spot.ensures.value in
    subst (λ z. 0 < z) (ap (λ k. k.turns) (part_is c.pass.inside.number c.args.arena c.pass.inside.spots.items c.index_mut-spot.result.now c.index_mut-spot.result.now h.room c.index_mut-spot.ensures.value c.args.pass.now c.pass.view_is)) c.requires.left

pub invariant_of-pass : goal.invariant_of-pass
invariant_of-pass g c =
    let h = here_of _ c.self.inside.locks.items c.pass.inside.spots.items c.pass.inside.number c.args.arena _ c.index.result.now c.index_mut-spot.result.now _ _ c.self.view_is c.pass.view_is c.requires.of_pool c.requires.there c.pass.invariant.1 c.index.ensures c.index_mut-spot.ensures.value in
    let s : Spot = record { seat = c.with_turn-result.new.seat; seen = c.with_turn-result.result.1 } in
    (c.pass.invariant.0, tells_on c.pass.inside.number c.args.arena c.pass.inside.spots.items s c.index_mut-spot.result.now h.room c.index_mut-spot.ensures.value c.args.call c.with_turn-result.result.0 c.with_turn-result.result.1 h.tells.0 c.with_turn-result.ensures.turned (λ i. s.seen) c.pass.invariant.1)

pub returns : goal.returns
returns g c =
    let h = here_of _ c.self.inside.locks.items c.pass.inside.spots.items c.pass.inside.number c.args.arena _ c.index.result.now c.index_mut-spot.result.now _ _ c.self.view_is c.pass.view_is c.requires.of_pool c.requires.there c.pass.invariant.1 c.index.ensures c.index_mut-spot.ensures.value in
    let s : Spot = record { seat = c.with_turn-result.new.seat; seen = c.with_turn-result.result.1 } in
    asked c.pass.inside.number c.args.arena c.pass.inside.spots.items s c.index_mut-spot.result.now h.room c.index_mut-spot.ensures.value c.args.call c.with_turn-result.result.0 c.with_turn-result.result.1 h.tells.0 c.with_turn-result.ensures.turned
    c.args.self.now c.args.pass.now c.pass.view_is c.requires.of_pool
