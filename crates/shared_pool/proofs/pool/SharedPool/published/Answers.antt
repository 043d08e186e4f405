use Rattle.std.proofs.Common.{◌∙◌, ◌≡◌, ◌≤◌, ap, sym, subst, length, map, set}
use Rattle.shared_pool.proofs.Common.{calls_by, calls_of, Known, after_read}
use Rattle.shared_pool.specs.declared.pass.Spot.{Spot}
use Rattle.shared_pool.specs.Passes.{PassState, part_at, with_part, first_calls}
use Rattle.shared_pool.specs.Rows.{part_of}
use Rattle.shared_pool.proofs.PassParts.{tell_set}
use Rattle.shared_pool.proofs.PassTurns.{here_of, still_of, part_is, with_is}
use Rattle.shared_pool.proofs.pool.SharedPool.published.Goals as goal

pub published-requires : goal.published-requires
published-requires g c =
    let h = here_of _ c.self.inside.locks.items c.pass.inside.spots.items c.pass.inside.number c.args.arena _ c.index.result.now c.index_mut-spot.result.now _ _ c.self.view_is c.pass.view_is c.requires.pass c.requires.arena c.pass.invariant.1 c.index.ensures c.index_mut-spot.ensures.value in
    record { lock = h.lock ∙ ap (λ l. l.id) (sym c.deref.ensures) }

pub invariant_of-pass : goal.invariant_of-pass
invariant_of-pass g c =
    let h = here_of _ c.self.inside.locks.items c.pass.inside.spots.items c.pass.inside.number c.args.arena _ c.index.result.now c.index_mut-spot.result.now _ _ c.self.view_is c.pass.view_is c.requires.pass c.requires.arena c.pass.invariant.1 c.index.ensures c.index_mut-spot.ensures.value in
    let read = c.published.ensures.seat in
    (c.pass.invariant.0, tell_set c.pass.inside.number c.pass.inside.spots.items c.args.arena _ c.pass.invariant.1 (ap (λ (v : Known). v.numbers) read ∙ h.tells.0, ap (λ (v : Known). length v.seen) read ∙ h.tells.1))

pub returns-clause-pass : goal.returns-clause-pass
returns-clause-pass g c =
    let h = here_of _ c.self.inside.locks.items c.pass.inside.spots.items c.pass.inside.number c.args.arena _ c.index.result.now c.index_mut-spot.result.now _ _ c.self.view_is c.pass.view_is c.requires.pass c.requires.arena c.pass.invariant.1 c.index.ensures c.index_mut-spot.ensures.value in
    let s : Spot = record { seat = c.published.new.seat; seen = c.index_mut-spot.result.now.seen } in
    still_of c.pass.inside.number c.args.arena c.pass.inside.spots.items s c.index_mut-spot.result.now h.room c.index_mut-spot.ensures.value c.args.self.now c.args.pass.now c.pass.view_is (ap (λ (z : Known). z.lock) c.published.ensures.seat) c.requires.pass

pub returns-clause-read : goal.returns-clause-read
returns-clause-read g c =
    let h = here_of _ c.self.inside.locks.items c.pass.inside.spots.items c.pass.inside.number c.args.arena _ c.index.result.now c.index_mut-spot.result.now _ _ c.self.view_is c.pass.view_is c.requires.pass c.requires.arena c.pass.invariant.1 c.index.ensures c.index_mut-spot.ensures.value in
    let s : Spot = record { seat = c.published.new.seat; seen = c.index_mut-spot.result.now.seen } in
    subst (λ (z : PassState). (record { number = c.pass.inside.number; parts = map part_of (set c.pass.inside.spots.items c.args.arena s) }) ≡ with_part z c.args.arena (after_read (part_at z c.args.arena) c.published.result)) c.pass.view_is (with_is c.pass.inside.number c.args.arena c.pass.inside.spots.items s c.index_mut-spot.result.now h.room c.index_mut-spot.ensures.value (λ v. after_read v c.published.result) c.published.ensures.seat)

pub returns-clause-known : goal.returns-clause-known
returns-clause-known g c =
    let h = here_of _ c.self.inside.locks.items c.pass.inside.spots.items c.pass.inside.number c.args.arena _ c.index.result.now c.index_mut-spot.result.now _ _ c.self.view_is c.pass.view_is c.requires.pass c.requires.arena c.pass.invariant.1 c.index.ensures c.index_mut-spot.ensures.value in
    subst (λ (z : Known). z.known ≤ c.published.result) (sym (part_is c.pass.inside.number c.args.arena c.pass.inside.spots.items c.index_mut-spot.result.now c.index_mut-spot.result.now h.room c.index_mut-spot.ensures.value c.args.pass.now c.pass.view_is)) c.published.ensures.known

pub returns-clause-seen : goal.returns-clause-seen
returns-clause-seen g c =
    let h = here_of _ c.self.inside.locks.items c.pass.inside.spots.items c.pass.inside.number c.args.arena _ c.index.result.now c.index_mut-spot.result.now _ _ c.self.view_is c.pass.view_is c.requires.pass c.requires.arena c.pass.invariant.1 c.index.ensures c.index_mut-spot.ensures.value in
    subst (λ (z : Known). length z.seen ≤ c.published.result) (sym (part_is c.pass.inside.number c.args.arena c.pass.inside.spots.items c.index_mut-spot.result.now c.index_mut-spot.result.now h.room c.index_mut-spot.ensures.value c.args.pass.now c.pass.view_is)) c.published.ensures.seen

pub returns-clause-own : goal.returns-clause-own
returns-clause-own g c =
    let h = here_of _ c.self.inside.locks.items c.pass.inside.spots.items c.pass.inside.number c.args.arena _ c.index.result.now c.index_mut-spot.result.now _ _ c.self.view_is c.pass.view_is c.requires.pass c.requires.arena c.pass.invariant.1 c.index.ensures c.index_mut-spot.ensures.value in
    let seat : Known = c.index_mut-spot.result.now.seat in
    let is = part_is c.pass.inside.number c.args.arena c.pass.inside.spots.items c.index_mut-spot.result.now c.index_mut-spot.result.now h.room c.index_mut-spot.ensures.value c.args.pass.now c.pass.view_is in
    let mine : first_calls seat.mine ≡ calls_by c.pass.inside.number seat.seen = ap first_calls (c.agrees.ensures.mine ∙ ap (calls_of seat.seen) h.tells.0) in
    subst (λ (z : Known). first_calls z.mine ≡ calls_by c.args.pass.now.number z.seen) (sym is) (mine ∙ ap (λ (p : PassState). calls_by p.number seat.seen) c.pass.view_is)
