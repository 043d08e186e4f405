use Rattle.shared_pool.proofs.Common.{ArenaState, padded_value, Entry, vec_len, vec_capacity}
use Rattle.std.proofs.Common.{rules, ◌≡◌, ◌<◌, ◌++◌, [], ◌∷◌, ◌∙◌, ap, sym, length, List}
use Rattle.std.proofs.lemmas.List.{length-map}
use Rattle.shared_pool.specs.Rows.{each_of, behead}
use Rattle.shared_pool.proofs.Closings.{AllEnded, head_back, fits_front, one_closed, all_closed, ended_all}
use Rattle.shared_pool.proofs.FreshPasses.{no_items, room_left}
use Rattle.shared_pool.proofs.closing.close_all.Goals as goal

pub close_first-requires-clause-fits : goal.close_first-requires-clause-fits
close_first-requires-clause-fits g c =
    let some : 0 < length c.loop-locks.locks.items = search rules in
    let whole : c.loop-locks.locks.items ≡ c.remove-lock.result ∷ c.remove-lock.new.self.items = head_back c.loop-locks.locks.items c.remove-lock.new.self.items c.remove-lock.result some c.remove-lock.ensures.value c.remove-lock.ensures.items in
    fits_front c.loop-locks.locks.items c.remove-lock.new.self.items c.remove-lock.result (λ z. (padded_value z).id) c.loop-locks.passes.items whole c.loop-locks.invariant.0.1

pub loop-locks-preserved : goal.loop-locks-preserved
loop-locks-preserved g c =
    let some : 0 < length c.loop-locks.locks.items = search rules in
    let whole : c.loop-locks.locks.items ≡ c.remove-lock.result ∷ c.remove-lock.new.self.items = head_back c.loop-locks.locks.items c.remove-lock.new.self.items c.remove-lock.result some c.remove-lock.ensures.value c.remove-lock.ensures.items in
    let pushed : c.push_reserved.new.self.items ≡ c.loop-locks.out.items ++ c.close_first.result ∷ [] = search rules in
    let inv = c.loop-locks.invariant.0 in (
      one_closed c.loop-locks.locks.items c.remove-lock.new.self.items c.remove-lock.result c.loop-locks.out.items c.push_reserved.new.self.items c.close_first.result c.loop-locks.passes.items c.close_first.new.passes.items c.args.seats
          (λ z. (padded_value z).id) (λ z. padded_value z) (λ z. (padded_value z).opening)
          (λ z. (z.journal.items, z.arena))
          (λ (l : List (List Entry × ArenaState)). AllEnded c.args.seats c.args.passes.items (each_of c.args.locks.items (λ z. (padded_value z).opening)) l)
          whole c.close_first.ensures.passes pushed inv.0 inv.1 inv.2 inv.3 inv.4 c.close_first.ensures.closed,
      search rules,
      room_left c.loop-locks.rows.items c.remove-row.new.self.items (λ r. (vec_len r, vec_capacity r)) (length c.loop-locks.passes.items) (length c.close_first.new.passes.items)
          (sym (ap length c.close_first.ensures.passes ∙ length-map c.loop-locks.passes.items behead)) c.remove-row.ensures.items c.loop-locks.invariant.2,
      search rules,
    )

pub returns : goal.returns
returns g c =
    let empty : length c.loop-locks.locks.items ≡ 0 = search rules in
    ended_all c.args.seats c.args.passes.items _ _
    (all_closed c.loop-locks.locks.items c.loop-locks.out.items c.loop-locks.passes.items c.args.seats (λ z. (padded_value z).opening) (λ z. (z.journal.items, z.arena))
    (λ (l : List (List Entry × ArenaState)). AllEnded c.args.seats c.args.passes.items (each_of c.args.locks.items (λ z. (padded_value z).opening)) l)
    (no_items c.loop-locks.locks.items empty) c.loop-locks.invariant.0.4)
