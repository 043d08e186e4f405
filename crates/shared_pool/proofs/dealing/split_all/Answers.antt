use Rattle.std.proofs.Common.{rules, ◌≡◌, ◌≤◌, ◌<◌, ◌+◌, ◌∷◌, ◌∙◌, refl, sym, length}
use Rattle.shared_pool.proofs.Common.{vec_len, vec_capacity, padded_value}
use Rattle.shared_pool.specs.Rows.{each_of}
use Rattle.shared_pool.proofs.Closings.{head_back}
use Rattle.shared_pool.proofs.FreshPasses.{new_pushed}
use Rattle.shared_pool.proofs.NewLocks.{begun_head, lines_pushed, moved, back_whole}
use Rattle.shared_pool.proofs.dealing.split_all.Goals as goal

pub loop-begun-preserved : goal.loop-begun-preserved
loop-begun-preserved g c =
    let some : 0 < length c.loop-begun.begun.items = search rules in
    let whole : c.loop-begun.begun.items ≡ c.remove-lock.result ∷ c.remove-lock.new.self.items = head_back c.loop-begun.begun.items c.remove-lock.new.self.items c.remove-lock.result some c.remove-lock.ensures.value c.remove-lock.ensures.items in
    let b = begun_head c.loop-begun.begun.items c.remove-lock.new.self.items c.remove-lock.result
    (λ b. (padded_value b.lock, b.dealt.items))
    c.args.seats whole c.loop-begun.invariant.0 in
    let locks = c.push_reserved.ensures.items in
    let dealts = c.push_reserved-in-loop-begun.ensures.items in
    let count : length c.push_reserved-in-loop-begun.new.self.items + length c.remove-lock.new.self.items ≡ length c.args.begun.items = search rules in
    let room : vec_len c.push_reserved.new.self + length c.remove-lock.new.self.items ≤ vec_capacity c.push_reserved.new.self = search rules in
    let step = moved c.push_reserved.new.self.items c.loop-begun.locks.items c.remove-lock.result.lock (λ z. (padded_value z).opening)
    (each_of c.remove-lock.new.self.items (λ e. (padded_value e.lock).opening)) ((padded_value c.remove-lock.result.lock).opening) locks refl in
    let space : vec_len c.push_reserved-in-loop-begun.new.self + length c.remove-lock.new.self.items ≤ vec_capacity c.push_reserved-in-loop-begun.new.self = search rules in (
      b.1,
      new_pushed _ c.args.seats c.loop-begun.locks.items c.push_reserved.new.self.items c.remove-lock.result.lock locks c.loop-begun.invariant.1 (b.0.fresh, b.0.count),
      lines_pushed c.loop-begun.dealts.items c.push_reserved-in-loop-begun.new.self.items c.remove-lock.result.dealt c.loop-begun.locks.items c.push_reserved.new.self.items c.remove-lock.result.lock
          (λ d. d.items) (λ z. padded_value z) c.args.seats dealts locks c.loop-begun.invariant.2 b.0.dealt,
      sym step
          ∙ (back_whole c.loop-begun.begun.items c.remove-lock.new.self.items c.remove-lock.result (λ e. (padded_value e.lock).opening) (each_of c.loop-begun.locks.items (λ z. (padded_value z).opening)) whole
          ∙ c.loop-begun.invariant.3),
      count,
      room,
      space,
    )
