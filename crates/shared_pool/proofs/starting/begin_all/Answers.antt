use Rattle.std.proofs.Common.{rules, ◌≡◌, ◌≤◌, ◌<◌, ◌+◌, ◌++◌, ◌∷◌, ◌∙◌, ap, sym, List, length}
use Rattle.shared_pool.proofs.Common.{new_seats, vec_len, vec_capacity, padded_value, TableId, Entry, Opening, opened}
use Rattle.shared_pool.specs.Value.{Held}
use Rattle.shared_pool.specs.Rows.{each_of}
use Rattle.shared_pool.proofs.Closings.{head_back}
use Rattle.shared_pool.proofs.NewLocks.{begun_more, moved}
use Rattle.shared_pool.proofs.starting.begin_all.Goals as goal

pub new-requires-clause-legal : goal.new-requires-clause-legal
new-requires-clause-legal g c = c.open.ensures.legal

pub loop-alloc-preserved : goal.loop-alloc-preserved
loop-alloc-preserved g c =
    let some : 0 < length c.loop-alloc.arenas.items = search rules in
    let whole : c.loop-alloc.arenas.items ≡ c.remove-arena.result ∷ c.remove-arena.new.self.items = head_back c.loop-alloc.arenas.items c.remove-arena.new.self.items c.remove-arena.result some c.remove-arena.ensures.value c.remove-arena.ensures.items in
    let lock = c.new-in-Ok.ensures in
    let was = c.in-Ok.ensures.lock in
    let opening = ap (λ l. l.opening) lock ∙ was.0 in
    let now = ap (λ (h : Held). h.opening) (sym c.open.ensures.value) ∙ sym opening in
    let dealt = c.in-Ok.ensures.seats ∙ ap (λ (z : TableId × Opening × List Entry). new_seats z.0 z.1 z.2 0 c.args.seats) (λ i. (ap (λ l. l.id) (sym lock) i, sym opening i, ap (λ (h : Held). h.journal) c.open.ensures.value i)) in
    let first : vec_len c.remove-arena.new.self + vec_len c.push_reserved.new.self ≤ vec_capacity c.remove-arena.new.self = search rules in
    let second : vec_len c.remove-arena.new.self + vec_len c.push_reserved.new.self ≤ vec_capacity c.push_reserved.new.self = search rules in (
      first,
      second,
      begun_more c.loop-alloc.begun.items c.push_reserved.new.self.items (record { lock = c.new-in-Ok.result; dealt = c.in-Ok.dealt })
          (λ b. (padded_value b.lock, b.dealt.items))
          c.args.seats c.push_reserved.ensures.items c.loop-alloc.invariant.2
          (record {
            fresh = ap (λ l. l.start) lock ∙ (was.1 ∙ ap (λ (h : Held). h.journal) c.open.ensures.value);
            count = ap (λ l. l.seats) lock ∙ was.2;
            dealt = dealt;
          }),
      sym (moved c.push_reserved.new.self.items c.loop-alloc.begun.items (record { lock = c.new-in-Ok.result; dealt = c.in-Ok.dealt }) (λ e. (padded_value e.lock).opening)
          (each_of c.remove-arena.new.self.items (λ a. opened a)) (opened c.remove-arena.result) c.push_reserved.ensures.items now)
          ∙ (ap (λ l. each_of c.loop-alloc.begun.items (λ e. (padded_value e.lock).opening) ++ each_of l (λ a. opened a)) (sym whole)
          ∙ c.loop-alloc.invariant.3),
    )
