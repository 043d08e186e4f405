use Rattle.std.proofs.Common.{rules, arith, ◌≡◌, ◌+◌, ◌∷◌, [], ◌++◌, ◌∙◌, ℕ, ap, sym, subst, length}
use mathlib.Core.List.{map-append}
use Rattle.arena_server.proofs.Common.{vec_len, vec_capacity, view, each_of}
use Rattle.arena_server.specs.Owners.{senders_of}
use Rattle.arena_server.specs.Servers.{queue_ids, AllHaveRoom}
use Rattle.arena_server.specs.Started.{AllNewRows, AllSpace, AllNewTakers}
use Rattle.arena_server.proofs.Endings.{no_items}
use Rattle.arena_server.proofs.Startings.{one_left, no_rows, room_space, takers_pushed, all_enlisted, room_queue, take_front, no_takers}
use Rattle.arena_server.proofs.starting.open_all.Goals as goal

pub loop-init : goal.loop-init
loop-init c =
    let queues : length c.in_ok-queues.queues.items ≡ 0 = search rules in
    let takers : length c.in_ok-takers.takers.items ≡ 0 = search rules in
    let none = no_items c.in_ok-queues.queues.items queues in record {
      queues = (subst (λ q. AllHaveRoom c.args.room q) none tt, queues);
      takers = subst (λ q. AllNewTakers (queue_ids q) c.args.senders c.in_ok-takers.takers.items) none (no_takers c.args.senders c.in_ok-takers.takers.items takers);
      rows = (
        subst (λ q. AllNewRows 0 (queue_ids q) (each_of c.in_ok-rows.rows.items (λ r. r.items))) none (no_rows (λ r. (vec_len r, vec_capacity r)) (λ r. r.items) 0 c.args.count c.in_ok-rows.rows.items (λ r. r.ok.0) c.in_ok-rows.ensures.1),
        search rules,
      );
      left = (c.args.count, omega arith, room_space c.args.count _ c.in_ok-rows.ensures.1, search rules, search rules);
    }

pub enlist_all-requires-clause-room : goal.enlist_all-requires-clause-room
enlist_all-requires-clause-room c =
    let left = c.loop.invariant.left in
    let k = one_left left.1 c.loop-test.true in
    (left.0, omega (arith, k.1), subst (λ rs. AllSpace left.0 (each_of rs (λ r. (vec_len r, vec_capacity r)))) (sym c.as_mut_slice.ensures.value) left.2)

pub loop-preserved : goal.loop-preserved
loop-preserved c =
    let inv = c.loop.invariant in
    let left = c.loop.invariant.left in
    let k = one_left left.1 c.loop-test.true in
    let up : left.0 ≡ k.0 + 1 = omega (arith, k.1) in
    let new = c.in_ok-queue.ensures in
    let queues = c.push_reserved-in-loop.ensures.items in
    let many : length c.as_mut_slice.result.now ≡ c.args.senders = ap length c.as_mut_slice.ensures.value ∙ inv.rows.1 in
    let ids : queue_ids c.push_reserved-in-loop.new.self.items ≡ queue_ids c.loop.queues.items ++ c.in_ok-queue.queue.table.shared.table_id ∷ [] = ap (λ q. queue_ids q) queues ∙ map-append _ c.loop.queues.items (c.in_ok-queue.queue ∷ []) in
    let first : senders_of (view c.in_ok-queue.taker) ≡ 0 = ap senders_of new.2 in
    let rows = c.enlist_all.ensures.rows (queue_ids c.loop.queues.items)
    (subst (λ (n : ℕ). AllNewRows n (queue_ids c.loop.queues.items) (each_of c.as_mut_slice.result.now (λ r. r.items))) (sym first) (subst (λ rs. AllNewRows 0 (queue_ids c.loop.queues.items) (each_of rs (λ r. r.items))) (sym c.as_mut_slice.ensures.value) inv.rows.0)) in
    let length_is : c.loop.rows.len ≡ length c.enlist_all.new.rows = search rules in
    let whole = take_front c.enlist_all.new.rows _ c.loop.rows.len length_is in record {
      queues = (room_queue c.args.room c.loop.queues.items c.push_reserved-in-loop.new.self.items c.in_ok-queue.queue queues inv.queues.0 new.0, search rules);
      takers = subst (λ ids. AllNewTakers ids c.args.senders c.push_reserved.new.self.items) (sym ids)
          (takers_pushed (queue_ids c.loop.queues.items) c.args.senders c.loop.takers.items c.push_reserved.new.self.items c.in_ok-queue.queue.table.shared.table_id c.enlist_all.new.taker c.push_reserved.ensures.items inv.takers
          (c.enlist_all.ensures.queue.0 ∙ new.1.0, c.enlist_all.ensures.queue.2 ∙ new.1.1, c.enlist_all.ensures.enlisted ∙ all_enlisted (view c.in_ok-queue.taker) _ c.args.senders new.2 many));
      rows = (
        subst (λ rs. AllNewRows 0 (queue_ids c.push_reserved-in-loop.new.self.items) (each_of rs (λ r. r.items))) (sym whole)
            (subst (λ ids. AllNewRows 0 ids (each_of c.enlist_all.new.rows (λ r. r.items))) (sym ids) (subst (λ (n : ℕ). AllNewRows n (queue_ids c.loop.queues.items ++ c.in_ok-queue.queue.table.shared.table_id ∷ []) (each_of c.enlist_all.new.rows (λ r. r.items))) first rows)),
        search rules,
      );
      left = (
        k.0,
        omega (arith, left.1, k.1),
        subst (λ rs. AllSpace k.0 (each_of rs (λ r. (vec_len r, vec_capacity r)))) (sym whole)
            (c.enlist_all.ensures.room k.0 (subst (λ (n : ℕ). AllSpace n (each_of c.as_mut_slice.result.now (λ r. (vec_len r, vec_capacity r)))) up (subst (λ rs. AllSpace left.0 (each_of rs (λ r. (vec_len r, vec_capacity r)))) (sym c.as_mut_slice.ensures.value) left.2))),
        omega (arith, left.3, k.1, c.push_reserved-in-loop.ensures.len, c.push_reserved-in-loop.ensures.capacity),
        omega (arith, left.4, k.1, c.push_reserved.ensures.len, c.push_reserved.ensures.capacity),
      );
    }
