use Rattle.std.proofs.Common.{rules, arith, ◌≡◌, ◌≢◌, ℕ, suc, ◌<◌, ◌≤◌, List, ◌∷◌, Option, ◌∙◌, true, ap, sym, subst, length, map, drop, get_or, remove, refl, ◌+◌}
use Rattle.arena_server.proofs.Common.{vec_len, vec_capacity, is_in, HasAll, AllRoom, each_of}
use Rattle.arena_server.specs.declared.request.Request.{Request}
use Rattle.arena_server.specs.declared.owner.Till.{Till}
use Rattle.arena_server.specs.Senders.{nowhere, AllSendTo, numbers, behead_sender}
use Rattle.arena_server.specs.Emptied.{arenas_of, place_of, IsEmptied, list_at, held_at}
use Rattle.arena_server.specs.Servers.{queue_ids, AllHaveRoom}
use Rattle.arena_server.proofs.Arenas.{from_first, from_next, emptied_from, numbers_behead, send_behead, head_back, more_length, none_out, moved, one_emptied, none_emptied, all_emptied, all_from, drop_next, drop_first}
use Rattle.arena_server.proofs.Endings.{no_items}
use Rattle.arena_server.proofs.Tills.{taken_out}
use Rattle.arena_server.proofs.closing.close_all.Goals as goal

pub loop-queues-init : goal.loop-queues-init
loop-queues-init g c =
    let none : length c.args.out.items ≡ 0 = search rules in record {
      queues = c.requires.queues;
      ids = drop_first (length c.args.out.items) (queue_ids c.args.queues.items) none;
      count = omega (arith, none);
      tills = c.requires.tills.0;
      found = λ k _. (refl, refl, refl);
      lines = c.requires.senders;
      senders = from_first (length c.args.out.items) c.args.senders.items none;
      lefts = c.requires.lefts;
      out = search rules;
      emptied = none_emptied (λ d. d.left.items) c.args.out.items c.args.senders.items c.args.tills.items (no_items c.args.out.items none);
      closed = none_out (λ d. (d.journal.items, d.arena)) c.args.out.items _ (no_items c.args.out.items none);
    }

pub place_of-place-requires : goal.place_of-place-requires
place_of-place-requires g c =
    let l = c.loop-queues in
    let some : 0 < length l.queues.items = search rules in
    let has : is_in (length l.out.items) (arenas_of l.tills.items) ≡ true = (l.invariant.found (length l.out.items) (omega arith)).2 ∙ c.requires.tills.1 (length l.out.items) (omega (arith, l.invariant.count, some)) in
    subst (λ (z : ℕ × List Till). is_in z.0 (arenas_of z.1) ≡ true) (λ i. (sym (c.len.ensures ∙ l.out.ok.0) i, sym c.as_slice.ensures.value i)) has

pub empty_first-left-requires-clause-till : goal.empty_first-left-requires-clause-till
empty_first-left-requires-clause-till g c =
    let l = c.loop-queues in
    let inv = c.loop-queues.invariant in
    let some : 0 < length l.queues.items = search rules in
    let has : is_in (length l.out.items) (arenas_of l.tills.items) ≡ true = (inv.found (length l.out.items) (omega arith)).2 ∙ c.requires.tills.1 (length l.out.items) (omega (arith, inv.count, some)) in
    let place : c.place_of-place.result ≡ place_of (length l.out.items) l.tills.items = c.place_of-place.ensures.place ∙ (λ i. place_of ((c.len.ensures ∙ l.out.ok.0) i) (c.as_slice.ensures.value i)) in
    let taken = taken_out (queue_ids c.args.queues.items) c.args.enlisted (length l.out.items) l.tills.items c.remove-till.new.self.items c.remove-till.result has inv.tills
    (c.remove-till.ensures.value ∙ ap (λ n. get_or l.tills.items n c.remove-till.result) place) (c.remove-till.ensures.items ∙ ap (λ n. remove l.tills.items n) place) in
    let queues : l.queues.items ≡ c.remove-queue.result ∷ c.remove-queue.new.self.items = head_back l.queues.items c.remove-queue.new.self.items c.remove-queue.result some c.remove-queue.ensures.value c.remove-queue.ensures.items in
    let next = drop_next (length l.out.items) (queue_ids c.args.queues.items) _ (queue_ids c.remove-queue.new.self.items) (sym inv.ids ∙ ap (λ q. queue_ids q) queues) in
    (taken.there.till, taken.there.queue ∙ (ap (λ n. get_or (queue_ids c.args.queues.items) n nowhere) taken.arena ∙ next.0), taken.there.senders)

pub empty_first-left-requires-clause-lines : goal.empty_first-left-requires-clause-lines
empty_first-left-requires-clause-lines g c =
    let some : 0 < length c.loop-queues.queues.items = search rules in
    let whole : c.loop-queues.queues.items ≡ c.remove-queue.result ∷ c.remove-queue.new.self.items = head_back c.loop-queues.queues.items c.remove-queue.new.self.items c.remove-queue.result some c.remove-queue.ensures.value c.remove-queue.ensures.items in
    (queue_ids c.remove-queue.new.self.items, subst (λ l. AllSendTo (queue_ids l) c.loop-queues.senders.items) whole c.loop-queues.invariant.lines.0)

pub loop-queues-preserved : goal.loop-queues-preserved
loop-queues-preserved g c =
    let l = c.loop-queues in
    let inv = c.loop-queues.invariant in
    let a = length l.out.items in
    let ids = queue_ids c.args.queues.items in
    let ss = c.args.senders.items in
    let some : 0 < length l.queues.items = search rules in
    let has : is_in a (arenas_of l.tills.items) ≡ true = (inv.found a (omega arith)).2 ∙ c.requires.tills.1 a (omega (arith, inv.count, some)) in
    let place : c.place_of-place.result ≡ place_of a l.tills.items = c.place_of-place.ensures.place ∙ (λ i. place_of ((c.len.ensures ∙ l.out.ok.0) i) (c.as_slice.ensures.value i)) in
    let taken = taken_out ids c.args.enlisted a l.tills.items c.remove-till.new.self.items c.remove-till.result has inv.tills
    (c.remove-till.ensures.value ∙ ap (λ n. get_or l.tills.items n c.remove-till.result) place) (c.remove-till.ensures.items ∙ ap (λ n. remove l.tills.items n) place) in
    let queues : l.queues.items ≡ c.remove-queue.result ∷ c.remove-queue.new.self.items = head_back l.queues.items c.remove-queue.new.self.items c.remove-queue.result some c.remove-queue.ensures.value c.remove-queue.ensures.items in
    let one_less : length l.queues.items ≡ suc (length c.remove-queue.new.self.items) = ap length queues in
    let next = drop_next a ids _ (queue_ids c.remove-queue.new.self.items) (sym inv.ids ∙ ap (λ q. queue_ids q) queues) in
    let lefts : l.lefts.items ≡ c.remove.result ∷ c.remove.new.self.items = head_back l.lefts.items c.remove.new.self.items c.remove.result (omega (arith, inv.lefts.0, some)) c.remove.ensures.value c.remove.ensures.items in
    let closed : l.closed.items ≡ c.remove-journal.result ∷ c.remove-journal.new.self.items = head_back l.closed.items c.remove-journal.new.self.items c.remove-journal.result (omega (arith, inv.queues.1, some)) c.remove-journal.ensures.value c.remove-journal.ensures.items in
    let pushed = c.push_reserved.ensures.items in
    let more : suc a ≡ length c.push_reserved.new.self.items = more_length l.out.items c.push_reserved.new.self.items _ pushed in
    let now = c.empty_first-left.ensures.senders in
    let left = c.empty_first-left.result.items in
    let emptied : IsEmptied a ss (list_at c.args.tills.items a) (held_at c.args.tills.items a) left =
    subst (λ (z : List Request × Option Request). IsEmptied a ss z.0 z.1 left) (λ i. ((sym taken.list ∙ (inv.found a (omega arith)).0) i, (sym taken.held ∙ (inv.found a (omega arith)).1) i))
    (emptied_from a l.senders.items ss _ _ left inv.senders c.empty_first-left.ensures.emptied) in record {
      queues = ((subst (λ q. AllHaveRoom c.args.room q) queues inv.queues.0).1, search rules);
      ids = sym next.1 ∙ ap (λ n. drop n ids) more;
      count = omega (arith, inv.count, more, one_less);
      tills = taken.rest_there;
      found = λ k le.
          let other : k ≢ a = λ e. absurd (omega (arith, le, e, more)) in
          let low : a ≤ k = omega (arith, le, more) in
          let o = taken.others k other in
          let was = inv.found k low in
          (o.0 ∙ was.0, o.1 ∙ was.1, o.2 ∙ was.2);
      lines = (
        subst (λ s. AllSendTo (queue_ids c.remove-queue.new.self.items) s) (sym now) (send_behead _ (queue_ids c.remove-queue.new.self.items) l.senders.items (subst (λ q. AllSendTo (queue_ids q) l.senders.items) queues inv.lines.0)),
        subst (HasAll c.args.enlisted) (sym (ap numbers now ∙ numbers_behead l.senders.items)) inv.lines.1,
      );
      senders = now ∙ (ap (λ s. map behead_sender s) inv.senders ∙ (from_next a ss ∙ ap (λ n. all_from n ss) more));
      lefts = (search rules, (subst (λ d. AllRoom (c.args.room + 1) (each_of d (λ x. (vec_len x, vec_capacity x)))) lefts inv.lefts.1).1);
      out = search rules;
      emptied = one_emptied (λ d. d.left.items) l.out.items c.push_reserved.new.self.items _ ss c.args.tills.items pushed emptied inv.emptied;
      closed = moved (λ d. (d.journal.items, d.arena)) (λ d. (d.journal.items, d.arena)) l.out.items c.push_reserved.new.self.items _ l.closed.items c.remove-journal.new.self.items c.remove-journal.result _ pushed closed refl inv.closed;
    }

pub returns-clause-emptied : goal.returns-clause-emptied
returns-clause-emptied g c = all_emptied (λ d. d.left.items) c.loop-queues.out.items c.args.senders.items c.args.tills.items c.loop-queues.invariant.emptied
