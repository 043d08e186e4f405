use Rattle.std.proofs.Common.{rules, arith, ◌≡◌, ◌<◌, ◌+◌, ◌∷◌, ◌++◌, ◌∙◌, suc, ap, sym, length}
use Rattle.arena_server.proofs.Common.{append-nil, fresh_passes}
use Rattle.arena_server.specs.Started.{new_owners}
use Rattle.arena_server.proofs.Arenas.{head_back}
use Rattle.arena_server.proofs.Endings.{no_items}
use Rattle.arena_server.proofs.Startings.{one_left, taker_first, fresh_first, fresh_length, takers_length, new_owner, owner_more}
use Rattle.arena_server.proofs.starting.seat_all.Goals as goal

pub loop-arena-init : goal.loop-arena-init
loop-arena-init c =
    let none : length c.args.owners.items ≡ 0 = search rules in
    (c.args.count, omega arith, search rules, λ locks queues a b d. (a, (queues, d, b, ap (λ l. l ++ new_owners locks c.args.senders 0 queues) (sym (no_items c.args.owners.items none)))))

pub remove-requires : goal.remove-requires
remove-requires c =
    let inv = c.loop-arena.invariant in
    let k = one_left inv.1 c.loop-arena-test.true in
    let here = inv.3 c.requires.passes.0 c.requires.takers.0 c.requires.passes.1 c.requires.takers.1 c.requires.takers.2 in
    let many : length c.loop-arena.passes.items ≡ inv.0 = ap length here.0 ∙ fresh_length _ c.loop-arena.arena inv.0 in
    omega (arith, many, k.1, c.loop-arena.passes.ok.0)

pub remove-requires-in-loop-arena : goal.remove-requires-in-loop-arena
remove-requires-in-loop-arena c =
    let inv = c.loop-arena.invariant in
    let k = one_left inv.1 c.loop-arena-test.true in
    let here = inv.3 c.requires.passes.0 c.requires.takers.0 c.requires.passes.1 c.requires.takers.1 c.requires.takers.2 in
    let many : length c.loop-arena.takers.items ≡ inv.0 = takers_length here.1.0 c.args.senders c.loop-arena.takers.items here.1.2 ∙ here.1.1 in
    omega (arith, many, k.1, c.loop-arena.takers.ok.0)

pub invariant_of-push_reserved : goal.invariant_of-push_reserved
invariant_of-push_reserved c =
    let l = c.loop-arena in
    let inv = c.loop-arena.invariant in
    let k = one_left inv.1 c.loop-arena-test.true in
    let locks = c.requires.passes.0 in
    let here = inv.3 locks c.requires.takers.0 c.requires.passes.1 c.requires.takers.1 c.requires.takers.2 in
    let some : 0 < length l.passes.items = let many : length l.passes.items ≡ inv.0 = ap length here.0 ∙ fresh_length _ l.arena inv.0 in omega (arith, many, k.1) in
    let some_takers : 0 < length l.takers.items = let many : length l.takers.items ≡ inv.0 = takers_length here.1.0 c.args.senders l.takers.items here.1.2 ∙ here.1.1 in omega (arith, many, k.1) in
    let passes : l.passes.items ≡ c.remove.result ∷ c.remove.new.self.items = head_back l.passes.items c.remove.new.self.items c.remove.result some c.remove.ensures.value c.remove.ensures.items in
    let takers : l.takers.items ≡ c.remove-in-loop-arena.result ∷ c.remove-in-loop-arena.new.self.items = head_back l.takers.items c.remove-in-loop-arena.new.self.items c.remove-in-loop-arena.result some_takers c.remove-in-loop-arena.ensures.value c.remove-in-loop-arena.ensures.items in
    let pass = fresh_first locks l.arena k.0 l.passes.items c.remove.new.self.items c.remove.result passes (here.0 ∙ ap (fresh_passes locks l.arena) k.1) in
    let taker = taker_first c.args.senders here.1.0 l.takers.items c.remove-in-loop-arena.new.self.items c.remove-in-loop-arena.result takers here.1.2 in
    new_owner locks l.arena c.args.senders c.remove.result c.remove-in-loop-arena.result pass.0 taker.3.1 taker.3.2

pub loop-arena-preserved : goal.loop-arena-preserved
loop-arena-preserved c =
    let l = c.loop-arena in
    let inv = c.loop-arena.invariant in
    let k = one_left inv.1 c.loop-arena-test.true in
    let up : suc l.arena ≡ l.arena + 1 = omega arith in (
      k.0,
      omega (arith, inv.1, k.1),
      omega (arith, inv.2, k.1, c.push_reserved.ensures.len, c.push_reserved.ensures.capacity),
      λ locks queues a b d.
          let here = inv.3 locks queues a b d in
          let some : 0 < length l.passes.items = let many : length l.passes.items ≡ inv.0 = ap length here.0 ∙ fresh_length _ l.arena inv.0 in omega (arith, many, k.1) in
          let some_takers : 0 < length l.takers.items = let many : length l.takers.items ≡ inv.0 = takers_length here.1.0 c.args.senders l.takers.items here.1.2 ∙ here.1.1 in omega (arith, many, k.1) in
          let passes : l.passes.items ≡ c.remove.result ∷ c.remove.new.self.items = head_back l.passes.items c.remove.new.self.items c.remove.result some c.remove.ensures.value c.remove.ensures.items in
          let takers : l.takers.items ≡ c.remove-in-loop-arena.result ∷ c.remove-in-loop-arena.new.self.items = head_back l.takers.items c.remove-in-loop-arena.new.self.items c.remove-in-loop-arena.result some_takers c.remove-in-loop-arena.ensures.value c.remove-in-loop-arena.ensures.items in
          let pass = fresh_first locks l.arena k.0 l.passes.items c.remove.new.self.items c.remove.result passes (here.0 ∙ ap (fresh_passes locks l.arena) k.1) in
          let taker = taker_first c.args.senders here.1.0 l.takers.items c.remove-in-loop-arena.new.self.items c.remove-in-loop-arena.result takers here.1.2 in
          let many : length taker.1 ≡ k.0 = let all : length here.1.0 ≡ suc (length taker.1) = ap length taker.2 in omega (arith, all, here.1.1, k.1) in (
            pass.1 ∙ ap (λ n. fresh_passes locks n k.0) up,
            (
              taker.1,
              many,
              taker.4,
              ap (λ n. c.push_reserved.new.self.items ++ new_owners locks c.args.senders n taker.1) (sym up)
                  ∙ owner_more locks c.args.senders l.arena taker.0 taker.1 c.remove.result c.remove-in-loop-arena.result l.owners.items c.push_reserved.new.self.items (new_owners locks c.args.senders 0 queues) c.push_reserved.ensures.items pass.0 taker.3.0 taker.3.2
                  (ap (λ qs. l.owners.items ++ new_owners locks c.args.senders l.arena qs) (sym taker.2) ∙ here.1.3),
            ),
          ),
    )

pub returns : goal.returns
returns c locks queues a b d =
    let inv = c.loop-arena.invariant in
    let here = inv.3 locks queues a b d in
    let none : length here.1.0 ≡ 0 = let ended : inv.0 ≡ 0 = search rules in here.1.1 ∙ ended in
    sym (ap (λ qs. c.loop-arena.owners.items ++ new_owners locks c.args.senders c.loop-arena.arena qs) (sym (no_items here.1.0 none)) ∙ append-nil c.loop-arena.owners.items) ∙ here.1.3
