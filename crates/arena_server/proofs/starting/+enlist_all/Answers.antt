use Rattle.std.proofs.Common.{rules, arith, ◌≡◌, ◌+◌, ◌∷◌, [], ◌++◌, ◌∙◌, ℕ, suc, ap, sym, subst}
use Rattle.arena_server.proofs.Common.{vec_len, vec_capacity, view, each_of}
use Rattle.arena_server.specs.declared.part.Part.{Part}
use Rattle.arena_server.specs.declared.part.Part.TheVariants.{Sends}
use Rattle.arena_server.specs.Owners.{senders_of}
use Rattle.arena_server.specs.Started.{AllSpace, AllNewRows}
use Rattle.arena_server.proofs.Startings.{new_sends, one_more, row_more}
use Rattle.arena_server.proofs.starting.+enlist_all.Goals as goal

pub returns-in-Some-clause-room : goal.returns-in-Some-clause-room
returns-in-Some-clause-room t c k h =
    let whole : c.args.rows.now ≡ c.in-Some.first.now ∷ c.in-Some.rest.now = search rules in
    let space = subst (λ rs. AllSpace (k + 1) (each_of rs (λ r. (vec_len r, vec_capacity r)))) whole h in
    let room = space.0 in
    (omega (arith, room, c.push_reserved.ensures.len, c.push_reserved.ensures.capacity), c.enlist_all.ensures.room k space.1)

pub returns-in-Some-clause-rows : goal.returns-in-Some-clause-rows
returns-in-Some-clause-rows t c queues h =
    let p : Part = view c.args.taker.now in
    let whole : c.args.rows.now ≡ c.in-Some.first.now ∷ c.in-Some.rest.now = search rules in
    let rows = subst (λ rs. AllNewRows (senders_of p) queues (each_of rs (λ r. r.items))) whole h in
    let next : senders_of (view c.enlist.new.token) ≡ suc (senders_of p) = ap senders_of c.enlist.ensures.enlisted ∙ one_more p c.requires.takes in
    let new : view c.enlist.result ≡ Sends (senders_of p) [] = c.enlist.ensures.new ∙ new_sends p c.requires.takes in
    let id = c.args.queue.now.table.shared.table_id in (
      row_more (senders_of p) queues id c.in-Some.first.now.items c.push_reserved.new.self.items c.enlist.result c.push_reserved.ensures.items new c.enlist.ensures.queue.1.1 c.enlist.ensures.queue.1.0 rows.0,
      subst (λ (n : ℕ). AllNewRows n (queues ++ id ∷ []) (each_of c.enlist_all.new.rows (λ r. r.items))) next
          (c.enlist_all.ensures.rows queues (subst (λ (n : ℕ). AllNewRows n queues (each_of c.in-Some.rest.now (λ r. r.items))) (sym next) rows.1)),
    )
