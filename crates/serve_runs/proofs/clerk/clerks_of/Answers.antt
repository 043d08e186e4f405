use Rattle.std.proofs.Common.{rules, ◌≡◌, ◌≤◌, ◌<◌, [], ◌∷◌, ◌++◌, ◌∙◌, ap, sym, subst, length}
use Rattle.std.specs.Vec.{vec_len, vec_capacity}
use Rattle.serve_runs.proofs.Common.{Each, each_of, calls_of, OwnerState, Clerk}
use Rattle.trace_runs.proofs.Tellings.{head_back}
use Rattle.serve_runs.specs.Clerks.{IsNewOwner, IsReady}
use Rattle.serve_runs.proofs.Eaches.{each_back, each_join}
use Rattle.serve_runs.proofs.Moves.{carried, pushed_by}
use Rattle.serve_runs.proofs.clerk.clerks_of.Goals as goal

pub loop-alloc-preserved : goal.loop-alloc-preserved
loop-alloc-preserved c =
    let l = c.loop-alloc in
    let inv = l.invariant in
    let calls = c.args.calls.now in
    let some : 0 < length l.owners.items = search rules in
    let one : OwnerState = c.remove-owner.result in
    let rest = c.remove-owner.new.self.items in
    let whole : l.owners.items ≡ one ∷ rest = head_back l.owners.items rest one some c.remove-owner.ensures.value c.remove-owner.ensures.items in
    let clerk : Clerk = record { owner = one; senders = c.in_ok-senders.senders } in
    let pushed : c.push.new.self.items ≡ l.clerks.items ++ clerk ∷ [] = search rules in
    let there = each_of l.clerks.items (λ (z : Clerk). z.owner) in
    let notes : vec_len c.in_ok-senders.senders ≡ 0 = c.in_ok-senders.ensures.len in
    let room : length (calls_of one.pass.number calls) ≤ vec_capacity c.in_ok-senders.senders =
    subst (λ n. length (calls_of n calls) ≤ vec_capacity c.in_ok-senders.senders) c.number.ensures (subst (λ n. n ≤ vec_capacity c.in_ok-senders.senders) c.calls_for.ensures c.in_ok-senders.ensures.capacity) in
    record {
      owners = carried there (each_of c.push.new.self.items (λ (z : Clerk). z.owner)) c.args.owners.items l.owners.items rest one whole (pushed_by (λ (z : Clerk). z.owner) l.clerks.items c.push.new.self.items clerk pushed) inv.owners;
      ready = λ server new.
          let all : Each (IsNewOwner server) (there ++ one ∷ rest) = subst (Each (IsNewOwner server)) (sym inv.owners ∙ ap (λ os. there ++ os) whole) new in
          let here = each_back (IsNewOwner server) there (one ∷ rest) all in
          subst (Each (IsReady server calls)) (sym pushed) (each_join (IsReady server calls) l.clerks.items (clerk ∷ []) (inv.ready server new) (record { owner = here.0; notes = notes; room = room }, tt));
    }
