use Rattle.std.proofs.Common.{rules, ◌≡◌, ◌<◌, ◌∷◌, length}
use Rattle.serve_runs.proofs.Common.{each_of}
use Rattle.trace_runs.proofs.Tellings.{head_back}
use Rattle.serve_runs.proofs.Moves.{carried_by, pushed_by}
use Rattle.serve_runs.proofs.closing.part_clerks.Goals as goal

pub loop-clerks-preserved : goal.loop-clerks-preserved
loop-clerks-preserved c =
    let l = c.loop-clerks in
    let inv = l.invariant in
    let some : 0 < length l.clerks.items = search rules in
    let one = c.remove-owner.result in
    let whole : l.clerks.items ≡ one ∷ c.remove-owner.new.self.items = head_back l.clerks.items c.remove-owner.new.self.items one some c.remove-owner.ensures.value c.remove-owner.ensures.items in
    record {
      owners = carried_by (λ z. z.owner) l.owners.items c.push_reserved.new.self.items (each_of c.args.clerks.items (λ z. z.owner)) l.clerks.items c.remove-owner.new.self.items one whole c.push_reserved.ensures.items inv.owners;
      notes = carried_by (λ z. z.senders.items) (each_of l.notes.items (λ n. n.items)) (each_of c.push_reserved-in-loop-clerks.new.self.items (λ n. n.items)) (each_of c.args.clerks.items (λ z. z.senders.items)) l.clerks.items c.remove-owner.new.self.items one whole
          (pushed_by (λ n. n.items) l.notes.items c.push_reserved-in-loop-clerks.new.self.items one.senders c.push_reserved-in-loop-clerks.ensures.items) inv.notes;
      room = search rules;
      space = search rules;
    }
