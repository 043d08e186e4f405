use Rattle.attach_dict.proofs.HeadOrder.{still_apart, in_order}
use Rattle.attach_dict.proofs.heads.sort.Goals as goal

pub returns-clause-order : goal.returns-clause-order
returns-clause-order c =
    in_order c.sort_unstable.new.self.items (still_apart c.args.heads.now.items c.sort_unstable.new.self.items c.sort_unstable.ensures.permutation c.requires) c.sort_unstable.ensures.sorted
