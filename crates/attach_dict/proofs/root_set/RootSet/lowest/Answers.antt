use Rattle.std.proofs.Common.{◌≡◌, length, ◌∙◌}
use Rattle.attach_dict.proofs.RootSets.{set_of, lowest_in}
use Rattle.attach_dict.proofs.root_set.RootSet.lowest.Goals as goal

pub returns : goal.returns
returns c =
    let s = c.self.inside in
    let size : c.len.result ≡ length s.bits.items = c.len.ensures ∙ s.bits.ok.0 in
    rw (← c.self.view_is) (lowest_in (set_of s.below s.bits.items s.count) c.least_in.result c.self.invariant (rw (c.deref.ensures.value, size) at c.least_in.ensures))
