use Rattle.std.proofs.Common.{◌∙◌, ◌/◌, not, reverse, sym, ap, ℕ}
use Rattle.std.specs.List.{filter}
use Rattle.heap_model.specs.Slabs.{is_within}
use Rattle.thread_cache.proofs.Lists.{filter-reverse}
use Rattle.thread_cache.proofs.stack.Stack.leave_slab.Goals as goal

pub returns : goal.returns
returns c =
    let stays = λ (at : ℕ). not (is_within (c.args.slab / 16384) at) in
    ap reverse c.outside-self-inside.ensures ∙ sym (filter-reverse stays c.self.inside.blocks.items) ∙ ap (filter stays) c.self.view_is
