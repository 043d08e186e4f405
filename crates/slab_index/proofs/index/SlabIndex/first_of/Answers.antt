use Rattle.std.proofs.Common.{sym, ◌∙◌, arith}
use Rattle.slab_index.proofs.Lowest.{used_up, first_block}
use Rattle.slab_index.proofs.Firsts.{either}
use Rattle.slab_index.proofs.Views.{class_of_list, slab_inside}
use Rattle.slab_index.proofs.index.SlabIndex.first_of.Goals as goal

pub least_at-requires-clause-place : goal.least_at-requires-clause-place
least_at-requires-clause-place c =
    let s = c.self.inside in
    omega (arith, slab_inside c.self.invariant c.args.start c.requires.class (sym (class_of_list c.self.view_is c.args.start) ∙ c.requires.is), c.self.invariant.some_size)

pub returns : goal.returns
returns c =
    either c.least_at.result (used_up c.self.view_is c.self.invariant c.args.start) (first_block c.self.view_is c.self.invariant c.args.start) c.least_at.ensures
