use Rattle.std.proofs.Common.{◌∙◌, sym, subst, arith}
use Rattle.heap_indexes.specs.Fitting.{IsFirstReady}
use Rattle.heap_indexes.specs.Indexes.{Indexes, HaveState}
use Rattle.heap_indexes.proofs.Placed.{changed_indexes, changed_by}
use Rattle.heap_indexes.proofs.Supplies.{clear_granules}
use Rattle.heap_indexes.proofs.indexes.HeapIndexes.change_class.Goals as goal

pub remove-requires : goal.remove-requires
remove-requires c =
    let state = subst HaveState (sym c.self.view_is) c.requires.state in
    let ready = subst (λ (x : Indexes). IsFirstReady x.lives x.units c.args.class c.args.start) (sym c.self.view_is) c.requires.ready in
    record { class = ready.is.own; is = state.are.supply.classes c.args.start ∙ ((state.are.lives.normal c.args.start ready.is.own).0 ready.is.slab).0 }

pub used_blocks-used-requires-clause-inside : goal.used_blocks-used-requires-clause-inside
used_blocks-used-requires-clause-inside c =
    let state = subst HaveState (sym c.self.view_is) c.requires.state in
    let ready = subst (λ (x : Indexes). IsFirstReady x.lives x.units c.args.class c.args.start) (sym c.self.view_is) c.requires.ready in
    omega (arith, (state.apart.slabs c.args.start ready.is.own ((state.are.lives.normal c.args.start ready.is.own).0 ready.is.slab).0).1, state.are.sized.units)

pub add_used-requires-clause-inside : goal.add_used-requires-clause-inside
add_used-requires-clause-inside c =
    let state = subst HaveState (sym c.self.view_is) c.requires.state in
    let ready = subst (λ (x : Indexes). IsFirstReady x.lives x.units c.args.class c.args.start) (sym c.self.view_is) c.requires.ready in
    omega (arith, (state.apart.slabs c.args.start ready.is.own ((state.are.lives.normal c.args.start ready.is.own).0 ready.is.slab).0).1, state.are.sized.slabs, c.remove.ensures.granules)

pub add_used-requires-clause-clear : goal.add_used-requires-clause-clear
add_used-requires-clause-clear c =
    let state = subst HaveState (sym c.self.view_is) c.requires.state in
    let ready = subst (λ (x : Indexes). IsFirstReady x.lives x.units c.args.class c.args.start) (sym c.self.view_is) c.requires.ready in
    clear_granules c.self.inside.supply c.remove.new.self c.args.start ready.is.own state.apart ((state.are.lives.normal c.args.start ready.is.own).0 ready.is.slab).0 state.are.supply c.remove.ensures

pub put-requires : goal.put-requires
put-requires c =
    let state = subst HaveState (sym c.self.view_is) c.requires.state in
    let ready = subst (λ (x : Indexes). IsFirstReady x.lives x.units c.args.class c.args.start) (sym c.self.view_is) c.requires.ready in
    omega (arith, (state.apart.slabs c.args.start ready.is.own ((state.are.lives.normal c.args.start ready.is.own).0 ready.is.slab).0).1, state.are.sized.strangers)

pub put_class-requires-clause-inside : goal.put_class-requires-clause-inside
put_class-requires-clause-inside c =
    let state = subst HaveState (sym c.self.view_is) c.requires.state in
    let ready = subst (λ (x : Indexes). IsFirstReady x.lives x.units c.args.class c.args.start) (sym c.self.view_is) c.requires.ready in
    omega (arith, (state.apart.slabs c.args.start ready.is.own ((state.are.lives.normal c.args.start ready.is.own).0 ready.is.slab).0).1, state.are.sized.counts)

pub returns-clause-supplied : goal.returns-clause-supplied
returns-clause-supplied c =
    rw (sym c.self.view_is) (changed_by c.self.inside.units c.self.inside.supply c.remove.new.self c.add_used.new.self c.args.start c.args.class c.used_blocks-used.result c.remove.ensures c.add_used.ensures c.used_blocks-used.ensures.blocks)

pub returns-clause-indexes : goal.returns-clause-indexes
returns-clause-indexes c =
    let ready = subst (λ (x : Indexes). IsFirstReady x.lives x.units c.args.class c.args.start) (sym c.self.view_is) c.requires.ready in
    let changed = changed_by c.self.inside.units c.self.inside.supply c.remove.new.self c.add_used.new.self c.args.start c.args.class c.used_blocks-used.result c.remove.ensures c.add_used.ensures c.used_blocks-used.ensures.blocks in
    rw (sym c.self.view_is) (λ b m apart are. changed_indexes apart are c.add_used.new.self c.put_class.new.lives c.put.new.self c.args.start c.args.class c.at-live.result c.requires.class ready changed c.at-live.ensures c.put_class.ensures.counts c.put_class.ensures.unfit c.put_class.ensures.normal c.put.ensures.size c.put.ensures.counts)
