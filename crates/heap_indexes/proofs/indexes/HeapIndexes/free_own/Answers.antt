use Rattle.std.proofs.Common.{◌≡◌, Some, sym, subst, ◌∙◌}
use Rattle.heap_model.specs.Machine.{slab_block}
use Rattle.slab_index.specs.SlabSet.{class_in}
use Rattle.heap_indexes.specs.Indexes.{Indexes}
use Rattle.heap_indexes.specs.Steps.{HasLive}
use Rattle.heap_indexes.proofs.Freed.{own_counted, own_used, own_back}
use Rattle.heap_indexes.proofs.indexes.HeapIndexes.free_own.Goals as goal

pub lower-requires-clause-some : goal.lower-requires-clause-some
lower-requires-clause-some c =
    let live = subst (λ (x : Indexes). HasLive x (slab_block c.args.block.start c.args.class c.args.block.number)) (sym c.self.view_is) c.requires.live in
    let slab = subst (λ (x : Indexes). class_in x.supply.slabs c.args.block.start ≡ Some c.args.class) (sym c.self.view_is) c.requires.slab in
    own_counted live.apart live.are live.root c.args.block.start c.args.class c.args.block.number live.named (sym (live.are.supply.classes c.args.block.start) ∙ slab) c.requires.within

pub put_back-requires-clause-used : goal.put_back-requires-clause-used
put_back-requires-clause-used c =
    let live = subst (λ (x : Indexes). HasLive x (slab_block c.args.block.start c.args.class c.args.block.number)) (sym c.self.view_is) c.requires.live in
    let slab = subst (λ (x : Indexes). class_in x.supply.slabs c.args.block.start ≡ Some c.args.class) (sym c.self.view_is) c.requires.slab in
    own_used live.apart live.are live.root c.args.block.start c.args.class c.args.block.number live.named (sym (live.are.supply.classes c.args.block.start) ∙ slab) c.requires.within

pub returns-clause-loosened : goal.returns-clause-loosened
returns-clause-loosened c =
    let slab = subst (λ (x : Indexes). class_in x.supply.slabs c.args.block.start ≡ Some c.args.class) (sym c.self.view_is) c.requires.slab in
    let came = c.put_back.ensures c.args.class slab in
    let cleared = rw (c.address_of-at.ensures, c.size_of_class.ensures.size) at c.clear.ensures in
    rw (sym c.self.view_is) (λ b m root apart are named. own_back apart are root c.args.block.start c.args.class c.args.block.number named (sym (are.supply.classes c.args.block.start) ∙ slab) c.requires.within c.put_back.new.self c.lower.new.self c.clear.new.self came.with_block cleared c.lower.ensures.size c.lower.ensures.unfit c.lower.ensures.counts c.lower.ensures.normal)
