use Rattle.std.proofs.Common.{◌/◌, sym, subst, ◌∙◌}
use Rattle.slab_index.specs.SlabSet.{class_in}
use Rattle.thread_cache.specs.Stacks.{stacks_of}
use Rattle.block_supply.specs.Supply.{IsInSlabOf}
use Rattle.heap_indexes.specs.Indexes.{Indexes}
use Rattle.heap_indexes.specs.Steps.{HasLive}
use Rattle.heap_indexes.specs.Kept.{loosened}
use Rattle.heap_indexes.proofs.Machines.{IsOverlapFree-loosened}
use Rattle.heap_indexes.proofs.Freed.{home_of, home_found}
use Rattle.heap_indexes.proofs.Settled.{settled_left, settled_stayed}
use Rattle.heap_indexes.proofs.indexes.HeapIndexes.give_small.Goals as goal

pub unwrap-slab-requires : goal.unwrap-slab-requires
unwrap-slab-requires c =
    let live = subst (λ (x : Indexes). HasLive x (record { at = c.args.at; size = c.args.size })) (sym c.self.view_is) c.requires.live in
    home_found live.apart live.are live.root (record { at = c.args.at; size = c.args.size }) c.slab_with.result live.named c.requires.small c.slab_with.ensures

pub close_empty-requires-clause-state : goal.close_empty-requires-clause-state
close_empty-requires-clause-state c =
    let live = c.requires.live in
    record { bounds = live.bounds; machine = loosened live.machine live.root; apart = IsOverlapFree-loosened live.bounds live.machine live.root live.apart; are = c.free_block.ensures.loosened live.bounds live.machine live.root live.apart live.are live.named }

pub close_empty-requires-clause-slab : goal.close_empty-requires-clause-slab
close_empty-requires-clause-slab c =
    let live = c.requires.live in
    let inside = subst (λ (x : Indexes). IsInSlabOf (class_in x.supply.slabs) (c.args.at / 16384) c.unwrap-slab.result.start c.unwrap-slab.result.class) c.self.view_is (rw c.unwrap-slab.ensures at c.slab_with.ensures) in
    let after = c.free_block.ensures.loosened live.bounds live.machine live.root live.apart live.are live.named in
    record { class = c.unwrap-slab.result.class; is = after.supply.classes c.unwrap-slab.result.start ∙ sym (live.are.supply.classes c.unwrap-slab.result.start) ∙ inside.slab }

pub returns-then-close_empty : goal.returns-then-close_empty
returns-then-close_empty c b m root apart are named =
    let inside = subst (λ (x : Indexes). IsInSlabOf (class_in x.supply.slabs) (c.args.at / 16384) c.unwrap-slab.result.start c.unwrap-slab.result.class) c.self.view_is (rw c.unwrap-slab.ensures at c.slab_with.ensures) in
    let home = home_of apart are root c.unwrap-slab.result.start c.unwrap-slab.result.class (record { at = c.args.at; size = c.args.size }) named c.requires.small inside in
    let tidied = rw c.if-close_empty.true at c.close_empty.ensures in
    let after = tidied.0 b (loosened m root) (IsOverlapFree-loosened b m root apart) (c.free_block.ensures.loosened b m root apart are named) in
    settled_left apart are root (record { at = c.args.at; size = c.args.size }) named c.args.seat c.unwrap-slab.result.start c.unwrap-slab.result.class home c.requires.small c.close_empty.new.self (stacks_of c.free_block.new.self.supply.stacks) after.1 after.0 c.free_block.ensures.stacks tidied.1

pub returns-else-close_empty : goal.returns-else-close_empty
returns-else-close_empty c b m root apart are named =
    let inside = subst (λ (x : Indexes). IsInSlabOf (class_in x.supply.slabs) (c.args.at / 16384) c.unwrap-slab.result.start c.unwrap-slab.result.class) c.self.view_is (rw c.unwrap-slab.ensures at c.slab_with.ensures) in
    let home = home_of apart are root c.unwrap-slab.result.start c.unwrap-slab.result.class (record { at = c.args.at; size = c.args.size }) named c.requires.small inside in
    let tidied = rw c.if-close_empty.false at c.close_empty.ensures in
    let after = c.free_block.ensures.loosened b m root apart are named in
    rw tidied.1 (settled_stayed apart are root (record { at = c.args.at; size = c.args.size }) named c.args.seat c.unwrap-slab.result.start c.unwrap-slab.result.class home c.requires.small c.free_block.new.self after (tidied.0 b (loosened m root) (IsOverlapFree-loosened b m root apart) after) c.free_block.ensures.stacks)
