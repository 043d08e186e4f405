use Rattle.std.proofs.Common.{◌-◌, ◌/◌, sym, subst, ap, arith}
use Rattle.slab_index.specs.SlabSet.{class_in}
use Rattle.block_supply.specs.Supply.{IsInSlabOf}
use Rattle.heap_indexes.specs.Indexes.{Indexes}
use Rattle.heap_indexes.specs.Steps.{HasLive}
use Rattle.heap_indexes.proofs.Freed.{home_of, stranger_noted, stranger_counted, stranger_covers, stranger_back}
use Rattle.heap_indexes.proofs.indexes.HeapIndexes.free_stranger.Goals as goal

pub overflow_sub-left : goal.overflow_sub-left
overflow_sub-left c =
    let live = subst (λ (x : Indexes). HasLive x (record { at = c.args.at; size = c.args.size })) (sym c.self.view_is) c.requires.live in
    let inside = subst (λ (x : Indexes). IsInSlabOf (class_in x.supply.slabs) (c.args.at / 16384) c.args.slab.start c.args.slab.class) (sym c.self.view_is) c.requires.home in
    let home = home_of live.apart live.are live.root c.args.slab.start c.args.slab.class (record { at = c.args.at; size = c.args.size }) live.named c.requires.small inside in
    omega (arith, c.at-left.ensures, stranger_noted live.apart live.are live.root c.args.slab.start c.args.slab.class (record { at = c.args.at; size = c.args.size }) live.named home.slab.slab home.lies c.requires.small c.requires.other)

pub lower-requires-clause-some : goal.lower-requires-clause-some
lower-requires-clause-some c =
    let live = subst (λ (x : Indexes). HasLive x (record { at = c.args.at; size = c.args.size })) (sym c.self.view_is) c.requires.live in
    let inside = subst (λ (x : Indexes). IsInSlabOf (class_in x.supply.slabs) (c.args.at / 16384) c.args.slab.start c.args.slab.class) (sym c.self.view_is) c.requires.home in
    let home = home_of live.apart live.are live.root c.args.slab.start c.args.slab.class (record { at = c.args.at; size = c.args.size }) live.named c.requires.small inside in
    stranger_counted live.apart live.are live.root c.args.slab.start c.args.slab.class (record { at = c.args.at; size = c.args.size }) live.named home.slab.slab home.lies c.requires.small c.requires.other

pub open_covered-requires-clause-range : goal.open_covered-requires-clause-range
open_covered-requires-clause-range c =
    let live = subst (λ (x : Indexes). HasLive x (record { at = c.args.at; size = c.args.size })) (sym c.self.view_is) c.requires.live in
    let inside = subst (λ (x : Indexes). IsInSlabOf (class_in x.supply.slabs) (c.args.at / 16384) c.args.slab.start c.args.slab.class) (sym c.self.view_is) c.requires.home in
    let home = home_of live.apart live.are live.root c.args.slab.start c.args.slab.class (record { at = c.args.at; size = c.args.size }) live.named c.requires.small inside in
    home.behind

pub open_covered-requires-clause-none : goal.open_covered-requires-clause-none
open_covered-requires-clause-none c =
    let live = subst (λ (x : Indexes). HasLive x (record { at = c.args.at; size = c.args.size })) (sym c.self.view_is) c.requires.live in
    let inside = subst (λ (x : Indexes). IsInSlabOf (class_in x.supply.slabs) (c.args.at / 16384) c.args.slab.start c.args.slab.class) (sym c.self.view_is) c.requires.home in
    let home = home_of live.apart live.are live.root c.args.slab.start c.args.slab.class (record { at = c.args.at; size = c.args.size }) live.named c.requires.small inside in
    stranger_covers live.apart live.are live.root c.args.slab.start c.args.slab.class (record { at = c.args.at; size = c.args.size }) live.named home.slab.slab home.lies c.requires.small c.requires.other

pub returns-clause-loosened : goal.returns-clause-loosened
returns-clause-loosened c =
    let inside = subst (λ (x : Indexes). IsInSlabOf (class_in x.supply.slabs) (c.args.at / 16384) c.args.slab.start c.args.slab.class) (sym c.self.view_is) c.requires.home in
    rw (sym c.self.view_is) (λ b m root apart are named.
    let home = home_of apart are root c.args.slab.start c.args.slab.class (record { at = c.args.at; size = c.args.size }) named c.requires.small inside in
    stranger_back apart are root c.args.slab.start c.args.slab.class (record { at = c.args.at; size = c.args.size }) named home.slab.slab home.lies c.requires.small c.requires.other c.open_covered.new.supply c.lower.new.lives c.put.new.self c.clear.new.self (c.at-left.result - 1)
    c.open_covered.ensures c.clear.ensures c.lower.ensures.size c.lower.ensures.unfit c.lower.ensures.counts (ap (λ n. n - 1) c.at-left.ensures) c.lower.ensures.normal c.put.ensures.size c.put.ensures.counts)
