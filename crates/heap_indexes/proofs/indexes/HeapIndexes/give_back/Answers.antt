use Rattle.std.proofs.Common.{◌/◌, Some, ap, ◌∙◌, arith}
use Rattle.heap_model.specs.Machine.{Range}
use Rattle.thread_cache.specs.Stacks.{stacks_of}
use Rattle.block_supply.specs.Supply.{Supply}
use Rattle.heap_indexes.proofs.Freed.{whole_range}
use Rattle.heap_indexes.proofs.Settled.{settled_large}
use Rattle.heap_indexes.proofs.indexes.HeapIndexes.give_back.Goals as goal

pub give_large-requires-clause-live : goal.give_large-requires-clause-live
give_large-requires-clause-live c =
    let live = c.requires.live in
    let whole = whole_range live.apart live.root (record { at = c.args.at; size = c.args.size }) live.named c.if-size-gt-LARGEST_SMALL.true in
    record { bounds = live.bounds; machine = live.machine; root = live.root; apart = live.apart; are = live.are; named = live.named ∙ ap Some whole }

pub give_large-requires-clause-many : goal.give_large-requires-clause-many
give_large-requires-clause-many c =
    let live = c.requires.live in
    let whole = live.apart.large live.root (record { at = c.args.at; size = c.args.size }) live.named c.if-size-gt-LARGEST_SMALL.true in
    omega (arith, whole.size, c.if-size-gt-LARGEST_SMALL.true)

pub returns-then-size-gt-LARGEST_SMALL : goal.returns-then-size-gt-LARGEST_SMALL
returns-then-size-gt-LARGEST_SMALL c b m root apart are named =
    let range : Range = record { at = c.args.at; size = c.args.size } in
    let whole = whole_range apart root range named c.if-size-gt-LARGEST_SMALL.true in
    settled_large apart are root range named c.args.seat c.give_large.new.self (c.args.at / 16384) c.if-size-gt-LARGEST_SMALL.true (ap (λ (r : Range). r.at) whole) (c.give_large.ensures.loosened b m root apart are (named ∙ ap Some whole)) (ap (λ (s : Supply). stacks_of s.stacks) c.give_large.ensures.supply)
