use Rattle.std.proofs.Common.{arith}
use Rattle.slab_index.proofs.Firsts.{Available, has_first, below_class}
use Rattle.slab_index.proofs.Views.{block_if_available}
use Rattle.slab_index.proofs.index.SlabIndex.take_lowest.Goals as goal

pub returns : goal.returns
returns c =
    let block = c.in_ok-start.ensures in
    let start = c.in_ok-start.field-0.start in
    let some = has_first (Available c.args.self.now start) 0 c.args.most c.in_ok-start.field-0.number c.take_some-numbers.result.items c.requires.some (omega arith) block.available c.take_some-numbers.ensures.lowest in
    record {
      lowest = record {
        slab = block.slab;
        lower = block.lower;
        below = λ number available. below_class block.slab (block_if_available c.self.view_is c.self.invariant start number available);
        first = some.first;
        rest = some.rest;
        numbers = some.are;
        lowest = some.lowest;
      };
      taken = c.take_some-numbers.ensures.taken;
    }
