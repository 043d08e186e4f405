use Rattle.std.proofs.Common.{◌+◌, Some, sym, subst}
use Rattle.arena_core.proofs.Common.{words_of, start_of, IsReadBelow, slab_is}
use Rattle.image_tables.specs.declared.extent.Extent.TheVariants as extent
use Rattle.arena_core.proofs.AdoptedExtents.{next_large, next_slab, next_row, next_fresh, next_clear, IsReadBelow-large, IsReadBelow-slab}
use Rattle.arena_core.proofs.adopting.read_extent.Goals as goal

pub take-requires : goal.take-requires
take-requires g c = next_row c.requires.exact (next_large c.in-Large.is c.requires.next)

pub take-requires-in-Slab : goal.take-requires-in-Slab
take-requires-in-Slab g c = next_row c.requires.exact (next_slab c.in-Slab.is c.requires.next)

pub read_slab-requires : goal.read_slab-requires
read_slab-requires g c =
    let next = next_slab c.in-Slab.is c.requires.next in
    let slab = slab_is (words_of (g.P.Pmem.state c.args.device.now)) c.in-Slab.start (Some extent.Slab) next.live in
    record { exact = c.requires.exact; slab = slab; granules = next.read.slab_granules; fresh = next_fresh c.requires.exact next; clear = next_clear c.requires.exact next slab }

pub returns-in-Large-clause-read : goal.returns-in-Large-clause-read
returns-in-Large-clause-read g c =
    subst (λ e. IsReadBelow (words_of (g.P.Pmem.state c.args.device.now)) c.take.new.self c.args.supply.now (start_of e + 1)) (sym c.in-Large.is)
    (IsReadBelow-large (next_large c.in-Large.is c.requires.next) c.take.ensures.granules c.take.ensures.free)

pub returns-in-Slab-clause-read : goal.returns-in-Slab-clause-read
returns-in-Slab-clause-read g c =
    subst (λ e. IsReadBelow (words_of (g.P.Pmem.state c.args.device.now)) c.take-in-Slab.new.self c.read_slab.new.supply (start_of e + 1)) (sym c.in-Slab.is)
    (IsReadBelow-slab (next_slab c.in-Slab.is c.requires.next) c.take-in-Slab.ensures.granules c.take-in-Slab.ensures.free c.read_slab.ensures.slab)
