use Rattle.std.proofs.Common.{◌≡◌, ◌+◌, ◌-◌, ◌/◌, min, sym, subst, ◌∙◌, arith}
use Rattle.std.specs.Int.{div_ceil}
use Rattle.size_classes.specs.Classes.{class_capacity}
use Rattle.heap_indexes.specs.Kept.{IsCovered}
use Rattle.heap_indexes.proofs.Covers.{covered}
use Rattle.heap_indexes.proofs.covered.covered_by.Goals as goal

pub returns : goal.returns
returns c =
    let off = c.args.at - c.blocks_from.result in
    let width = c.size_of_class-width.result in
    let end : c.min.result ≡ min (div_ceil (off + c.args.size) width) (class_capacity c.args.slab.class) = c.min.ensures ∙ (λ i. min (c.div_ceil.ensures i) (c.capacity.ensures.count i)) in
    subst (IsCovered c.args.slab.start c.args.slab.class (record { at = c.args.at; size = c.args.size }) (off / width)) (sym end)
    (covered c.args.slab.start c.args.slab.class off width (record { at = c.args.at; size = c.args.size }) c.requires.class c.size_of_class-width.ensures.size (omega (arith, c.blocks_from.ensures, c.requires.range.low)))
