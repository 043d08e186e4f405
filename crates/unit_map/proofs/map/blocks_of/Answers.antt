use Rattle.std.proofs.Common.{◌/◌, refl, sym, ap, ◌∙◌, arith}
use Rattle.unit_map.proofs.Views.{blocks_within}
use Rattle.unit_map.proofs.map.blocks_of.Goals as goal

pub returns : goal.returns
returns c =
    let size = c.size_of_class.result in
    let spaced = c.size_of_class.ensures.spaced in
    record {
      first = refl;
      units = omega (arith, c.size_of_class.ensures.size, spaced.aligned);
      some = omega (arith, spaced.least);
      count = c.capacity.ensures.count;
      within = blocks_within size (size / 16) c.capacity.result c.args.start (omega (arith, spaced.aligned)) (c.capacity.ensures.count ∙ ap (λ n. 63488 / n) (sym c.size_of_class.ensures.size));
    }
