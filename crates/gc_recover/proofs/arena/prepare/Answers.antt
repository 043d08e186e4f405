use Rattle.std.proofs.Common.{arith}
use Rattle.gc_heap.proofs.Sizes.{first_sizes}
use Rattle.gc_recover.proofs.arena.prepare.Goals as goal

pub new-requires-clause-most : goal.new-requires-clause-most
new-requires-clause-most c =
    let image = c.in_ok-image.ensures.image in
    omega (arith, c.granules.ensures.granules, image.book.granules, (first_sizes c.args.words.now image.sound.formed).most)
