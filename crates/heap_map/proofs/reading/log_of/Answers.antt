use Rattle.std.proofs.Common.{arith}
use Rattle.book_log.proofs.Places.{within_heap}
use Rattle.heap_check.proofs.Sizes.{sizes_of, heap_inside}
use Rattle.heap_map.proofs.reading.log_of.Goals as goal

pub new-requires-clause-least : goal.new-requires-clause-least
new-requires-clause-least c =
    let sizes = sizes_of c.args.words.now c.requires.formed in
    omega (arith, sizes.size, sizes.least)

pub new-requires-clause-most : goal.new-requires-clause-most
new-requires-clause-most c =
    let sizes = sizes_of c.args.words.now c.requires.formed in
    omega (arith, sizes.size, sizes.most)

pub load_words-requires-clause-inside : goal.load_words-requires-clause-inside
load_words-requires-clause-inside c = within_heap c.args.words.now (heap_inside c.args.words.now c.requires.formed)
