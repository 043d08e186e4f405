use Rattle.std.proofs.Common.{arith}
use Rattle.pmem_lines.specs.Pmem.{words_of}
use Rattle.book_log.proofs.Places.{within_heap}
use Rattle.heap_check.proofs.Sizes.{sizes_of, heap_inside}
use Rattle.pool_migrate.proofs.Made.{made_of}
use Rattle.pool_migrate.proofs.migrating.exact_device.Goals as goal

pub new-requires-clause-least : goal.new-requires-clause-least
new-requires-clause-least c = omega (arith, c.requires.granules, (sizes_of c.args.words.now c.requires.image.formed).least)

pub new-requires-clause-most : goal.new-requires-clause-most
new-requires-clause-most c = omega (arith, c.requires.granules, (sizes_of c.args.words.now c.requires.image.formed).most)

pub load_words-requires-clause-inside : goal.load_words-requires-clause-inside
load_words-requires-clause-inside c = within_heap c.args.words.now (heap_inside c.args.words.now c.requires.image.formed)

pub returns : goal.returns
returns c =
    made_of c.args.words.now (words_of c.make_exact.new.p) c.requires.image c.requires.version c.make_exact.ensures.exact (rw (c.begin.ensures.state, c.in_ok-device.ensures) at c.make_exact.ensures.heap) (rw (c.begin.ensures.state, c.in_ok-device.ensures) at c.make_exact.ensures.left)
