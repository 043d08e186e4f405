use Rattle.std.proofs.Common.{◌≡◌, ◌-◌, ◌∙◌, ap, arith}
use Rattle.nvheap.proofs.Common.{risen, image_of}
use Rattle.nvheap.proofs.Recoveries.{answers_by, unsound_of_pool}
use Rattle.nvheap.proofs.recovering.recover_pool.Goals as goal

pub returns-in-Ok-recover_from-clause-answer : goal.returns-in-Ok-recover_from-clause-answer
returns-in-Ok-recover_from-clause-answer g c image are =
    let header = c.in-Ok in
    let words = c.args.words.now in
    answers_by image words c.new-text.result.items c.recover_from.new.text.items (image_of image words c.args.bytes header.header are header.ensures.whole header.ensures.pool)
    (g.H.Shelf.places c.args.shelf.now) (g.H.Shelf.places c.recover_from.new.shelf) c.new-text.ensures.items c.in-Ok-recover_from.ensures.text c.in-Ok-recover_from.ensures.recovered

pub returns-in-Ok-recover_from-clause-images : goal.returns-in-Ok-recover_from-clause-images
returns-in-Ok-recover_from-clause-images g c image are =
    let header = c.in-Ok in
    let words = c.args.words.now in
    let all : header.header.arenas - 0 ≡ header.header.arenas = omega arith in
    (words, image_of image words c.args.bytes header.header are header.ensures.whole header.ensures.pool, c.in-Ok-recover_from.ensures.images ∙ ap (risen (g.H.Shelf.images c.args.shelf.now)) all)

pub returns-in-Err-recover_from-clause-defect : goal.returns-in-Err-recover_from-clause-defect
returns-in-Err-recover_from-clause-defect g c image are =
    let header = c.in-Ok in
    let words = c.args.words.now in
    unsound_of_pool image words (image_of image words c.args.bytes header.header are header.ensures.whole header.ensures.pool) c.in-Err-recover_from.fault c.in-Err-recover_from.ensures.unsound
