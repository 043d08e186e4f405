use Rattle.std.proofs.Common.{◌≡◌, ◌*◌, replicate}
use Rattle.unit_map.proofs.Views.{none_used}
use Rattle.unit_map.proofs.map.UnitMap.new.Goals as goal

pub returns-clause-none : goal.returns-clause-none
returns-clause-none c =
    let words : c.in_ok-words.words.items ≡ replicate (16 * c.args.granules) 0 = c.in_ok-words.ensures.items_if_clones_equal (λ y h. h) in
    λ k. rw words (none_used (16 * c.args.granules) k)
