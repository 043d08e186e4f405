use Rattle.std.proofs.Common.{◌≤◌, ◌∙◌, refl, arith}
use Rattle.step_tests.proofs.Common.{words_of, layout_of, version_in, within_heap, HasLog-fresh}
use Rattle.step_tests.proofs.Fresh.{IsFreshOf, fresh_by, first_heap}
use Rattle.step_tests.proofs.log.append_to_one_start.Given as given
use Rattle.step_tests.proofs.log.append_to_one_start.Goals as goal
use Rattle.step_tests.proofs.log.append_to_one_start.Goals.{After-write_word-2}

-- the log has no entry yet
fresh : (g : given.Over) (c : After-write_word-2 g) → IsFreshOf 1 (words_of c.write_word-2.new.device)
fresh g c =
    let made = c.requires.zeroed in
    fresh_by made.zero (omega (arith, made.size)) refl (omega arith) c.fields_at.ensures c.write_word.ensures.appends.words c.directory_at.ensures c.write_word-2.ensures.appends.words

pub load-requires-clause-log : goal.load-requires-clause-log
load-requires-clause-log g c = HasLog-fresh c.args.log.now.granules (words_of c.write_word-2.new.device) (fresh g (goal.at.load-requires-clause-log g c).After-write_word-2).fresh

pub load-requires-clause-inside : goal.load-requires-clause-inside
load-requires-clause-inside g c =
    let heap = first_heap (fresh g (goal.at.load-requires-clause-inside g c).After-write_word-2).version_is in
    within_heap (words_of c.write_word-2.new.device) (omega (arith, heap, c.requires.zeroed.size, c.write_word.ensures.appends.size, c.write_word-2.ensures.appends.size))

pub append-requires-clause-valid : goal.append-requires-clause-valid
append-requires-clause-valid g c =
    let size = c.requires.granules in
    let version = (fresh g (goal.at.append-requires-clause-valid g c).After-write_word-2).version_is in
    let low : (layout_of (version_in (words_of c.write_word-2.new.device))).first_granule ≤ 6 = omega (arith, first_heap version) in
    (low, omega arith, omega (arith, size, c.load.ensures.granules))

pub append-requires-2-clause-valid : goal.append-requires-2-clause-valid
append-requires-2-clause-valid g c =
    let size = c.requires.granules in
    let version = c.append.ensures.version ∙ (fresh g (goal.at.append-requires-2-clause-valid g c).After-write_word-2).version_is in
    let low : (layout_of (version_in (words_of c.append.new.p))).first_granule ≤ 6 = omega (arith, first_heap version) in
    (low, omega (arith, size, c.load.ensures.granules, c.append.ensures.granules))

pub append-requires-3-clause-valid : goal.append-requires-3-clause-valid
append-requires-3-clause-valid g c =
    let size = c.requires.granules in
    let version = c.append-2.ensures.version ∙ c.append.ensures.version ∙ (fresh g (goal.at.append-requires-3-clause-valid g c).After-write_word-2).version_is in
    let low : (layout_of (version_in (words_of c.append-2.new.p))).first_granule ≤ 6 = omega (arith, first_heap version) in
    (low, omega (arith, size, c.load.ensures.granules, c.append.ensures.granules, c.append-2.ensures.granules))
