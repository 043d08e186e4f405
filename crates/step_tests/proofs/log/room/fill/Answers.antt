use Rattle.std.proofs.Common.{◌≡◌, ◌*◌, length, ap, ◌∙◌, arith}
use Rattle.step_tests.proofs.Common.{PmemState, words_of, Layout, layout_of, version_in, extent_at, within_heap, HasLog-fresh}
use Rattle.step_tests.proofs.Evens.{even_none, even_more, even_same}
use Rattle.step_tests.proofs.Filling.{log_size, begun_most}
use Rattle.step_tests.proofs.Fresh.{IsFreshOf, fresh_by, fresh_none}
use Rattle.step_tests.proofs.log.room.fill.Goals as goal
use Rattle.step_tests.proofs.log.room.fill.Goals.{After-write_word-2}

-- the device has the words before the heap
sized : (c : After-write_word-2) → length (words_of c.write_word-2.new.device) ≡ 2048 * (layout_of c.args.version).first_granule
sized c =
    omega (arith, c.requires.zeroed.size, c.write_word.ensures.appends.size, c.write_word-2.ensures.appends.size, ap (λ (row : Layout). row.first_granule) c.requires.row)

-- its log has no entry
fresh : (c : After-write_word-2) → IsFreshOf c.args.version (words_of c.write_word-2.new.device)
fresh c =
    fresh_by c.requires.zeroed.zero (omega (arith, c.requires.zeroed.size, c.requires.rules.first)) c.from.ensures (omega (arith, c.ranges.version.fits))
    c.fields_at.ensures c.write_word.ensures.appends.words c.directory_at.ensures c.write_word-2.ensures.appends.words

pub load-requires-clause-log : goal.load-requires-clause-log
load-requires-clause-log c = HasLog-fresh c.args.log.now.granules (words_of c.write_word-2.new.device) (fresh (goal.at.load-requires-clause-log c).After-write_word-2).fresh

pub load-requires-clause-inside : goal.load-requires-clause-inside
load-requires-clause-inside c =
    let before = (goal.at.load-requires-clause-inside c).After-write_word-2 in
    within_heap (words_of c.write_word-2.new.device) (omega (arith, sized before, ap (λ v. (layout_of v).first_granule) (fresh before).version_is))

pub loop-i-init : goal.loop-i-init
loop-i-init c =
    let before = (goal.at.loop-i-init c).After-write_word-2 in
    record {
      reads = c.load.ensures.reads;
      even = even_none (extent_at (words_of c.write_word-2.new.device)) (λ start. fresh_none (words_of c.write_word-2.new.device) start (fresh before).fresh);
      quiet = c.write_word-2.ensures.quiet;
      version_is = (fresh before).version_is;
      size = sized before;
      room = c.write_word-2.ensures.appends.room ∙ c.write_word.ensures.appends.room ∙ ap (λ (s : PmemState). s.room) c.requires.zeroed.state ∙ ap (λ (r : Layout). r.entry_events) c.requires.row;
      granules = c.load.ensures.granules ∙ c.requires.granules ∙ ap (λ (r : Layout). r.most_granules) c.requires.row;
    }

pub make_room-made-requires-clause-left : goal.make_room-made-requires-clause-left
make_room-made-requires-clause-left c = let most = begun_most c.loop-i.invariant c.begin.ensures.state in omega (arith, most.0, most.1)

pub append-requires-clause-valid : goal.append-requires-clause-valid
append-requires-clause-valid c =
    let heap = (log_size (version_in (words_of c.make_room-made.new.p))).0 in
    (omega (arith, c.start.ensures.low, heap), omega arith, omega (arith, c.start.ensures.high, c.make_room-made.ensures.granules, c.loop-i.invariant.granules, (log_size c.args.version).1))

pub append-requires-clause-left : goal.append-requires-clause-left
append-requires-clause-left c =
    let most = begun_most c.loop-i.invariant c.begin.ensures.state in
    omega (arith, most.0, most.1, c.make_room-made.ensures.step.appends.count, c.make_room-made.ensures.step.appends.room)

pub loop-i-preserved : goal.loop-i-preserved
loop-i-preserved c =
    let old = words_of c.loop-i.device in
    let same : words_of c.begin.new.self ≡ old = ap (λ (s : PmemState). words_of s) c.begin.ensures.state in
    let made = words_of c.make_room-made.new.p in
    let kept = even_same (extent_at old) (extent_at made) c.loop-i.invariant.even (λ start. c.make_room-made.ensures.keeps.extents start ∙ ap (λ ws. extent_at ws start) same) in
    record {
      reads = c.append.ensures.reads;
      even = even_more (extent_at made) (extent_at (words_of c.append.new.p)) c.start.result kept c.start.ensures.even c.append.ensures.extents;
      quiet = c.append.ensures.step.quiet;
      version_is = c.append.ensures.version ∙ c.make_room-made.ensures.version ∙ ap (λ ws. version_in ws) same ∙ c.loop-i.invariant.version_is;
      size = c.append.ensures.step.appends.size ∙ c.make_room-made.ensures.step.appends.size ∙ c.begin.ensures.size ∙ c.loop-i.invariant.size;
      room = c.append.ensures.step.appends.room ∙ c.make_room-made.ensures.step.appends.room ∙ ap (λ (s : PmemState). s.room) c.begin.ensures.state ∙ c.loop-i.invariant.room;
      granules = c.append.ensures.granules ∙ c.make_room-made.ensures.granules ∙ c.loop-i.invariant.granules;
    }
