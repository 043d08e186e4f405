use Rattle.std.proofs.Common.{◌≤◌, ◌+◌, ◌-◌, List, ℕ, length, ap, arith}
use Rattle.recovery_steps.proofs.Common.{words_of, layout_of, version_in, layout_rules, KeepsHeap, step_end}
use Rattle.recovery_steps.specs.Parts.{IsPart, IsLeft}
use Rattle.recovery_steps.specs.Recovery.{DropsLarge}
use Rattle.recovery_steps.proofs.Chains.{adds_few, all_parts, first_parts}
use Rattle.defect_search.proofs.NoneLoose.{exact_by_none}
use Rattle.recovery_steps.proofs.Arenas.{sound_of}
use Rattle.recovery_steps.proofs.Leaving.{no_large_still, no_empty_still, none_morphing_still, left_version, left_then, left_all, names_left}
use Rattle.recovery_steps.proofs.recovery.make_steady_exact.Goals as goal

-- how many events two entries have in an image to which parts of recovery led
entries_few : {words one : List ℕ} → IsLeft words one → (layout_of (version_in one)).entry_events + (layout_of (version_in one)).roll_events + 82 ≤ (layout_of (version_in words)).recovery_events - 3
entries_few {words} first =
    omega (arith, (layout_rules (version_in words)).recovery, ap (λ v. (layout_of v).entry_events) (left_version first), ap (λ v. (layout_of v).roll_events) (left_version first))

pub settle_open-requires : goal.settle_open-requires
settle_open-requires g c = record { image = c.requires.begins.image; book = c.requires.begins.book; quiet = c.requires.begins.quiet; room = omega (arith, c.requires.begins.room, (layout_rules (version_in (words_of (g.P.Pmem.state c.args.p.now)))).recovery) }

pub finish_morphing-requires : goal.finish_morphing-requires
finish_morphing-requires g c =
    record { image = record { shut = c.settle_open.ensures.left.shut; are = names_left c.args.names.now (words_of (g.P.Pmem.state c.args.p.now)) (words_of (g.P.Pmem.state c.settle_open.new.p)) c.settle_open.ensures.left c.requires.names }; book = c.settle_open.ensures.book; quiet = c.settle_open.ensures.part.step.quiet; room = omega (arith, c.requires.begins.room, (layout_rules (version_in (words_of (g.P.Pmem.state c.args.p.now)))).recovery, adds_few c.settle_open.ensures.part) }

pub drop_loose-requires : goal.drop_loose-requires
drop_loose-requires g c =
    let settled = c.settle_open.ensures in
    let finished = c.finish_morphing.ensures in
    let before = left_then settled.left finished.left.left in
    record { image = record { shut = finished.left.left.shut; are = names_left c.args.names.now (words_of (g.P.Pmem.state c.args.p.now)) (words_of (g.P.Pmem.state c.finish_morphing.new.p)) before c.requires.names }; book = c.finish_morphing.ensures.book; quiet = c.finish_morphing.ensures.part.step.quiet; room = omega (arith, c.requires.begins.room, entries_few before, adds_few settled.part, adds_few finished.part) }

pub drop_empty-requires : goal.drop_empty-requires
drop_empty-requires g c =
    let settled = c.settle_open.ensures in
    let finished = c.finish_morphing.ensures in
    let large = c.drop_loose.ensures.does in
    let before = left_then settled.left finished.left.left in
    record { image = record { shut = large.left.left.shut; are = names_left c.args.names.now (words_of (g.P.Pmem.state c.args.p.now)) (words_of (g.P.Pmem.state c.drop_loose.new.p)) (left_then before large.left.left) c.requires.names }; book = large.book; quiet = large.part.step.quiet; room = omega (arith, c.requires.begins.room, entries_few before, adds_few settled.part, adds_few finished.part, adds_few large.part, c.drop_loose.ensures.once) }

pub end_done-requires : goal.end_done-requires
end_done-requires g c =
    let before = left_then c.settle_open.ensures.left c.finish_morphing.ensures.left.left in
    record { image = record { shut = c.drop_empty.ensures.left.left.shut; are = names_left c.args.names.now (words_of (g.P.Pmem.state c.args.p.now)) (words_of (g.P.Pmem.state c.drop_empty.new.p)) (left_then (left_then before c.drop_loose.ensures.does.left.left) c.drop_empty.ensures.left.left) c.requires.names }; book = c.drop_empty.ensures.book; quiet = c.drop_empty.ensures.part.step.quiet; room = omega (arith, c.requires.begins.room, entries_few before, c.settle_open.ensures.part.step.appends.count, c.settle_open.ensures.part.step.appends.room, c.finish_morphing.ensures.part.step.appends.count, c.finish_morphing.ensures.part.step.appends.room, first_parts c.settle_open.ensures.part c.finish_morphing.ensures.part c.requires.begins.image c.settle_open.ensures.left.slabs, adds_few c.drop_loose.ensures.does.part, adds_few c.drop_empty.ensures.part, c.drop_loose.ensures.once) }

pub returns-clause-part : goal.returns-clause-part
returns-clause-part g c =
    let before = left_then c.settle_open.ensures.left c.finish_morphing.ensures.left.left in
    let large = c.drop_loose.ensures.does.part in
    let exactly : IsPart KeepsHeap (g.P.Pmem.state c.finish_morphing.new.p) (g.P.Pmem.state c.drop_loose.new.p) DropsLarge (length large.events) = record { events = large.events; stores = large.stores; few = omega arith; step = large.step } in
    all_parts ((layout_of (version_in (words_of (g.P.Pmem.state c.args.p.now)))).recovery_events - 3)
    (omega (arith, entries_few before, c.drop_loose.ensures.once, large.step.appends.count))
    c.requires.begins.image c.settle_open.ensures.left.slabs c.settle_open.ensures.part c.finish_morphing.ensures.part exactly c.drop_empty.ensures.part c.end_done.ensures.part

pub returns-clause-heap : goal.returns-clause-heap
returns-clause-heap g c = step_end (returns-clause-part g c).step

pub returns-clause-left : goal.returns-clause-left
returns-clause-left g c = left_all c.settle_open.ensures.left c.finish_morphing.ensures.left c.drop_loose.ensures.does.left c.drop_empty.ensures.left c.end_done.ensures.left

pub returns-clause-exact : goal.returns-clause-exact
returns-clause-exact g c =
    let loose = c.drop_loose.ensures.does.left in
    let empty = c.drop_empty.ensures.left in
    let done = c.end_done.ensures.left in
    let words = words_of (g.P.Pmem.state c.end_done.new.p) in
    let shut = (left_all c.settle_open.ensures.left c.finish_morphing.ensures.left loose empty done).shut in
    exact_by_none words (sound_of words shut.image) shut.closed
    (no_large_still done.loose (no_large_still empty.loose loose.none))
    (no_empty_still done.loose empty.none)
    (none_morphing_still done.loose (none_morphing_still empty.loose (none_morphing_still loose.loose c.finish_morphing.ensures.left.none)))
    done.none
