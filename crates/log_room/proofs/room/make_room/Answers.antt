use Rattle.std.proofs.Common.{sym, subst, refl, ◌∙◌}
use Rattle.log_room.proofs.Common.{words_of, HasLog, HasFreeEntry, AreWithin}
use Rattle.pmem_lines.proofs.Steps.{step_of}
use Rattle.log_room.specs.Room.{KeepsLog}
use Rattle.log_room.proofs.Ways.{arena_log}
use Rattle.log_room.proofs.Making.{same_version, made, space_free, next_some, way_nothing}
use Rattle.log_room.proofs.Booked.{none_step, no_space}
use Rattle.log_room.proofs.room.make_room.Goals as goal

pub returns-then-has_room-clause-answer : goal.returns-then-has_room-clause-answer
returns-then-has_room-clause-answer g c =
    let words = words_of (g.P.Pmem.state c.args.p.now) in
    sym (way_nothing c.args.log.now.granules words (space_free c.args.log.now.granules words c.requires.reads.log ((c.if-has_room.ensures.reads words c.requires.reads).0 refl)))

pub returns-then-has_room-clause-step : goal.returns-then-has_room-clause-step
returns-then-has_room-clause-step g c =
    let words = words_of (g.P.Pmem.state c.args.p.now) in
    let granules = c.args.log.now.granules in
    none_step granules c.requires.quiet c.requires.reads.log (space_free granules words c.requires.reads.log ((c.if-has_room.ensures.reads words c.requires.reads).0 refl))

pub choose_way-way-requires-clause-full : goal.choose_way-way-requires-clause-full
choose_way-way-requires-clause-full g c =
    let words = words_of (g.P.Pmem.state c.args.p.now) in
    no_space c.args.log.now.granules words c.requires.reads.log (λ free. let never = (c.if-has_room.ensures.reads words c.requires.reads).1 free in absurd (cc))

pub load_next-requires-clause-log : goal.load_next-requires-clause-log
load_next-requires-clause-log g c =
    let room = made (arena_log c.requires.reads.log c.requires.inside c.requires.few) c.requires.disjoint in
    subst (HasLog c.args.log.now.granules) (sym c.take_way.ensures.words) room.keeps.log

pub load_next-requires-clause-inside : goal.load_next-requires-clause-inside
load_next-requires-clause-inside g c =
    let room = made (arena_log c.requires.reads.log c.requires.inside c.requires.few) c.requires.disjoint in
    subst AreWithin (sym c.take_way.ensures.words) room.within

pub returns-clause-keeps : goal.returns-clause-keeps
returns-clause-keeps g c =
    let room = made (arena_log c.requires.reads.log c.requires.inside c.requires.few) c.requires.disjoint in
    subst (KeepsLog c.args.log.now.granules (words_of (g.P.Pmem.state c.args.p.now))) (sym c.take_way.ensures.words) room.keeps

pub load_next-requires-clause-live : goal.load_next-requires-clause-live
load_next-requires-clause-live g c start =
    let room = made (arena_log c.requires.reads.log c.requires.inside c.requires.few) c.requires.disjoint in
    c.requires.reads.live start ∙ sym ((subst (KeepsLog c.args.log.now.granules (words_of (g.P.Pmem.state c.args.p.now))) (sym c.take_way.ensures.words) room.keeps).extents start)

pub returns-clause-room : goal.returns-clause-room
returns-clause-room g c =
    let room = made (arena_log c.requires.reads.log c.requires.inside c.requires.few) c.requires.disjoint in
    next_some c.load_next.new.self (words_of (g.P.Pmem.state c.take_way.new.p)) c.load_next.ensures.reads (subst HasFreeEntry (sym c.take_way.ensures.words) room.free)

pub returns-clause-version : goal.returns-clause-version
returns-clause-version g c =
    same_version c.args.log.now.granules (words_of (g.P.Pmem.state c.args.p.now)) (words_of (g.P.Pmem.state c.take_way.new.p)) (returns-clause-keeps g c)

pub returns-clause-step : goal.returns-clause-step
returns-clause-step g c =
    let room = made (arena_log c.requires.reads.log c.requires.inside c.requires.few) c.requires.disjoint in
    step_of c.take_way.ensures room.quiet c.requires.quiet room.crash
