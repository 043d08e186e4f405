use Rattle.std.proofs.Common.{arith, ◌++◌}
use Rattle.pmem_lines.specs.Pmem.{words_of}
use Rattle.pmem_lines.proofs.Steps.{step_by, step_then}
use Rattle.image_tables.proofs.Stores.{granules_in-off_log}
use Rattle.book_log.specs.Book.{append_events}
use Rattle.log_room.specs.Room.{room_events}
use Rattle.log_steps.specs.Events.{log_events}
use Rattle.log_steps.specs.Log.{IsLogged, IsLoggedOrNot}
use Rattle.log_steps.proofs.Entries.{events_of_entry, off_log, logged_then, made_or_not, logged_or_not}
use Rattle.gc_steps.proofs.Entries.{room_once}
use Rattle.gc_steps.proofs.entry.log_entry.Goals as goal

pub returns-clause-logged : goal.returns-clause-logged
returns-clause-logged g c = logged_then c.requires.book.granules c.make_room.ensures.keeps c.append.ensures.place _ c.append.ensures.words (grind arith) c.append.ensures.extents

pub returns-clause-book : goal.returns-clause-book
returns-clause-book g c =
    let state = g.P.Pmem.state in
    let logged : IsLogged (words_of (state c.args.device.now)) c.args.entry (words_of (state c.append.new.p)) = returns-clause-logged g c in
    grind (arith, granules_in-off_log, off_log)

pub returns-clause-step : goal.returns-clause-step
returns-clause-step g c =
    let words = words_of (g.P.Pmem.state c.args.device.now) in
    let made = words_of (g.P.Pmem.state c.make_room.new.p) in
    let room = c.make_room.ensures in
    let same = c.requires.book.granules in
    let entry = append_events c.make_room.new.log made c.args.entry in
    step_by (room_events c.args.log.now.granules words ++ entry) (log_events words c.args.entry)
    (events_of_entry c.args.log.now c.make_room.new.log words made c.args.entry same room.step.appends.words room.reads room.room)
    (step_then (IsLoggedOrNot words c.args.entry) (λ ws. entry) room.step c.append.ensures.step (made_or_not c.args.log.now.granules words c.args.entry same) (λ image left. logged_or_not same room.keeps c.append.ensures.place image (grind arith)))

pub returns-clause-once : goal.returns-clause-once
returns-clause-once g c =
    let state = g.P.Pmem.state in
    let room = c.make_room.ensures in
    let once = room_once c.args.log.now (words_of (state c.args.device.now)) (words_of (state c.make_room.new.p)) (words_of (state c.append.new.p)) c.requires.formed c.requires.book c.requires.disjoint room.step.appends.words c.append.ensures.version c.append.ensures.chunks in
    omega (arith, once, room.step.appends.count, c.append.ensures.step.appends.count)
