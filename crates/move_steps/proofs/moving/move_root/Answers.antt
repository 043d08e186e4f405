use Rattle.std.proofs.Common.{arith}
use Rattle.pmem_lines.specs.Pmem.{words_of}
use Rattle.move_steps.proofs.Stages.{fits, from_place, to_place}
use Rattle.move_steps.proofs.Crashes.{moved_whole, move_step}
use Rattle.move_steps.proofs.moving.move_root.Goals as goal

pub write_entry-requires-clause-entry : goal.write_entry-requires-clause-entry
write_entry-requires-clause-entry g c = fits (words_of (g.P.Pmem.state c.args.device.now)) c.args.line c.args.from c.args.to c.args.at c.requires.movable c.requires.line

pub put_root-requires-clause-root : goal.put_root-requires-clause-root
put_root-requires-clause-root g c = (to_place (words_of (g.P.Pmem.state c.args.device.now)) c.args.line c.args.from c.args.to c.args.at c.requires.movable c.requires.line).low

pub put_root-requires-clause-inside : goal.put_root-requires-clause-inside
put_root-requires-clause-inside g c =
    let there = to_place (words_of (g.P.Pmem.state c.args.device.now)) c.args.line c.args.from c.args.to c.args.at c.requires.movable c.requires.line in
    omega (arith, there.inside, c.write_entry.ensures.step.appends.size)

pub put_root-requires-2-clause-root : goal.put_root-requires-2-clause-root
put_root-requires-2-clause-root g c = (from_place (words_of (g.P.Pmem.state c.args.device.now)) c.args.line c.args.from c.args.to c.args.at c.requires.movable c.requires.line).low

pub put_root-requires-2-clause-inside : goal.put_root-requires-2-clause-inside
put_root-requires-2-clause-inside g c =
    let there = from_place (words_of (g.P.Pmem.state c.args.device.now)) c.args.line c.args.from c.args.to c.args.at c.requires.movable c.requires.line in
    omega (arith, there.inside, c.write_entry.ensures.step.appends.size, c.put_root.ensures.step.appends.size)

pub returns-clause-moved : goal.returns-clause-moved
returns-clause-moved g c = moved_whole c.requires.movable c.requires.line c.write_entry.ensures.opens c.put_root.ensures.words c.put_root-2.ensures.words c.close_entry.ensures.closes

pub returns-clause-step : goal.returns-clause-step
returns-clause-step g c =
    move_step c.requires.movable c.requires.line c.write_entry.ensures.opens c.put_root.ensures.words c.put_root-2.ensures.words c.close_entry.ensures.closes
    c.write_entry.ensures.step c.put_root.ensures.step c.put_root-2.ensures.step c.close_entry.ensures.step
