use Rattle.std.proofs.Common.{◌≡◌, arith}
use Rattle.attach_steps.proofs.Common.{words_of, tables_of, slab_table}
use Rattle.image_tables.proofs.Tables.{number_table}
use Rattle.attach_steps.proofs.Stages.{inside}
use Rattle.attach_steps.proofs.OldBlocks.{place_low, IsSite-old, detached_old, detach_old_step}
use Rattle.attach_steps.proofs.old.detach_old.Given as given
use Rattle.attach_steps.proofs.old.detach_old.Goals as goal

pub bury-requires-clause-inside : goal.bury-requires-clause-inside
bury-requires-clause-inside g c =
    inside (IsSite-old c.requires.detachable c.requires.line) c.requires.line (words_of (g.P.Pmem.state c.write_entry.new.device)) c.write_entry.ensures.step.appends.size

-- what is read of the entry is its number
number : (g : given.Over) (c : goal.After-close_entry g) → c.old_number-number.result ≡ ((tables_of (words_of (g.P.Pmem.state c.args.p.now))).header c.args.block.start).number c.args.block.place
number g c = grind (arith, slab_table, number_table, place_low)

pub returns-clause-detached : goal.returns-clause-detached
returns-clause-detached g c =
    detached_old c.requires.detachable c.requires.line c.write_entry.ensures.opens c.write_entry.ensures.step.appends.size (grind (arith, number)) (grind (arith, number)) c.close_entry.ensures.closes

pub returns-clause-step : goal.returns-clause-step
returns-clause-step g c =
    detach_old_step c.requires.detachable c.requires.line c.write_entry.ensures.opens c.write_entry.ensures.step.appends.size (grind (arith, number)) (grind (arith, number)) c.close_entry.ensures.closes
    c.write_entry.ensures.step (grind (arith, number)) c.close_entry.ensures.step
