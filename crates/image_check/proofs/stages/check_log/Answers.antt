use Rattle.std.proofs.Common.{arith}
use Rattle.pool_layout.specs.Header.{version_in}
use Rattle.image_check.proofs.Premises.{log_inside, entries_small}
use Rattle.image_check.proofs.stages.check_log.Goals as goal

pub bad_entry-requires-clause-inside : goal.bad_entry-requires-clause-inside
bad_entry-requires-clause-inside c = log_inside c.args.words.now c.requires.header c.requires.size

pub overflow_cast-result-in-Some-bad_entry : goal.overflow_cast-result-in-Some-bad_entry
overflow_cast-result-in-Some-bad_entry c = omega (arith, entries_small (version_in c.args.words.now) c.in-Some-bad_entry.place.entry c.in-Some-bad_entry.ensures.first.here.below)
