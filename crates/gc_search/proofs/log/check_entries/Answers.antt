use Rattle.std.proofs.Common.{arith, ap}
use Rattle.pool_layout.specs.declared.header.PoolHeader.{PoolHeader}
use Rattle.pool_layout.specs.Header.{version_in}
use Rattle.gc_search.proofs.Premises.{header_same, header_there, log_inside, entries_small}
use Rattle.gc_search.proofs.log.check_entries.Goals as goal

pub bad_entry-requires-clause-version : goal.bad_entry-requires-clause-version
bad_entry-requires-clause-version c = ap (λ (h : PoolHeader). h.version) (header_same c.args.words.now c.args.header.now c.requires.header)

pub bad_entry-requires-clause-granules : goal.bad_entry-requires-clause-granules
bad_entry-requires-clause-granules c = ap (λ (h : PoolHeader). h.granules) (header_same c.args.words.now c.args.header.now c.requires.header)

pub bad_entry-requires-clause-inside : goal.bad_entry-requires-clause-inside
bad_entry-requires-clause-inside c = log_inside c.args.words.now (header_there c.args.words.now c.args.header.now c.requires.header) c.requires.size

pub overflow_cast-result-in-Some : goal.overflow_cast-result-in-Some
overflow_cast-result-in-Some c = omega (arith, entries_small (version_in c.args.words.now) c.in-Some.place.entry c.in-Some.ensures.first.here.below)
