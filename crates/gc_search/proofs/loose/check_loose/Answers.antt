use Rattle.gc_search.proofs.Marks.{few_of}
use Rattle.std.proofs.Common.{arith}
use Rattle.gc_search.proofs.loose.check_loose.Goals as goal

pub returns-clause-few : goal.returns-clause-few
returns-clause-few c = few_of c.requires.read c.count_loose-count.result.large c.count_loose-count.result.empty c.count_loose-count.ensures.large c.count_loose-count.ensures.empty (omega arith) (omega arith)
