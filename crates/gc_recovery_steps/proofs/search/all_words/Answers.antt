use Rattle.pmem_lines.specs.Pmem.{words_of}
use Rattle.book_log.proofs.Places.{lent_whole}
use Rattle.gc_recovery_steps.proofs.search.all_words.Goals as goal

pub returns : goal.returns
returns g c = lent_whole (words_of (g.P.Pmem.state c.args.p.now)) c.words.result.now c.size_words.result c.words.ensures c.size_words.ensures.size
