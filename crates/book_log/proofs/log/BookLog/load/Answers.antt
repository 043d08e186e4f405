use Rattle.std.proofs.Common.{ℕ, List, sym, subst}
use Rattle.pmem_lines.specs.Pmem.{words_of}
use Rattle.book_log.specs.Book.{HasLog, AreWithin, Reads}
use Rattle.book_log.proofs.Places.{lent_whole}
use Rattle.book_log.proofs.log.BookLog.load.Goals as goal

pub load_words-requires-clause-log : goal.load_words-requires-clause-log
load_words-requires-clause-log g c =
    let lent = lent_whole (words_of (g.P.Pmem.state c.args.p.now)) c.words.result.now c.size_words.result c.words.ensures c.size_words.ensures.size in
    subst (λ (ws : List ℕ). HasLog c.args.self.now.granules ws) (sym lent) c.requires.log

pub load_words-requires-clause-inside : goal.load_words-requires-clause-inside
load_words-requires-clause-inside g c =
    let lent = lent_whole (words_of (g.P.Pmem.state c.args.p.now)) c.words.result.now c.size_words.result c.words.ensures c.size_words.ensures.size in
    subst AreWithin (sym lent) c.requires.inside

pub returns-clause-reads : goal.returns-clause-reads
returns-clause-reads g c =
    let lent = lent_whole (words_of (g.P.Pmem.state c.args.p.now)) c.words.result.now c.size_words.result c.words.ensures c.size_words.ensures.size in
    subst (Reads c.load_words.new.self) lent c.load_words.ensures.reads
