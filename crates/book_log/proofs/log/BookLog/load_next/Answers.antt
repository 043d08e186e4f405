use Rattle.std.proofs.Common.{ℕ, List, sym, ap, subst, ◌∙◌}
use Rattle.pmem_lines.specs.Pmem.{words_of}
use Rattle.book_log.specs.Book.{Book, HasLog, AreWithin, IsNextOf, live_at}
use Rattle.book_log.proofs.Places.{lent_whole}
use Rattle.book_log.proofs.log.BookLog.load_next.Goals as goal

pub next_place-self-inside-requires-clause-log : goal.next_place-self-inside-requires-clause-log
next_place-self-inside-requires-clause-log g c =
    let lent = lent_whole (words_of (g.P.Pmem.state c.args.p.now)) c.words.result.now c.size_words.result c.words.ensures c.size_words.ensures.size in
    (c.args.self.now.granules, subst (λ (ws : List ℕ). HasLog c.args.self.now.granules ws) (sym lent) c.requires.log)

pub next_place-self-inside-requires-clause-inside : goal.next_place-self-inside-requires-clause-inside
next_place-self-inside-requires-clause-inside g c =
    let lent = lent_whole (words_of (g.P.Pmem.state c.args.p.now)) c.words.result.now c.size_words.result c.words.ensures c.size_words.ensures.size in
    subst AreWithin (sym lent) c.requires.inside

pub returns-clause-reads : goal.returns-clause-reads
returns-clause-reads g c =
    let words = words_of (g.P.Pmem.state c.args.p.now) in
    let lent = lent_whole words c.words.result.now c.size_words.result c.words.ensures c.size_words.ensures.size in
    record {
      log = subst (λ n. HasLog n words) (sym (ap (λ (b : Book). b.granules) c.self.view_is)) c.requires.log;
      inside = c.requires.inside;
      live = λ start. ap (λ (b : Book). live_at b start) c.self.view_is ∙ c.requires.live start;
      next = subst (λ (ws : List ℕ). IsNextOf ws c.next_place-self-inside.result) lent c.next_place-self-inside.ensures;
    }
