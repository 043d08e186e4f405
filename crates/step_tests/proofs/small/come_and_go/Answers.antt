use Rattle.std.proofs.Common.{◌≤◌, ap, ◌∙◌, arith}
use Rattle.step_tests.proofs.Common.{PmemState, words_of, Layout, layout_of, version_in, within_heap, IsFormatted, IsAttachable}
use Rattle.book_log.proofs.Books.{Reads-same}
use Rattle.step_tests.proofs.OneSlab.{header, block, formatted_by, formatted_row, made_row, log_by, same_log, attachable_by, detachable}
use Rattle.step_tests.proofs.small.come_and_go.Given as given
use Rattle.step_tests.proofs.small.come_and_go.Goals as goal
use Rattle.step_tests.proofs.small.come_and_go.Goals.{After-write_word-3, After-begin}

-- the header line and the directory are written
formatted : (g : given.Over) (c : After-write_word-3 g) → IsFormatted (words_of c.write_word-3.new.device) header
formatted g c =
    let zeroed = c.requires.zeroed in
    formatted_by zeroed.zero zeroed.size c.fields_at.ensures c.write_word.ensures.appends.words c.directory_at.ensures c.write_word-2.ensures.appends.words c.text_at.ensures c.header_text.ensures c.write_word-3.ensures.appends.words

-- the slab is in the log, and a call begins
attachable : (g : given.Over) (c : After-begin g) → IsAttachable (words_of c.begin.new.self) 5 block
attachable g c =
    let zeroed = c.requires.zeroed in
    let formatted = formatted_by zeroed.zero zeroed.size c.fields_at.ensures c.write_word.ensures.appends.words c.directory_at.ensures c.write_word-2.ensures.appends.words c.text_at.ensures c.header_text.ensures c.write_word-3.ensures.appends.words in
    let appended = c.append.ensures in
    attachable_by formatted c.make_slab.ensures.made appended.place appended.words appended.extents appended.reads.log (appended.granules ∙ c.load.ensures.granules ∙ c.requires.granules) (ap (λ (s : PmemState). words_of s) c.begin.ensures.state)

pub load-requires-clause-log : goal.load-requires-clause-log
load-requires-clause-log g c = log_by (formatted g (goal.at.load-requires-clause-log g c).After-write_word-3) c.requires.granules

pub load-requires-clause-inside : goal.load-requires-clause-inside
load-requires-clause-inside g c =
    let heap = ap (λ (row : Layout). row.first_granule) (formatted_row (formatted g (goal.at.load-requires-clause-inside g c).After-write_word-3)) in
    within_heap (words_of c.write_word-3.new.device)
    (omega (arith, heap, c.requires.zeroed.size, c.write_word.ensures.appends.size, c.write_word-2.ensures.appends.size, c.write_word-3.ensures.appends.size))

pub append-requires-clause-reads : goal.append-requires-clause-reads
append-requires-clause-reads g c =
    let made = c.make_slab.ensures.made in
    let before = formatted g (goal.at.append-requires-clause-reads g c).After-write_word-3 in
    Reads-same c.load.new.self (words_of c.write_word-3.new.device) (words_of c.make_slab.new.p) (same_log before made) made.kept.same_length c.load.ensures.reads

pub append-requires-clause-valid : goal.append-requires-clause-valid
append-requires-clause-valid g c =
    let row = made_row (formatted g (goal.at.append-requires-clause-valid g c).After-write_word-3) c.make_slab.ensures.made in
    let low : (layout_of (version_in (words_of c.make_slab.new.p))).first_granule ≤ 4 = omega (arith, ap (λ (r : Layout). r.first_granule) row) in
    (low, omega (arith, c.load.ensures.granules, c.requires.granules))

pub attach-requires-clause-attachable : goal.attach-requires-clause-attachable
attach-requires-clause-attachable g c = attachable g (goal.at.attach-requires-clause-attachable g c).After-begin

pub detach-requires-clause-detachable : goal.detach-requires-clause-detachable
detach-requires-clause-detachable g c =
    detachable (words_of c.begin.new.self) (words_of c.attach.new.p) 3 (attachable g (goal.at.detach-requires-clause-detachable g c).After-begin) c.attach.ensures.attached
