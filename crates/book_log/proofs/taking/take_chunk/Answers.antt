use Rattle.std.proofs.Common.{◌≡◌, sym, ap, ◌∙◌, arith}
use Rattle.image_tables.specs.Log.{entry_or_none, entries_below, chunk_log}
use Rattle.image_tables.specs.Extents.{extent_behind}
use Rattle.book_log.specs.Log.{logged}
use Rattle.book_log.specs.Table.{extent_in}
use Rattle.book_log.proofs.Takings.{behind_row}
use Rattle.book_log.proofs.taking.take_chunk.Goals as goal

pub loop-entry-preserved : goal.loop-entry-preserved
loop-entry-preserved c start =
    let row = logged c.args.version c.args.words.now c.args.chunk in
    let n = c.loop-entry.entry in
    let old = extent_in c.args.live.now start in
    c.take_word.ensures start
    ∙ ap (λ w. extent_behind (entry_or_none w) start (extent_in c.loop-entry.live start)) c.logged_word.ensures
    ∙ ap (extent_behind (entry_or_none (row n)) start) (c.loop-entry.invariant start)
    ∙ sym (behind_row row n start old)

pub returns : goal.returns
unfolding chunk_log
returns c start =
    let row = logged c.args.version c.args.words.now c.args.chunk in
    let all : c.loop-entry.entry ≡ (Rattle.pool_layout.specs.Layout.layout_of c.args.version).chunk_entries = omega (arith, ap (λ (row : Rattle.pool_layout.specs.declared.layout.Layout.Layout). row.chunk_entries) c.layout_of-entries.ensures.row) in
    c.loop-entry.invariant start ∙ ap (λ n. extent_behind (entries_below row n) start (extent_in c.args.live.now start)) all
