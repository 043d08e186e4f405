use Rattle.std.proofs.Common.{◌≡◌, ◌/◌, ◌<◌, ◌∙◌, ap, sym, arith}
use Rattle.pmem_lines.specs.Words.{word_at}
use Rattle.pool_layout.specs.Layout.{layout_of}
use Rattle.pool_layout.specs.Places.{root_word}
use Rattle.pool_layout.specs.Header.{version_in}
use Rattle.image_tables.proofs.Tables.{word_table, word_table-past}
use Rattle.image_reading.proofs.reading.root_word.Goals as goal

pub returns-then-root-roots_of : goal.returns-then-root-roots_of
returns-then-root-roots_of c = sym (word_table-past c.args.words.now c.args.root (omega (arith, c.roots_of.ensures.count)))

pub returns : goal.returns
returns c =
    let here : c.root_at.result / 8 ≡ root_word c.args.root = omega (arith, c.root_at.ensures) in
    let below : c.args.root < (layout_of (version_in c.args.words.now)).roots = omega (arith, c.roots_of.ensures.count) in
    c.word_at.ensures ∙ ap (word_at c.args.words.now) here ∙ sym (word_table c.args.words.now c.args.root below)
