use Rattle.std.proofs.Common.{◌≡◌, ◌/◌, ◌∙◌, ap, arith}
use Rattle.pmem_lines.specs.Words.{word_at}
use Rattle.pool_layout.specs.Places.{wal_word}
use Rattle.image_reading.proofs.reading.wal_word.Goals as goal

pub returns : goal.returns
returns c =
    let here : c.wal_at.result / 8 ≡ wal_word c.args.line = omega (arith, c.wal_at.ensures) in
    c.word_at.ensures ∙ ap (word_at c.args.words.now) here
