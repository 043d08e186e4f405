use Rattle.std.proofs.Common.{◌/◌, ap, arith, get_or}
use Rattle.pmem_lines.specs.Words.{word_at, put_word}
use Rattle.pmem_lines.proofs.Words.{length-put_word}
use Rattle.image_raise.proofs.Rows.{front_some}
use Rattle.image_raise.proofs.Steps.{header_put}
use Rattle.image_raise.proofs.raising.put_header.Goals as goal

pub bounds-front-text_at : goal.bounds-front-text_at
bounds-front-text_at c = omega (arith, front_some 2, c.requires.front, c.text_at.ensures)

pub bounds-front-fields_at : goal.bounds-front-fields_at
unfolding put_word
bounds-front-fields_at c = omega (arith, front_some 2, c.requires.front, c.fields_at.ensures, length-put_word c.args.front.now (c.text_at.result / 8) c.header_text.result)

pub bounds-words-directory_at : goal.bounds-words-directory_at
bounds-words-directory_at c = omega (arith, front_some 1, c.requires.words, c.directory_at.ensures)

pub bounds-front-directory_at : goal.bounds-front-directory_at
unfolding put_word
bounds-front-directory_at c =
    let one = put_word c.args.front.now (c.text_at.result / 8) c.header_text.result in
    omega (arith, front_some 2, c.requires.front, c.directory_at-2.ensures, length-put_word c.args.front.now (c.text_at.result / 8) c.header_text.result, length-put_word one (c.fields_at.result / 8) c.header_word.result)

pub returns : goal.returns
unfolding put_word word_at
returns c =
    rw (c.header_text.ensures, c.header_word.ensures.word, c.raised_header.ensures)
    (header_put c.args.words.now c.args.front.now c.args.header.now (c.text_at.result / 8) (c.fields_at.result / 8) (c.directory_at-2.result / 8) _ (omega (arith, front_some 2, c.requires.front)) (omega (arith, c.text_at.ensures)) (omega (arith, c.fields_at.ensures)) (omega (arith, c.directory_at-2.ensures)) (ap (λ i. get_or c.args.words.now i 0) (omega (arith, c.directory_at.ensures))))
