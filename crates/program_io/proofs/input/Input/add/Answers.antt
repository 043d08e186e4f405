use Rattle.std.proofs.Common.{◌∙◌, ◌++◌, List, ℕ, sym, ap, arith, length-append}
use Rattle.pool_layout.specs.Bytes.{words_of_bytes}
use Rattle.pool_layout.specs.Image.{AreWordsOf}
use Rattle.pool_layout.proofs.Words.{words_of_bytes-append}
use Rattle.program_io.proofs.input.Input.add.Goals as goal

pub returns-in_ok-add_words-in-Image-clause-bytes : goal.returns-in_ok-add_words-in-Image-clause-bytes
returns-in_ok-add_words-in-Image-clause-bytes c bytes whole has =
    let piece = c.args.piece.now in
    let are : AreWordsOf c.in-Image.words.items c.in-Image.bytes bytes = rw c.in-Image.is at has in
    record {
      words_are = c.in_ok-add_words-in-Image.ensures ∙ ap (λ (ws : List ℕ). ws ++ words_of_bytes piece) are.words_are ∙ sym (words_of_bytes-append bytes piece whole);
      size_is = let size = are.size_is in omega (arith, size, length-append bytes piece);
    }
