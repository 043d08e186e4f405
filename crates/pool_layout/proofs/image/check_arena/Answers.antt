use Rattle.std.proofs.lemmas.Result.{err_from_is_err_and}
use Rattle.std.proofs.Common.{◌≡◌, ◌∙◌, sym, ap, length, arith, inl}
use Rattle.pool_layout.specs.Header.{header_word}
use Rattle.pool_layout.specs.Image.{header_of_arena}
use Rattle.pool_layout.proofs.Headers.{header_fits, valid_header}
use Rattle.pool_layout.proofs.Images.{length-part_of, some_granules, first_valid, arena_header_valid, bad_fields, header_line-part}
use Rattle.pool_layout.proofs.image.check_arena.Goals as goal

pub second_word-requires : goal.second_word-requires
second_word-requires c =
    let header = c.args.header.now in
    omega (arith, ap length c.parts-part.ensures, length-part_of c.args.words.now header.granules header.arenas c.args.arena c.requires.size c.requires.inside, some_granules header (first_valid c.args.variant header c.requires.first))

pub returns-in_err-word : goal.returns-in_err-word
returns-in_err-word c =
    let p = err_from_is_err_and c.from_residual.result c.from_residual.ensures.1 in
    rw (← c.parts-part.ensures, p.1, p.2) (inl c.in_err-word.ensures)

pub header_word-requires : goal.header_word-requires
header_word-requires c =
    let own = header_of_arena c.args.header.now c.args.arena in
    header_fits own (valid_header c.args.variant own (arena_header_valid c.args.variant c.args.header.now c.args.arena c.requires.first c.requires.inside))

pub returns-then-word-header_word : goal.returns-then-word-header_word
returns-then-word-header_word c =
    rw (← c.parts-part.ensures) (bad_fields c.args.variant c.parts-part.result.now (λ word. word ≡ header_word (header_of_arena c.args.header.now c.args.arena)) c.in_ok-word.word c.in_ok-word.ensures (λ good. c.if-word-header_word.true (good ∙ sym c.header_word.ensures.word)))

pub returns : goal.returns
returns c =
    header_line-part c.args.variant c.args.words.now c.args.header.now c.args.arena c.in_ok-word.word c.requires.size c.requires.first c.requires.inside
    (rw (← c.parts-part.ensures) c.in_ok-word.ensures) (c.if-word-header_word.false ∙ c.header_word.ensures.word)
