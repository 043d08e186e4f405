use Rattle.std.proofs.Common.{◌≡◌, ◌/◌, ◌∙◌, length, ap, arith}
use Rattle.pool_layout.proofs.Words.{length-words_of_bytes}
use Rattle.pool_layout.proofs.image.read_pool.Goals as goal

pub first_header-requires : goal.first_header-requires
first_header-requires c =
    let many : length c.args.words.now ≡ length c.requires.bytes / 8 = ap length c.requires.are.words_are ∙ length-words_of_bytes c.requires.bytes in
    omega (arith, many, c.requires.are.size_is)

pub check_arenas-requires-clause-size : goal.check_arenas-requires-clause-size
check_arenas-requires-clause-size c =
    let many : length c.args.words.now ≡ length c.requires.bytes / 8 = ap length c.requires.are.words_are ∙ length-words_of_bytes c.requires.bytes in
    omega (arith, many, c.requires.are.size_is)
