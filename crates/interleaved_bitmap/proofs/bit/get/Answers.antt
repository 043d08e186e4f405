use Rattle.std.proofs.Common.{◌+◌, ◌*◌, ◌/◌, ◌%◌, ◌∙◌, ap, get_or}
use Rattle.interleaved_bitmap.specs.Bits.{is_set}
use Rattle.interleaved_bitmap.specs.Places.{bit_of_header}
use Rattle.interleaved_bitmap.proofs.Words.{is_set-shifted}
use Rattle.interleaved_bitmap.proofs.bit.get.Goals as goal

pub returns : goal.returns
unfolding bit_of_header
returns c =
    let place = c.bit_place-line in
    let header = c.args.header.now in
    is_set-shifted _ _
    ∙ ap (λ line. is_set (get_or header (8 * line + place.result.1 / 64) 0) (place.result.1 % 64)) place.ensures.line
    ∙ ap (λ bit. is_set (get_or header (8 * (1 + c.args.i % 8) + bit / 64) 0) (bit % 64)) place.ensures.bit
