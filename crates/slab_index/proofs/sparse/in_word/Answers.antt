use Rattle.std.proofs.Common.{◌≡◌, refl, ◌+◌, ◌*◌, ◌-◌, ◌^◌, ◌<◌, bit_and, w64, get_or, sym, ap, ◌∙◌, arith}
use Rattle.slab_index.proofs.Common.{trailing_zeros, and_le_l, bit_at-trailing_zeros}
use Rattle.slab_index.proofs.Steps.{word_read}
use Rattle.slab_index.proofs.Others.{left_of, none_in_clear_word, none_in_word, first_in_word}
use Rattle.slab_index.proofs.sparse.in_word.Goals as goal

pub returns-then-not-has : goal.returns-then-not-has
returns-then-not-has c = none_in_clear_word c.args.classes.now c.args.unfit.now c.args.class c.args.live c.args.at c.requires.rows.summary (rw c.deref.ensures.value at (sym c.if-not-has.ensures)) c.requires.at

pub returns-then-word-eq0 : goal.returns-then-word-eq0
returns-then-word-eq0 c =
    let a = c.args in
    let here = c.index.result.now in
    let here_is : here ≡ get_or a.starts.now.words.items (64 * a.live + a.at) 0 = word_read _ _ (64 * a.live + a.at) here refl (omega (arith, c.requires.rows.size)) c.index.ensures in
    let own_fits : get_or a.classes.now (64 * a.class + a.at) 0 < 2 ^ 64 = omega (arith, c.type_inv.classes (64 * a.class + a.at)) in
    let unfit_fits : get_or a.unfit.now (64 * a.class + a.at) 0 < 2 ^ 64 = omega (arith, c.type_inv.unfit (64 * a.class + a.at)) in
    none_in_word a.starts.now.words.items a.classes.now a.unfit.now a.class a.live a.at own_fits unfit_fits
    (left_of here (get_or a.classes.now (64 * c.from.result + a.at) 0) (get_or a.unfit.now (64 * c.from.result + a.at) 0))
    (ap (λ class. left_of here (get_or a.classes.now (64 * class + a.at) 0) (get_or a.unfit.now (64 * class + a.at) 0)) c.from.ensures ∙ ap (λ h. left_of h (get_or a.classes.now (64 * a.class + a.at) 0) (get_or a.unfit.now (64 * a.class + a.at) 0)) here_is)
    c.if-word-eq0.true

pub returns : goal.returns
returns c =
    let a = c.args in
    let here = c.index.result.now in
    let here_is : here ≡ get_or a.starts.now.words.items (64 * a.live + a.at) 0 = word_read _ _ (64 * a.live + a.at) here refl (omega (arith, c.requires.rows.size)) c.index.ensures in
    let own = get_or a.classes.now (64 * c.from.result + a.at) 0 in
    let noted = get_or a.unfit.now (64 * c.from.result + a.at) 0 in
    let word = left_of here own noted in
    let own_fits : get_or a.classes.now (64 * a.class + a.at) 0 < 2 ^ 64 = omega (arith, c.type_inv.classes (64 * a.class + a.at)) in
    let unfit_fits : get_or a.unfit.now (64 * a.class + a.at) 0 < 2 ^ 64 = omega (arith, c.type_inv.unfit (64 * a.class + a.at)) in
    let more : 0 < word = omega (arith, c.if-word-eq0.false) in
    let fits : word < 2 ^ 64 = omega (arith, and_le_l (bit_and here (18446744073709551615 - own)) (18446744073709551615 - noted), and_le_l here (18446744073709551615 - own)) in
    let lowest = bit_at-trailing_zeros w64 word more fits in
    first_in_word a.starts.now.words.items a.classes.now a.unfit.now a.class a.live a.at own_fits unfit_fits word (trailing_zeros w64 word)
    (ap (λ class. left_of here (get_or a.classes.now (64 * class + a.at) 0) (get_or a.unfit.now (64 * class + a.at) 0)) c.from.ensures ∙ ap (λ h. left_of h (get_or a.classes.now (64 * a.class + a.at) 0) (get_or a.unfit.now (64 * a.class + a.at) 0)) here_is)
    lowest.0
    lowest.1
    lowest.2
