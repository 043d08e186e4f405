use Rattle.std.proofs.Common.{◌≡◌, ◌∷◌, [], arith}
use Rattle.nvheap.proofs.Common.{decimal, decimal_injective}
use Rattle.nvheap.proofs.Table.{no_gen}
use Rattle.nvheap.proofs.command.gen_of.Goals as goal

pub returns-then-count-eq0 : goal.returns-then-count-eq0
returns-then-count-eq0 c =
    let none = c.in_ok-count.count in
    no_gen (c.args.count.now ∷ c.args.seed.now ∷ [])
    (λ count seed said.
    let text : decimal count ≡ decimal none = cc (said.text, c.in_ok-count.ensures.1) in
    let same = decimal_injective count none said.numbers.0 (omega (arith, c.if-count-eq0.true)) text in
    omega (arith, same, c.if-count-eq0.true, said.fits.0))
