use Rattle.std.proofs.Common.{◌≤◌, ◌<◌, ◌^◌, ℕ, decimal, drop, length, ap, arith, length-append, length-drop, lit≤}
use Rattle.std.proofs.lemmas.Fmt.{length-decimal-le}
use Rattle.trace_text.proofs.line_end.LineEnd.put_digits.Goals as goal

-- a number of 64 bits has at most 20 digits
few_digits : (n : ℕ) → n < 2 ^ 64 → length (decimal n) ≤ 20
few_digits n fits =
    let wide : 2 ^ 64 ≤ 10 ^ 20 = lit≤ tt in
    length-decimal-le 20 n (omega arith) (omega (arith, fits, wide)) fits

pub write_digits-self-inside-requires : goal.write_digits-self-inside-requires
write_digits-self-inside-requires c =
    let s = c.self.inside in
    let few = few_digits c.args.number c.ranges.number.fits in
    let text = ap length c.self.view_is in
    let behind = length-drop s.start s.bytes in
    let size = c.self.invariant.0 in
    let low = c.self.invariant.1 in
    (omega (arith, few, text, behind, size, low, c.requires), omega (arith, size, low))

pub returns-clause-few : goal.returns-clause-few
returns-clause-few c =
    let few = few_digits c.args.number c.ranges.number.fits in
    let written = ap length c.write_digits-self-inside.ensures.written in
    let both = length-append (decimal c.args.number) (drop c.self.inside.start c.self.inside.bytes) in
    let text = ap length c.self.view_is in
    omega (arith, few, written, both, text)
