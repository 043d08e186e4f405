use Rattle.std.proofs.Common.{◌≡◌, ap, arith}
use Rattle.pool_layout.specs.declared.layout.Layout.{Layout}
use Rattle.pool_layout.specs.Layout.{layout_of}
use Rattle.pool_layout.proofs.Layouts.{layout_rules}
use Rattle.dict_text.proofs.CallLines.{size_read}
use Rattle.dict_text.proofs.line.read_size.Goals as goal

pub returns-then-granules-from : goal.returns-then-granules-from
returns-then-granules-from c granules says =
    let row = c.layout_of-layout.ensures.row in
    let most : c.layout_of-layout.result.most_granules ≡ (layout_of 1).most_granules = ap (λ (l : Layout). l.most_granules) row in
    let least : c.layout_of-layout.result.least_granules ≡ (layout_of 1).least_granules = ap (λ (l : Layout). l.least_granules) row in
    let same = size_read c.args.line.now _ c.in_ok-granules.granules granules (omega (arith, most, (layout_rules 1).most, c.from.ensures, c.in_ok-granules.ensures.0)) c.in_ok-words.ensures c.in_ok-granules.ensures.1 says in
    omega (arith, same, least, says.valid.least, c.from-2.ensures, c.if-granules-from.true)
