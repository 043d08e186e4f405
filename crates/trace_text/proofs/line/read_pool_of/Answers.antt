use Rattle.std.proofs.Common.{ap, sym, ◌∙◌, arith}
use Rattle.std.proofs.lemmas.Fmt.{decimal_injective}
use Rattle.pool_layout.specs.declared.layout.Layout.{Layout}
use Rattle.pool_layout.specs.Layout.{layout_of, all_granules}
use Rattle.trace_text.proofs.Pools.{behind_arenas, pool_most}
use Rattle.trace_text.proofs.line.read_pool_of.Goals as goal

pub returns-in_err-granules : goal.returns-in_err-granules
returns-in_err-granules c = rw c.from_residual-in_err-granules.ensures (λ pool is.
    let sizes = behind_arenas c.args.words.now _ c.args.version _ pool c.in_ok-arenas.ensures.0 c.in_ok-arenas.ensures.1 is in
    let most = ap (λ v. (layout_of v).most_granules) is.named in
    c.in_err-granules.ensures pool.granules (omega (arith, is.valid.most, most, c.from.ensures, ap (λ (l : Layout). l.most_granules) c.layout_of-layout.ensures.row)) sizes.1)

pub returns-then-arenas-eq0 : goal.returns-then-arenas-eq0
returns-then-arenas-eq0 c pool is =
    let sizes = behind_arenas c.args.words.now _ c.args.version _ pool c.in_ok-arenas.ensures.0 c.in_ok-arenas.ensures.1 is in
    let granules = decimal_injective c.in_ok-granules.granules pool.granules (omega (arith, c.in_ok-granules.ensures.0)) (omega (arith, pool_most is.valid)) (sym c.in_ok-granules.ensures.1 ∙ sizes.1) in
    let least = ap (λ v. (layout_of v).least_granules) is.named in
    grind (arith, sizes.0, granules, least, is.valid.some, is.valid.least, ap (λ (l : Layout). l.least_granules) c.layout_of-layout.ensures.row)

pub returns-then-all_granules-gt-POOL_GRANULES : goal.returns-then-all_granules-gt-POOL_GRANULES
returns-then-all_granules-gt-POOL_GRANULES c pool is =
    let sizes = behind_arenas c.args.words.now _ c.args.version _ pool c.in_ok-arenas.ensures.0 c.in_ok-arenas.ensures.1 is in
    let granules = decimal_injective c.in_ok-granules.granules pool.granules (omega (arith, c.in_ok-granules.ensures.0)) (omega (arith, pool_most is.valid)) (sym c.in_ok-granules.ensures.1 ∙ sizes.1) in
    let together = ap (λ a. all_granules a pool.granules) sizes.0 in
    let each = ap (all_granules c.in_ok-arenas.arenas) granules in
    omega (arith, together, each, is.valid.together, c.all_granules.ensures, c.if-all_granules-gt-POOL_GRANULES.true)
