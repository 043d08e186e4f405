use Rattle.std.proofs.Common.{refl, ap, eqb, not, arith}
use Rattle.std.proofs.lemmas.Bool.{eqb-true, eq-eqb, not-false}
use Rattle.extent_index.proofs.Searches.{tells_more}
use Rattle.extent_index.proofs.search.has_any_by.Goals as goal

pub loop-i-init : goal.loop-i-init
loop-i-init g c = record { none = λ zero k low high. absurd (omega arith); zero = λ none. refl }

pub loop-i-preserved : goal.loop-i-preserved
loop-i-preserved g c = tells_more c.args.table.now c.args.first c.loop-i.i c.loop-i.all c.look-all.result (omega arith) c.look-all.ensures.word (omega arith) c.loop-i.invariant

pub returns : goal.returns
returns g c = (
  λ none. record { none = λ k low high. c.loop-i.invariant.none (eqb-true c.loop-i.all 0 (not-false (eqb c.loop-i.all 0) none)) k low (omega arith) },
  λ none. ap not (eq-eqb c.loop-i.all 0 (c.loop-i.invariant.zero (λ k low high. none.none k low (omega arith)))),
)
