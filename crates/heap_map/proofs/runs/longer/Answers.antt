use Rattle.std.proofs.Common.{◌<◌, ◌≤◌, ◌∙◌, ◌+◌, true≢false, sym, arith, inl, inr, ⊎_elim}
use Rattle.std.proofs.lemmas.Bool.{cases_lt}
use Rattle.heap_map.specs.Cells.{IsFreeCell}
use Rattle.heap_map.proofs.FreeRows.{runs_more, runs_ended}
use Rattle.heap_map.proofs.runs.longer.Goals as goal

pub returns-then-not-free : goal.returns-then-not-free
returns-then-not-free c =
    runs_ended (IsFreeCell c.args.cells.now) c.args.granule c.args.runs (λ free. true≢false (sym (c.requires.free.1 free) ∙ c.if-not-free.true)) c.requires.runs

pub returns : goal.returns
returns c =
    let max = c.max.ensures in
    runs_more (IsFreeCell c.args.cells.now) c.args.granule c.args.runs c.max.result (c.requires.free.0 c.if-not-free.false) c.requires.runs (omega (arith, max)) (omega (arith, max))
    (⊎_elim (λ (less : c.args.runs.longest < c.args.runs.run + 1). inr (omega (arith, max, less))) (λ (more : c.args.runs.run + 1 ≤ c.args.runs.longest). inl (omega (arith, max, more))) (cases_lt c.args.runs.longest (c.args.runs.run + 1)))
