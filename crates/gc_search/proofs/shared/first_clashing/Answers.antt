use Rattle.std.specs.Option.{MatchOption}
use Rattle.std.proofs.Common.{◌+◌, ◌∙◌, sym, subst, Option, ℕ}
use Rattle.std.proofs.lemmas.Bool.{false≢true}
use Rattle.gc_search.specs.Pairs.{HasNoClashing, IsFirstClashing}
use Rattle.gc_search.proofs.Sweeps.{reach_none, none_clashing, found_passed}
use Rattle.gc_search.proofs.shared.first_clashing.Goals.{then-is_clashing, else-is_clashing}
use Rattle.gc_search.proofs.shared.first_clashing.Goals as goal

pub loop-i-preserved : goal.loop-i-preserved
loop-i-preserved c =
    let claims = c.args.sorted.now in
    let i = c.loop-i.i in
    record {
      reach = c.farther-reach.ensures;
      found = elim c.if-is_clashing.branch [
        | then-is_clashing w ↦ subst (λ (f : Option ℕ). MatchOption f (HasNoClashing claims (i + 1)) (IsFirstClashing claims (i + 1))) (sym w.found-is) w.lower.ensures
        | else-is_clashing w ↦ subst (λ (f : Option ℕ). MatchOption f (HasNoClashing claims (i + 1)) (IsFirstClashing claims (i + 1))) (sym w.found-is)
            (found_passed claims i c.loop-i.found (λ clashing. false≢true (sym w.if-is_clashing.false ∙ c.is_clashing.ensures.1 clashing)) c.loop-i.invariant.found)
      ];
    }

pub loop-i-init : goal.loop-i-init
loop-i-init c = record { reach = reach_none c.args.sorted.now; found = none_clashing c.args.sorted.now }
