use Rattle.std.proofs.Common.{◌<◌, ◌≤◌, List, ℕ, ⊎_elim, sym, ◌∙◌, subst, arith}
use Rattle.std.proofs.lemmas.Bool.{cases_lt}
use Rattle.std.proofs.lemmas.List.{get_or_read}
use Rattle.heap_model.specs.Placement.{Has}
use Rattle.thread_cache.proofs.Tables.{none_by_word, no_seat}
use Rattle.thread_cache.proofs.caches.ThreadCaches.class_holds.Goals as goal

pub returns-then-index-eq0-clause-loose : goal.returns-then-index-eq0-clause-loose
returns-then-index-eq0-clause-loose c =
    let word = get_or_read c.self.inside.seats.items c.args.class c.index.result.now (omega (arith, c.self.invariant.seats_size)) c.index.ensures 0 in
    λ _. record {
      each = λ seat has. subst (λ (xs : List ℕ). Has xs c.args.at) (none_by_word c.self.view_is c.self.invariant c.args.class c.requires (sym word ∙ c.if-index-eq0.true) seat) has;
    }

pub returns-clause-loose : goal.returns-clause-loose
returns-clause-loose c = λ _. record {
  each = λ seat has. ⊎_elim
      (λ (below : seat < c.loop-seat.seat). c.loop-seat.invariant seat below has)
      (λ (past : c.loop-seat.seat ≤ seat). subst (λ (xs : List ℕ). Has xs c.args.at) (no_seat c.args.self.now seat c.args.class (omega arith)) has)
      (cases_lt seat c.loop-seat.seat);
}
