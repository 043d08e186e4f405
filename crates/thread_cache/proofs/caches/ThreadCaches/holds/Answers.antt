use Rattle.std.proofs.Common.{◌<◌, ◌≤◌, ◌≡◌, ℕ, List, ⊎_elim, sym, subst, arith}
use Rattle.std.proofs.lemmas.Bool.{cases_lt, cases_eq}
use Rattle.heap_model.specs.Placement.{Has}
use Rattle.thread_cache.specs.Stacks.{stacks_of}
use Rattle.thread_cache.specs.Kept.{HasNone}
use Rattle.thread_cache.proofs.Tables.{no_class}
use Rattle.thread_cache.proofs.caches.ThreadCaches.holds.Goals as goal

pub loop-class-preserved : goal.loop-class-preserved
loop-class-preserved c = λ other below. ⊎_elim
    (λ (here : other ≡ c.loop-class.class). subst (λ (k : ℕ). HasNone (stacks_of c.args.self.now) k c.args.at) (sym here) (c.class_holds.ensures.loose c.if-class_holds.false))
    (λ (apart : other ≡ c.loop-class.class → ⊥). c.loop-class.invariant other (omega arith))
    (cases_eq other c.loop-class.class)

pub returns-clause-loose : goal.returns-clause-loose
returns-clause-loose c = λ _. record {
  none = λ seat class has. ⊎_elim
      (λ (below : class < c.loop-class.class). (c.loop-class.invariant class below).each seat has)
      (λ (past : c.loop-class.class ≤ class). subst (λ (xs : List ℕ). Has xs c.args.at) (no_class c.args.self.now seat class (omega arith)) has)
      (cases_lt class c.loop-class.class);
}
