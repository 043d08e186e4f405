use Rattle.std.proofs.Common.{◌≡◌, ◌∙◌, eqb, List, ℕ, sym, ap, subst}
use Rattle.std.specs.List.{list_any}
use Rattle.heap_model.specs.Placement.{Has}
use Rattle.thread_cache.proofs.Lists.{Has-reverse, Has-reversed, Has-by_test, test_by_Has}
use Rattle.thread_cache.proofs.stack.Stack.holds.Goals as goal

pub returns : goal.returns
returns c =
    let items = c.self.inside.blocks.items in
    let at = c.args.at in
    let found : c.contains.result ≡ list_any (λ x. eqb x at) items = c.contains.ensures.value ∙ ap (list_any (λ x. eqb x at)) c.deref.ensures.0 in (
      (λ is. subst (λ (xs : List ℕ). Has xs at) c.self.view_is (Has-reverse items at (Has-by_test items at (sym found ∙ is)))),
      (λ has. found ∙ test_by_Has items at (Has-reversed items at (subst (λ (xs : List ℕ). Has xs at) (sym c.self.view_is) has))),
    )
