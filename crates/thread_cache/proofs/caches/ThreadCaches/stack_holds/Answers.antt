use Rattle.std.proofs.Common.{List, ℕ, sym, ◌∙◌, subst}
use Rattle.std.proofs.lemmas.Bool.{both_ways}
use Rattle.heap_model.specs.Placement.{Has}
use Rattle.thread_cache.proofs.Tables.{stack_read, none_by_bit}
use Rattle.thread_cache.proofs.caches.ThreadCaches.stack_holds.Goals as goal

pub returns-then-has : goal.returns-then-has
returns-then-has c =
    let is = stack_read c.self.view_is c.number_of-number.ensures c.self.invariant.lists_size c.index.result.now c.index.ensures in
    ((λ found. subst (λ (xs : List ℕ). Has xs c.args.at) (sym is) (c.holds.ensures.0 found)), (λ has. c.holds.ensures.1 (subst (λ (xs : List ℕ). Has xs c.args.at) is has)))

pub returns-else-has : goal.returns-else-has
returns-else-has c =
    let clear = rw (c.deref.ensures.value, c.number_of-number.ensures.value) at (sym c.has.ensures ∙ c.if-has.false) in
    let none = none_by_bit c.self.view_is c.self.invariant c.args.seat c.args.class c.requires.seat c.requires.class clear in
    ((λ found. absurd (both_ways c.has.result c.if-has.false found)), (λ has. absurd (subst (λ (xs : List ℕ). Has xs c.args.at) none has)))
