use Rattle.std.proofs.Common.{◌≡◌, ◌∷◌, length, refl, sym, ap, subst, ◌∙◌, not, arith}
use Rattle.std.proofs.lemmas.List.{with_items_is}
use Rattle.thread_cache.specs.Stacks.{StackTable, stacks_of}
use Rattle.heap_model.specs.Placement.{AreDistinct}
use Rattle.thread_cache.proofs.Tables.{stack_read, stacks_after, table_same, distinct_of, IsKept-after, some_by_length}
use Rattle.heap_model.proofs.Distinct.{AreDistinct-popped}
use Rattle.thread_cache.proofs.caches.ThreadCaches.pop.Goals as goal

pub returns-in_err-at-clause-top : goal.returns-in_err-at-clause-top
returns-in_err-at-clause-top c =
    let none = c.in_err-at.ensures in
    rw c.from_residual.ensures (record {
      empty = stack_read c.self.view_is c.number_of-own.ensures c.self.invariant.lists_size c.index_mut-stack.result.now c.index_mut-stack.ensures.value ∙ none.0;
      same = table_same c.self.view_is c.number_of-own.ensures c.self.invariant.lists_size c.index_mut-stack.result.now c.pop.new.self c.index_mut-stack.ensures.value (none.1 ∙ sym none.0);
    })

pub invariant_of-self-2 : goal.invariant_of-self-2
invariant_of-self-2 c =
    let s = c.self.inside in
    let was : stacks_of c.args.self.now c.args.seat c.args.class ≡ c.in_ok-at.at ∷ c.pop.new.self =
    stack_read c.self.view_is c.number_of-own.ensures c.self.invariant.lists_size c.index_mut-stack.result.now c.index_mut-stack.ensures.value ∙ c.in_ok-at.ensures in
    let put = rw c.deref_mut.ensures.value at c.put.ensures in
    rw (with_items_is s.seats c.put.new.words (omega (arith, put.size, s.seats.ok.0)))
    (IsKept-after c.self.view_is c.self.invariant c.number_of-own.ensures c.put.new.words c.pop.new.self (not c.is_empty-left.result) put
    (ap not c.is_empty-left.ensures ∙ some_by_length (length c.pop.new.self))
    (AreDistinct-popped (distinct_of c.self.view_is c.self.invariant) c.args.seat c.args.class c.in_ok-at.at c.pop.new.self c.requires.seat c.requires.class was))

pub returns-clause-top : goal.returns-clause-top
returns-clause-top c =
    record {
      top = record {
        top = c.in_ok-at.at;
        rest = c.pop.new.self;
        is = stack_read c.self.view_is c.number_of-own.ensures c.self.invariant.lists_size c.index_mut-stack.result.now c.index_mut-stack.ensures.value ∙ c.in_ok-at.ensures;
      };
      pop = (refl, stacks_after c.self.view_is c.number_of-own.ensures c.self.invariant.lists_size c.pop.new.self);
    }

pub returns-in_err-at-clause-distinct : goal.returns-in_err-at-clause-distinct
returns-in_err-at-clause-distinct c =
    let none = c.in_err-at.ensures in
    subst (λ (t : StackTable). AreDistinct (stacks_of t)) (sym (table_same c.self.view_is c.number_of-own.ensures c.self.invariant.lists_size c.index_mut-stack.result.now c.pop.new.self c.index_mut-stack.ensures.value (none.1 ∙ sym none.0)))
    (distinct_of c.self.view_is c.self.invariant)

pub returns-clause-distinct : goal.returns-clause-distinct
returns-clause-distinct c =
    let was : stacks_of c.args.self.now c.args.seat c.args.class ≡ c.in_ok-at.at ∷ c.pop.new.self =
    stack_read c.self.view_is c.number_of-own.ensures c.self.invariant.lists_size c.index_mut-stack.result.now c.index_mut-stack.ensures.value ∙ c.in_ok-at.ensures in
    subst AreDistinct (sym (stacks_after c.self.view_is c.number_of-own.ensures c.self.invariant.lists_size c.pop.new.self))
    (AreDistinct-popped (distinct_of c.self.view_is c.self.invariant) c.args.seat c.args.class c.in_ok-at.at c.pop.new.self c.requires.seat c.requires.class was)
