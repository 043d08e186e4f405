use Rattle.std.proofs.Common.{◌≡◌, ◌/◌, List, ℕ, length, sym, ap, ◌∙◌, not, subst, arith}
use Rattle.std.specs.List.{filter}
use Rattle.std.proofs.lemmas.List.{with_items_is}
use Rattle.heap_model.specs.Placement.{with_stack, AreDistinct}
use Rattle.heap_model.specs.Slabs.{is_within}
use Rattle.thread_cache.specs.Stacks.{stacks_of}
use Rattle.heap_model.proofs.Distinct.{AreDistinct-left}
use Rattle.thread_cache.proofs.Purges.{purged_empty}
use Rattle.thread_cache.proofs.Tables.{stack_read, stacks_after, distinct_of, none_by_bit, IsKept-after, some_by_length}
use Rattle.thread_cache.proofs.caches.ThreadCaches.purge_stack.Goals as goal

pub returns-then-not-has : goal.returns-then-not-has
returns-then-not-has c =
    let clear = rw (c.deref.ensures.value, c.number_of-number.ensures.value) at (sym c.has.ensures ∙ c.if-not-has.true) in
    purged_empty (c.args.slab / 16384) (stacks_of c.args.self.now) c.args.seat c.args.class
    (none_by_bit c.self.view_is c.self.invariant c.args.seat c.args.class c.requires.seat c.requires.class clear)

pub invariant_of-self : goal.invariant_of-self
invariant_of-self c =
    let s = c.self.inside in
    let stays = λ (at : ℕ). not (is_within (c.args.slab / 16384) at) in
    let is = stack_read c.self.view_is c.number_of-number.ensures c.self.invariant.lists_size c.index_mut-stack.result.now c.index_mut-stack.ensures.value in
    let left : c.leave_slab.new.self ≡ filter stays (stacks_of c.args.self.now c.args.seat c.args.class) = c.leave_slab.ensures ∙ ap (filter stays) (sym is) in
    let put = rw c.deref_mut.ensures.value at c.put.ensures in
    rw (with_items_is s.seats c.put.new.words (omega (arith, put.size, s.seats.ok.0)))
    (IsKept-after c.self.view_is c.self.invariant c.number_of-number.ensures c.put.new.words c.leave_slab.new.self (not c.is_empty-still.result) put
    (ap not c.is_empty-still.ensures ∙ some_by_length (length c.leave_slab.new.self))
    (subst (λ (xs : List ℕ). AreDistinct (with_stack (stacks_of c.args.self.now) c.args.seat c.args.class xs)) (sym left)
    (AreDistinct-left (distinct_of c.self.view_is c.self.invariant) c.args.seat c.args.class stays c.requires.seat c.requires.class)))

pub returns : goal.returns
returns c =
    let stays = λ (at : ℕ). not (is_within (c.args.slab / 16384) at) in
    let is = stack_read c.self.view_is c.number_of-number.ensures c.self.invariant.lists_size c.index_mut-stack.result.now c.index_mut-stack.ensures.value in
    stacks_after c.self.view_is c.number_of-number.ensures c.self.invariant.lists_size c.leave_slab.new.self
    ∙ ap (with_stack (stacks_of c.args.self.now) c.args.seat c.args.class) (c.leave_slab.ensures ∙ ap (filter stays) (sym is))
