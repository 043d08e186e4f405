use Rattle.std.proofs.Common.{◌≡◌, List, ℕ, length, sym, ap, ◌∙◌, not, subst, arith}
use Rattle.std.proofs.lemmas.List.{with_items_is}
use Rattle.heap_model.specs.Placement.{with_stack, AreDistinct}
use Rattle.thread_cache.specs.Stacks.{stacks_of}
use Rattle.heap_model.proofs.Distinct.{AreDistinct-filled}
use Rattle.thread_cache.proofs.Tables.{stack_read, stacks_after, distinct_of, IsKept-after, some_by_length}
use Rattle.thread_cache.proofs.caches.ThreadCaches.refill.Goals as goal

pub fill-requires : goal.fill-requires
fill-requires c =
    sym (stack_read c.self.view_is c.number_of-number.ensures c.self.invariant.lists_size c.index_mut-stack.result.now c.index_mut-stack.ensures.value) ∙ c.requires.empty

pub invariant_of-self : goal.invariant_of-self
invariant_of-self c =
    let s = c.self.inside in
    let filled = c.fill.ensures.addresses in
    let put = rw c.deref_mut.ensures.value at c.put.ensures in
    rw (with_items_is s.seats c.put.new.words (omega (arith, put.size, s.seats.ok.0)))
    (IsKept-after c.self.view_is c.self.invariant c.number_of-number.ensures c.put.new.words c.fill.new.self (not c.is_empty-some.result) put
    (ap not c.is_empty-some.ensures ∙ some_by_length (length c.fill.new.self))
    (subst (λ (xs : List ℕ). AreDistinct (with_stack (stacks_of c.args.self.now) c.args.seat c.args.class xs)) (sym filled)
    (AreDistinct-filled (distinct_of c.self.view_is c.self.invariant) c.args.seat c.args.class c.args.blocks.now.items c.requires.seat c.requires.class c.fill.ensures.fits c.requires.rising c.requires.loose)))

pub returns-clause-stacks : goal.returns-clause-stacks
returns-clause-stacks c =
    stacks_after c.self.view_is c.number_of-number.ensures c.self.invariant.lists_size c.fill.new.self
    ∙ ap (with_stack (stacks_of c.args.self.now) c.args.seat c.args.class) c.fill.ensures.addresses

pub returns-clause-distinct : goal.returns-clause-distinct
returns-clause-distinct c =
    let after : stacks_of _ ≡ with_stack (stacks_of c.args.self.now) c.args.seat c.args.class c.args.blocks.now.items =
    stacks_after c.self.view_is c.number_of-number.ensures c.self.invariant.lists_size c.fill.new.self
    ∙ ap (with_stack (stacks_of c.args.self.now) c.args.seat c.args.class) c.fill.ensures.addresses in
    subst AreDistinct (sym after)
    (AreDistinct-filled (distinct_of c.self.view_is c.self.invariant) c.args.seat c.args.class c.args.blocks.now.items c.requires.seat c.requires.class c.fill.ensures.fits c.requires.rising c.requires.loose)
