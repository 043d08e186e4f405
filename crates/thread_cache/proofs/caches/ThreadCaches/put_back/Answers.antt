use Rattle.std.proofs.Common.{◌≡◌, ◌∷◌, List, ℕ, length, sym, ap, ◌∙◌, subst, arith}
use Rattle.std.proofs.lemmas.Bool.{eqb-true, eqb-false, lt-ltb, le-ltb}
use Rattle.std.proofs.lemmas.List.{with_items_is}
use Rattle.heap_model.specs.Placement.{with_stack, AreDistinct}
use Rattle.thread_cache.specs.Stacks.{stacks_of}
use Rattle.heap_model.proofs.Distinct.{AreDistinct-put}
use Rattle.thread_cache.proofs.Tables.{stack_read, stacks_after, distinct_of, IsKept-after}
use Rattle.thread_cache.proofs.caches.ThreadCaches.put_back.Goals as goal

pub returns-then-is_full-clause-room : goal.returns-then-is_full-clause-room
returns-then-is_full-clause-room c =
    let is = stack_read c.self.view_is c.number_of-number.ensures c.self.invariant.lists_size c.index_mut-stack.result.now c.index_mut-stack.ensures.value in
    let full : length c.index_mut-stack.result.now ≡ 8 = eqb-true _ _ (sym c.is_full.ensures.value ∙ c.if-is_full.true) in
    sym (le-ltb (length (stacks_of c.args.self.now c.args.seat c.args.class)) 8 (omega (arith, ap length is)))

pub returns-then-is_full-clause-full : goal.returns-then-is_full-clause-full
returns-then-is_full-clause-full c =
    let is = stack_read c.self.view_is c.number_of-number.ensures c.self.invariant.lists_size c.index_mut-stack.result.now c.index_mut-stack.ensures.value in
    let full : length c.index_mut-stack.result.now ≡ 8 = eqb-true _ _ (sym c.is_full.ensures.value ∙ c.if-is_full.true) in
    λ _. ap length is ∙ full

pub returns-clause-room : goal.returns-clause-room
returns-clause-room c =
    let is = stack_read c.self.view_is c.number_of-number.ensures c.self.invariant.lists_size c.index_mut-stack.result.now c.index_mut-stack.ensures.value in
    let room = eqb-false _ _ (sym c.is_full.ensures.value ∙ c.if-is_full.false) in
    sym (lt-ltb (length (stacks_of c.args.self.now c.args.seat c.args.class)) 8 (omega (arith, ap length is, room, c.is_full.ensures.fits)))

pub invariant_of-self-2 : goal.invariant_of-self-2
invariant_of-self-2 c =
    let s = c.self.inside in
    let is = stack_read c.self.view_is c.number_of-number.ensures c.self.invariant.lists_size c.index_mut-stack.result.now c.index_mut-stack.ensures.value in
    let room = eqb-false _ _ (sym c.is_full.ensures.value ∙ c.if-is_full.false) in
    let put = rw c.deref_mut.ensures.value at c.put-2.ensures in
    let on : c.put.new.self ≡ c.args.at ∷ stacks_of c.args.self.now c.args.seat c.args.class = c.put.ensures ∙ ap (λ (xs : List ℕ). c.args.at ∷ xs) (sym is) in
    rw (with_items_is s.seats c.put-2.new.words (omega (arith, put.size, s.seats.ok.0)))
    (IsKept-after c.self.view_is c.self.invariant c.number_of-number.ensures c.put-2.new.words c.put.new.self _ put
    (sym (lt-ltb 0 (length c.put.new.self) (omega (arith, ap length c.put.ensures))))
    (subst (λ (xs : List ℕ). AreDistinct (with_stack (stacks_of c.args.self.now) c.args.seat c.args.class xs)) (sym on)
    (AreDistinct-put (distinct_of c.self.view_is c.self.invariant) c.args.seat c.args.class c.args.at c.requires.seat c.requires.class (omega (arith, ap length is, room, c.is_full.ensures.fits)) c.requires.loose)))

pub returns-clause-put : goal.returns-clause-put
returns-clause-put c =
    let is = stack_read c.self.view_is c.number_of-number.ensures c.self.invariant.lists_size c.index_mut-stack.result.now c.index_mut-stack.ensures.value in
    λ _. stacks_after c.self.view_is c.number_of-number.ensures c.self.invariant.lists_size c.put.new.self
    ∙ ap (with_stack (stacks_of c.args.self.now) c.args.seat c.args.class) (c.put.ensures ∙ ap (λ (xs : List ℕ). c.args.at ∷ xs) (sym is))

pub returns-clause-distinct : goal.returns-clause-distinct
returns-clause-distinct c =
    let is = stack_read c.self.view_is c.number_of-number.ensures c.self.invariant.lists_size c.index_mut-stack.result.now c.index_mut-stack.ensures.value in
    let room = eqb-false _ _ (sym c.is_full.ensures.value ∙ c.if-is_full.false) in
    let after : stacks_of _ ≡ with_stack (stacks_of c.args.self.now) c.args.seat c.args.class (c.args.at ∷ stacks_of c.args.self.now c.args.seat c.args.class) =
    stacks_after c.self.view_is c.number_of-number.ensures c.self.invariant.lists_size c.put.new.self
    ∙ ap (with_stack (stacks_of c.args.self.now) c.args.seat c.args.class) (c.put.ensures ∙ ap (λ (xs : List ℕ). c.args.at ∷ xs) (sym is)) in
    subst AreDistinct (sym after)
    (AreDistinct-put (distinct_of c.self.view_is c.self.invariant) c.args.seat c.args.class c.args.at c.requires.seat c.requires.class (omega (arith, ap length is, room, c.is_full.ensures.fits)) c.requires.loose)
