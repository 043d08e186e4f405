use Rattle.std.proofs.Common.{◌≡◌, ℕ, ◌<◌, Some, ◌∷◌, length, sym, ap, ◌∙◌, subst, arith, refl, inl, inr}
use Rattle.block_supply.proofs.Common.{ltb-true, IsInNoStack, with_stack, class_in, IsBlock, StackTable, stacks_of}
use Rattle.block_supply.specs.Supply.{Supply, MayBeGiven, CameBack}
use Rattle.block_supply.specs.Kept.{IsKept}
use Rattle.block_supply.proofs.Addresses.{one_class, same_within}
use Rattle.block_supply.proofs.Returns.{was_loose, kept_on, with_on, kept_free, with_free}
use Rattle.block_supply.proofs.supply.BlockSupply.put_back.Goals as goal

pub put_back-requires-clause-loose : goal.put_back-requires-clause-loose
put_back-requires-clause-loose c =
    let slab : class_in c.self.inside.slabs c.args.block.start ≡ Some c.in-Some.class = sym c.in-Some.ensures.class in
    let within = same_within c.self.inside.slabs c.args.block.start c.args.block.number c.in-Some.class slab (subst (λ (s : Supply). IsBlock s.slabs c.args.block.start c.args.block.number) (sym c.self.view_is) c.requires.block) in
    let used = subst (λ (s : Supply). ¬ (MayBeGiven s c.args.block.start c.args.block.number)) (sym c.self.view_is) c.requires.used in
    subst (IsInNoStack (stacks_of c.self.inside.caches)) (sym c.address_of-at.ensures) (was_loose (record { slabs = c.self.inside.slabs; stacks = c.self.inside.caches }) c.self.invariant c.in-Some.class c.args.block.start c.args.block.number slab within used)

pub invariant_of-self : goal.invariant_of-self
invariant_of-self c =
    let slab : class_in c.self.inside.slabs c.args.block.start ≡ Some c.in-Some.class = sym c.in-Some.ensures.class in
    let within = same_within c.self.inside.slabs c.args.block.start c.args.block.number c.in-Some.class slab (subst (λ (s : Supply). IsBlock s.slabs c.args.block.start c.args.block.number) (sym c.self.view_is) c.requires.block) in
    let used = subst (λ (s : Supply). ¬ (MayBeGiven s c.args.block.start c.args.block.number)) (sym c.self.view_is) c.requires.used in
    subst (λ (t : StackTable). IsKept c.give.new.self t) (sym (c.put_back.ensures.same c.if-not-put_back.true))
    (kept_free (record { slabs = c.self.inside.slabs; stacks = c.self.inside.caches }) c.self.invariant c.in-Some.class c.args.block.start c.args.block.number slab within used c.give.new.self c.give.ensures.granules c.give.ensures.classes c.give.ensures.blocks)

pub invariant_of-self-else-not-put_back : goal.invariant_of-self-else-not-put_back
invariant_of-self-else-not-put_back c =
    let slab : class_in c.self.inside.slabs c.args.block.start ≡ Some c.in-Some.class = sym c.in-Some.ensures.class in
    let within = same_within c.self.inside.slabs c.args.block.start c.args.block.number c.in-Some.class slab (subst (λ (s : Supply). IsBlock s.slabs c.args.block.start c.args.block.number) (sym c.self.view_is) c.requires.block) in
    let used = subst (λ (s : Supply). ¬ (MayBeGiven s c.args.block.start c.args.block.number)) (sym c.self.view_is) c.requires.used in
    let room : length (stacks_of c.self.inside.caches c.args.seat c.in-Some.class) < 8 = ltb-true _ _ (sym c.put_back.ensures.room ∙ c.if-not-put_back.false) in
    let put = c.put_back.ensures.put c.if-not-put_back.false ∙ ap (λ (a : ℕ). with_stack (stacks_of c.self.inside.caches) c.args.seat c.in-Some.class (a ∷ stacks_of c.self.inside.caches c.args.seat c.in-Some.class)) c.address_of-at.ensures in
    kept_on (record { slabs = c.self.inside.slabs; stacks = c.self.inside.caches }) c.self.invariant c.in-Some.class c.args.block.start c.args.block.number slab within used c.args.seat c.put_back.new.self c.put_back.ensures.distinct put

pub returns-then-not-put_back : goal.returns-then-not-put_back
returns-then-not-put_back c class is =
    let slab : class_in c.self.inside.slabs c.args.block.start ≡ Some c.in-Some.class = sym c.in-Some.ensures.class in
    let within = same_within c.self.inside.slabs c.args.block.start c.args.block.number c.in-Some.class slab (subst (λ (s : Supply). IsBlock s.slabs c.args.block.start c.args.block.number) (sym c.self.view_is) c.requires.block) in
    let used = subst (λ (s : Supply). ¬ (MayBeGiven s c.args.block.start c.args.block.number)) (sym c.self.view_is) c.requires.used in
    let same = c.put_back.ensures.same c.if-not-put_back.true in
    let full = c.put_back.ensures.full c.if-not-put_back.true in
    let class_is = one_class c.self.inside.slabs c.args.block.start c.in-Some.class class slab (ap (λ (s : Supply). class_in s.slabs c.args.block.start) c.self.view_is ∙ is) in
    rw (sym c.self.view_is)
    (subst (λ (k : ℕ). CameBack (record { slabs = c.self.inside.slabs; stacks = c.self.inside.caches }) c.args.seat k c.args.block (record { slabs = c.give.new.self; stacks = c.put_back.new.self })) class_is
    (subst (λ (t : StackTable). CameBack (record { slabs = c.self.inside.slabs; stacks = c.self.inside.caches }) c.args.seat c.in-Some.class c.args.block (record { slabs = c.give.new.self; stacks = t })) (sym same) (record {
      with_block = with_free (record { slabs = c.self.inside.slabs; stacks = c.self.inside.caches }) c.self.invariant c.in-Some.class c.args.block.start c.args.block.number slab within used c.give.new.self c.give.ensures.granules c.give.ensures.classes c.give.ensures.blocks;
      stacks = inr (λ room. omega (arith, room, full), refl);
    })))

pub returns-else-not-put_back : goal.returns-else-not-put_back
returns-else-not-put_back c class is =
    let slab : class_in c.self.inside.slabs c.args.block.start ≡ Some c.in-Some.class = sym c.in-Some.ensures.class in
    let within = same_within c.self.inside.slabs c.args.block.start c.args.block.number c.in-Some.class slab (subst (λ (s : Supply). IsBlock s.slabs c.args.block.start c.args.block.number) (sym c.self.view_is) c.requires.block) in
    let used = subst (λ (s : Supply). ¬ (MayBeGiven s c.args.block.start c.args.block.number)) (sym c.self.view_is) c.requires.used in
    let room : length (stacks_of c.self.inside.caches c.args.seat c.in-Some.class) < 8 = ltb-true _ _ (sym c.put_back.ensures.room ∙ c.if-not-put_back.false) in
    let put = c.put_back.ensures.put c.if-not-put_back.false ∙ ap (λ (a : ℕ). with_stack (stacks_of c.self.inside.caches) c.args.seat c.in-Some.class (a ∷ stacks_of c.self.inside.caches c.args.seat c.in-Some.class)) c.address_of-at.ensures in
    let class_is = one_class c.self.inside.slabs c.args.block.start c.in-Some.class class slab (ap (λ (s : Supply). class_in s.slabs c.args.block.start) c.self.view_is ∙ is) in
    rw (sym c.self.view_is)
    (subst (λ (k : ℕ). CameBack (record { slabs = c.self.inside.slabs; stacks = c.self.inside.caches }) c.args.seat k c.args.block (record { slabs = c.self.inside.slabs; stacks = c.put_back.new.self })) class_is (record {
      with_block = with_on (record { slabs = c.self.inside.slabs; stacks = c.self.inside.caches }) c.self.invariant c.in-Some.class c.args.block.start c.args.block.number slab within used c.args.seat c.put_back.new.self c.put_back.ensures.distinct put;
      stacks = inl (room, put);
    }))
