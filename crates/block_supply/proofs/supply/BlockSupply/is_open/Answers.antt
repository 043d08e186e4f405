use Rattle.std.proofs.Common.{◌≡◌, ℕ, false, Some, true≢false, sym, ◌∙◌, subst, inr, ⊎_elim}
use Rattle.block_supply.proofs.Common.{cases_Bool, Has, IsInNoStack, class_in, is_available, IsBlock, stacks_of}
use Rattle.block_supply.specs.Supply.{Supply, IsStacked}
use Rattle.block_supply.proofs.Addresses.{same_within}
use Rattle.block_supply.proofs.Opens.{not_stacked, stacked_if}
use Rattle.block_supply.proofs.supply.BlockSupply.is_open.Goals as goal

pub returns-else-is_available : goal.returns-else-is_available
returns-else-is_available c =
    let slab : class_in c.self.inside.slabs c.args.start ≡ Some c.in-Some.class = sym c.in-Some.ensures.class in
    let within = same_within c.self.inside.slabs c.args.start c.args.number c.in-Some.class slab (subst (λ (s : Supply). IsBlock s.slabs c.args.start c.args.number) (sym c.self.view_is) c.requires) in
    let used : is_available c.self.inside.slabs c.args.start c.args.number ≡ false = sym c.is_available.ensures ∙ c.if-is_available.false in
    rw (sym c.self.view_is) (
      λ held.
          let is = c.holds.ensures.held held in
          inr (stacked_if c.self.invariant c.args.start c.in-Some.class c.args.number slab within is.seat is.class (subst (λ (a : ℕ). Has (stacks_of c.self.inside.caches is.seat is.class) a) c.address_of-at.ensures is.has)),
      λ is. ⊎_elim
          (λ available. absurd (true≢false (sym available ∙ used)))
          (λ (stacked : IsStacked (record { slabs = c.self.inside.slabs; stacks = c.self.inside.caches }) c.args.start c.args.number). ⊎_elim
          (λ held. held)
          (λ none. absurd (not_stacked c.args.start c.in-Some.class c.args.number slab (subst (λ (a : ℕ). IsInNoStack (stacks_of c.self.inside.caches) a) c.address_of-at.ensures (c.holds.ensures.loose none)) stacked))
          (cases_Bool c.holds.result))
          is,
    )
