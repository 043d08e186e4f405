use Rattle.std.proofs.Common.{◌≡◌, ℕ, List, subst, arith, if◌then◌else◌, ◌==◌, false}
use Rattle.slab_index.proofs.Common.{with_items, with_items_is, IsFilled}
use Rattle.slab_index.specs.Unfit.{is_unfit}
use Rattle.slab_index.proofs.UnfitSets.{AreNoted-class, unfit_class}
use Rattle.slab_index.proofs.unfit.UnfitSlabs.forget_class.Goals as goal

pub invariant_of-self : goal.invariant_of-self
invariant_of-self c =
    let s = c.self.inside in
    let filled : IsFilled s.words.items c.args.class 0 c.fill.new.words = subst (λ class. IsFilled s.words.items class 0 c.fill.new.words) c.from.ensures (rw c.deref_mut.ensures.value at c.fill.ensures) in
    let words_are : (with_items s.words c.fill.new.words).items ≡ c.fill.new.words = with_items_is s.words c.fill.new.words (omega (arith, filled.size, s.words.ok.0)) in
    rw words_are (AreNoted-class c.args.class filled c.self.invariant)

pub returns : goal.returns
returns c =
    let s = c.self.inside in
    let filled : IsFilled s.words.items c.args.class 0 c.fill.new.words = subst (λ class. IsFilled s.words.items class 0 c.fill.new.words) c.from.ensures (rw c.deref_mut.ensures.value at c.fill.ensures) in
    let words_are : (with_items s.words c.fill.new.words).items ≡ c.fill.new.words = with_items_is s.words c.fill.new.words (omega (arith, filled.size, s.words.ok.0)) in
    rw words_are
    (subst (λ (was : List ℕ). (k i : ℕ) → is_unfit c.fill.new.words k i ≡ (if k == c.args.class then false else is_unfit was k i)) c.self.view_is
    (unfit_class c.args.class filled c.self.invariant))
