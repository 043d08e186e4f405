use Rattle.std.proofs.Common.{◌≡◌, ℕ, List, subst, arith, if◌then◌else◌, ◌==◌, false, sym}
use Rattle.slab_index.proofs.Common.{with_items, with_items_is}
use Rattle.slab_index.specs.Unfit.{is_unfit}
use Rattle.slab_index.proofs.UnfitSets.{AreNoted-less, unfit_less, unfit_none}
use Rattle.slab_index.proofs.unfit.UnfitSlabs.forget_at.Goals as goal

pub invariant_of-self : goal.invariant_of-self
invariant_of-self c =
    let s = c.self.inside in
    let out = rw c.deref_mut.ensures.value at c.take_out.ensures in
    let put = rw c.deref_mut-then-has.ensures.value at c.put.ensures in
    let words_are : (with_items s.words c.take_out.new.words).items ≡ c.take_out.new.words = with_items_is s.words c.take_out.new.words (omega (arith, out.size, s.words.ok.0)) in
    let noted_are : (with_items s.noted c.put.new.words).items ≡ c.put.new.words = with_items_is s.noted c.put.new.words (omega (arith, put.size, s.noted.ok.0)) in
    rw (words_are, noted_are) (AreNoted-less c.args.start c.requires c.self.invariant out put)

pub returns-then-has : goal.returns-then-has
returns-then-has c =
    let s = c.self.inside in
    let out = rw c.deref_mut.ensures.value at c.take_out.ensures in
    let words_are : (with_items s.words c.take_out.new.words).items ≡ c.take_out.new.words = with_items_is s.words c.take_out.new.words (omega (arith, out.size, s.words.ok.0)) in
    rw words_are
    (subst (λ (was : List ℕ). (k i : ℕ) → is_unfit c.take_out.new.words k i ≡ (if i == c.args.start then false else is_unfit was k i)) c.self.view_is
    (unfit_less c.args.start c.requires c.self.invariant out))

pub returns-else-has : goal.returns-else-has
returns-else-has c =
    subst (λ (was : List ℕ). (k i : ℕ) → is_unfit was k i ≡ (if i == c.args.start then false else is_unfit was k i)) c.self.view_is
    (unfit_none c.args.start c.requires c.self.invariant (rw c.deref.ensures.value at (sym c.if-has.ensures)))
