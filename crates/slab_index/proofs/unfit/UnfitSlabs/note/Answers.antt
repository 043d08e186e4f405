use Rattle.std.proofs.Common.{◌≡◌, ◌+◌, ◌*◌, ℕ, List, subst, arith, if◌then◌else◌, ◌==◌, ◌&&◌, true}
use Rattle.slab_index.proofs.Common.{with_items, with_items_is, IsPut}
use Rattle.slab_index.specs.Unfit.{is_unfit}
use Rattle.slab_index.proofs.UnfitSets.{AreNoted-more, unfit_more}
use Rattle.slab_index.proofs.unfit.UnfitSlabs.note.Goals as goal

pub invariant_of-self : goal.invariant_of-self
invariant_of-self c =
    let s = c.self.inside in
    let put : IsPut s.words.items (4096 * c.args.class + c.args.start) true c.put.new.words = subst (λ class. IsPut s.words.items (4096 * class + c.args.start) true c.put.new.words) c.from.ensures (rw c.deref_mut.ensures.value at c.put.ensures) in
    let also = rw c.deref_mut-2.ensures.value at c.put-2.ensures in
    let words_are : (with_items s.words c.put.new.words).items ≡ c.put.new.words = with_items_is s.words c.put.new.words (omega (arith, put.size, s.words.ok.0)) in
    let noted_are : (with_items s.noted c.put-2.new.words).items ≡ c.put-2.new.words = with_items_is s.noted c.put-2.new.words (omega (arith, also.size, s.noted.ok.0)) in
    rw (words_are, noted_are) (AreNoted-more c.args.start c.requires.start c.self.invariant c.args.class put also)

pub returns : goal.returns
returns c =
    let s = c.self.inside in
    let put : IsPut s.words.items (4096 * c.args.class + c.args.start) true c.put.new.words = subst (λ class. IsPut s.words.items (4096 * class + c.args.start) true c.put.new.words) c.from.ensures (rw c.deref_mut.ensures.value at c.put.ensures) in
    let words_are : (with_items s.words c.put.new.words).items ≡ c.put.new.words = with_items_is s.words c.put.new.words (omega (arith, put.size, s.words.ok.0)) in
    rw words_are
    (subst (λ (was : List ℕ). (k i : ℕ) → is_unfit c.put.new.words k i ≡ (if i == c.args.start && k == c.args.class then true else is_unfit was k i)) c.self.view_is
    (unfit_more c.args.start c.requires.start c.self.invariant c.args.class put))
