use Rattle.std.proofs.Common.{◌≡◌, ◌<◌, ℕ, List, Option, None, length, set, sym, ◌∙◌, subst, arith}
use Rattle.slab_index.proofs.Common.{with_items, with_items_is, with_key}
use Rattle.slab_index.specs.declared.candidates.NormalSlab.{NormalSlab}
use Rattle.slab_index.specs.Candidates.{normal_in}
use Rattle.slab_index.proofs.Marks.{AreKept-left, normal_after, normal_of_list}
use Rattle.slab_index.proofs.candidates.Candidates.remove.Goals as goal

pub invariant_of-self : goal.invariant_of-self
invariant_of-self c =
    let s = c.self.inside in
    let start = c.args.start in
    let inside : start < length s.normal.items = rw c.self.view_is c.in-Some.ensures.inside in
    let put = rw c.deref_mut.ensures.value at c.mark_class.ensures in
    let marked = c.mark_sparse.ensures.starts in
    let classes_are : (with_items s.classes c.mark_class.new.classes).items ≡ c.mark_class.new.classes = with_items_is s.classes c.mark_class.new.classes (omega (arith, put.size, s.classes.ok.0)) in
    rw classes_are
    (AreKept-left c.mark_sparse.new.starts.words.items c.mark_sparse.new.starts.some.items c.mark_class.new.classes start c.in-Some.slab c.self.invariant inside
    (normal_of_list c.self.view_is start ∙ sym c.in-Some.ensures.slab)
    marked
    c.mark_sparse.ensures.rows
    put)

pub returns-in-Some-clause-normal : goal.returns-in-Some-clause-normal
returns-in-Some-clause-normal c =
    let s = c.self.inside in
    let start = c.args.start in
    subst (λ (was : List (Option NormalSlab)). (k : ℕ) → normal_in (set s.normal.items start None) k ≡ with_key (normal_in was) start None k) c.self.view_is (normal_after s.normal.items start None (rw c.self.view_is c.in-Some.ensures.inside))
