use Rattle.std.proofs.Common.{◌≡◌, ◌<◌, ℕ, List, Option, Some, length, set, ◌∙◌, subst, arith}
use Rattle.slab_index.proofs.Common.{with_items, with_items_is, with_key}
use Rattle.slab_index.specs.declared.candidates.NormalSlab.{NormalSlab}
use Rattle.slab_index.specs.Candidates.{normal_in}
use Rattle.slab_index.proofs.Marks.{AreKept-come, normal_after, normal_of_list}
use Rattle.slab_index.proofs.candidates.Candidates.insert.Goals as goal

pub invariant_of-self : goal.invariant_of-self
invariant_of-self c =
    let s = c.self.inside in
    let start = c.args.start in
    let inside : start < length s.normal.items = rw c.self.view_is c.requires.inside in
    let put = rw c.deref_mut.ensures.value at c.mark_class.ensures in
    let marked = c.mark_sparse.ensures.starts in
    let classes_are : (with_items s.classes c.mark_class.new.classes).items ≡ c.mark_class.new.classes = with_items_is s.classes c.mark_class.new.classes (omega (arith, put.size, s.classes.ok.0)) in
    rw classes_are
    (AreKept-come c.mark_sparse.new.starts.words.items c.mark_sparse.new.starts.some.items c.mark_class.new.classes start c.args.slab c.self.invariant inside
    (normal_of_list c.self.view_is start ∙ c.requires.fresh)
    c.requires.class
    marked
    c.mark_sparse.ensures.rows
    put)

pub returns-clause-normal : goal.returns-clause-normal
returns-clause-normal c =
    let s = c.self.inside in
    let start = c.args.start in
    let slab : Option NormalSlab = Some c.args.slab in
    subst (λ (was : List (Option NormalSlab)). (k : ℕ) → normal_in (set s.normal.items start slab) k ≡ with_key (normal_in was) start slab k) c.self.view_is (normal_after s.normal.items start slab (rw c.self.view_is c.requires.inside))
