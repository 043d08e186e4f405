use Rattle.std.proofs.Common.{◌≡◌, ◌<◌, ℕ, List, Option, Some, length, set, refl, ◌∙◌, subst}
use Rattle.heap_model.specs.Machine.{with_key}
use Rattle.slab_index.specs.declared.candidates.NormalSlab.{NormalSlab}
use Rattle.slab_index.specs.Candidates.{normal_in}
use Rattle.slab_index.proofs.Marks.{AreKept-recounted, normal_after, normal_of_list}
use Rattle.slab_index.proofs.candidates.Candidates.recount.Goals as goal

pub invariant_of-self : goal.invariant_of-self
invariant_of-self c =
    let s = c.self.inside in
    let start = c.args.start in
    let inside : start < length s.normal.items = rw c.self.view_is c.requires.inside in
    let marked = c.mark_anew.ensures.starts in
    AreKept-recounted c.mark_anew.new.starts.words.items c.mark_anew.new.starts.some.items start c.args.was (record { class = c.args.was.class; live = c.args.live }) c.self.invariant inside
    (normal_of_list c.self.view_is start ∙ c.requires.was)
    refl
    c.requires.class
    marked
    c.mark_anew.ensures.rows

pub returns-clause-normal : goal.returns-clause-normal
returns-clause-normal c =
    let s = c.self.inside in
    let start = c.args.start in
    let slab : Option NormalSlab = Some (record { class = c.args.was.class; live = c.args.live }) in
    subst (λ (was : List (Option NormalSlab)). (k : ℕ) → normal_in (set s.normal.items start slab) k ≡ with_key (normal_in was) start slab k) c.self.view_is (normal_after s.normal.items start slab (rw c.self.view_is c.requires.inside))
