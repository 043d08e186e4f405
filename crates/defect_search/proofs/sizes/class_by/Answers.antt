use Rattle.std.proofs.Common.{◌≡◌, ◌∙◌, cond, Bool, true, false, sym}
use Rattle.image_tables.specs.Tables.{tables_of}
use Rattle.defect_search.proofs.BlockSizes.{class_none, old_table-none}
use Rattle.defect_search.proofs.sizes.class_by.Goals as goal

pub returns-then-not-is_slab-clause-class : goal.returns-then-not-is_slab-clause-class
returns-then-not-is_slab-clause-class c =
    let words = c.args.words.now in
    let none = sym (c.is_slab.ensures words c.requires.reads) ∙ c.if-not-is_slab.true in
    elim c.args.of_old as (λ (of_old : Bool). cond of_old ((tables_of words).header c.args.start).old ((tables_of words).header c.args.start).class ≡ 0) [
      | true ↦ old_table-none words c.args.start none
      | false ↦ class_none words c.args.start none
    ]
