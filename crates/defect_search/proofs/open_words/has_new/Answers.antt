use Rattle.std.proofs.Common.{◌∙◌, sym, refl}
use Rattle.defect_search.proofs.Common.{tables_of, slab_table, refuted}
use Rattle.defect_search.proofs.OpenEntries.{new_of_number, not_new}
use Rattle.defect_search.proofs.open_words.has_new.Goals as goal

pub returns-in-Some : goal.returns-in-Some
returns-in-Some c = (
  λ _. new_of_number (tables_of c.args.words.now) c.args.slab.start c.class_of.result c.args.at c.in-Some.field-0 (slab_table c.args.words.now c.args.slab.start ∙ c.requires.at.slab) (c.requires.of.class ∙ sym c.class_of.ensures) c.in-Some.ensures,
  λ _. refl,
)

pub returns-in-None : goal.returns-in-None
returns-in-None c = refuted (not_new (tables_of c.args.words.now) c.args.slab.start c.class_of.result c.args.at (c.requires.of.class ∙ sym c.class_of.ensures) c.in-None.ensures)
