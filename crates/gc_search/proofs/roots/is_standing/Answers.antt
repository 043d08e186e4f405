use Rattle.std.proofs.Common.{◌∙◌, sym, ap}
use Rattle.image_tables.specs.Tables.{tables_of}
use Rattle.heap_check.specs.Heap.{is_large}
use Rattle.gc_search.proofs.Premises.{extents_of}
use Rattle.gc_search.proofs.Standing.{standing_large}
use Rattle.gc_search.proofs.roots.is_standing.Goals as goal

pub is_large-requires-clause-extents : goal.is_large-requires-clause-extents
is_large-requires-clause-extents c = extents_of c.requires

pub returns-then-class-eq0 : goal.returns-then-class-eq0
returns-then-class-eq0 c =
    let words = c.args.words.now in
    standing_large words c.args.word c.is_large.result (c.is_root_word.ensures.0 c.if-not-is_root_word.false) (sym c.class_field_of-class.ensures ∙ c.if-class-eq0.true)
    (c.is_large.ensures ∙ ap (is_large (tables_of words).large) c.address_of.ensures.field)
