use Rattle.std.proofs.Common.{◌∙◌, ◌/◌, ℕ, ap, sym, arith}
use Rattle.image_tables.specs.Tables.{tables_of}
use Rattle.gc_check.specs.Heap.{address_field, gc_tables}
use Rattle.gc_check.proofs.Heaps.{size_large}
use Rattle.gc_search.proofs.Standing.{gc_large}
use Rattle.gc_map.proofs.block.size_of.Goals as goal

pub returns-then-class-eq0 : goal.returns-then-class-eq0
returns-then-class-eq0 c =
    let words = c.args.words.now in
    let size = size_large (gc_tables words).large c.args.word (sym c.class_field_of-class.ensures ∙ c.if-class-eq0.true) in
    let large = c.large_at.ensures words c.requires.image.book.reads ∙ ap (λ (a : ℕ). (tables_of words).large (a / 16384)) c.address_of.ensures.field ∙ sym (gc_large words (address_field c.args.word / 16384)) in
    omega (arith, size, large, c.from.ensures)
