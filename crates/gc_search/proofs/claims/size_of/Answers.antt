use Rattle.std.proofs.Common.{◌*◌, ◌/◌, ◌∙◌, sym, ap}
use Rattle.image_tables.specs.Tables.{tables_of}
use Rattle.gc_check.specs.Heap.{address_field, gc_tables}
use Rattle.gc_check.proofs.Heaps.{size_large}
use Rattle.gc_search.proofs.Standing.{gc_large}
use Rattle.gc_search.proofs.claims.size_of.Goals as goal

pub returns-then-class-eq0 : goal.returns-then-class-eq0
returns-then-class-eq0 c =
    let words = c.args.words.now in
    let word = c.args.word in
    let start = address_field word / 16384 in
    let large = c.large_at.ensures words c.requires.read.reads ∙ ap (λ a. (tables_of words).large (a / 16384)) c.address_of.ensures.field ∙ sym (gc_large words start) in
    ap (λ n. 16384 * n) (c.from.ensures ∙ large) ∙ sym (size_large (gc_tables words).large word (sym c.class_field_of-class.ensures ∙ c.if-class-eq0.true))
