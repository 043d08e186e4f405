use Rattle.std.proofs.Common.{◌≤◌, ◌<◌, sym, subst, arith, inl, inr}
use Rattle.defect_search.proofs.Common.{class_capacity, tables_of}
use Rattle.defect_search.proofs.SlabWords.{form_read, number_read, good_place, twice_place}
use Rattle.defect_search.proofs.header.is_good_place.Goals as goal

pub returns-then-entry-capacity-clause-bad : goal.returns-then-entry-capacity-clause-bad
returns-then-entry-capacity-clause-bad c = λ _.
    let t = tables_of c.args.words.now in
    let number = number_read c.args.words.now c.args.start c.args.place c.index_word.result c.in-Some.entry c.requires.at.slab c.requires.few c.index_word.ensures c.in-Some.ensures.says in
    let past : class_capacity (t.header c.args.start).old ≤ (t.header c.args.start).number c.args.place = subst (λ o. class_capacity o ≤ (t.header c.args.start).number c.args.place) (sym c.requires.old) (omega (arith, number, c.capacity.ensures.count)) in
    record { below = c.requires.below; bad = inr (inl past) }

pub returns-clause-good : goal.returns-clause-good
returns-clause-good c = λ e.
    let t = tables_of c.args.words.now in
    let number = number_read c.args.words.now c.args.start c.args.place c.index_word.result c.in-Some.entry c.requires.at.slab c.requires.few c.index_word.ensures c.in-Some.ensures.says in
    let form = form_read c.args.words.now c.args.start c.args.place c.index_word.result c.in-Some.entry c.index_word.ensures c.in-Some.ensures.says in
    let small : c.in-Some.entry.number < class_capacity (t.header c.args.start).old = subst (λ o. c.in-Some.entry.number < class_capacity o) (sym c.requires.old) (omega (arith, c.capacity.ensures.count)) in
    good_place c.args.words.now c.args.start c.args.place c.in-Some.entry.number c.has_number.result form number small c.has_number.ensures e

pub returns-clause-bad : goal.returns-clause-bad
returns-clause-bad c = λ e.
    let number = number_read c.args.words.now c.args.start c.args.place c.index_word.result c.in-Some.entry c.requires.at.slab c.requires.few c.index_word.ensures c.in-Some.ensures.says in
    twice_place c.args.words.now c.args.start c.args.place c.in-Some.entry.number c.has_number.result c.requires.below number c.has_number.ensures e
