use Rattle.std.proofs.Common.{◌∙◌, ◌<◌, ◌≤◌, ◌+◌, ◌*◌, ap, sym, subst, arith, length}
use Rattle.defect_search.proofs.Common.{layout_of, version_in, entry_slot, chunk_word}
use Rattle.book_log.proofs.Places.{entry_slot-within, word_of_place}
use Rattle.defect_search.proofs.log.logged.Goals as goal

pub entry_at-requires-clause-entry : goal.entry_at-requires-clause-entry
entry_at-requires-clause-entry c = subst (λ v. c.args.entry < (layout_of v).chunk_entries) (sym c.requires.version) c.requires.entry

pub word_at-requires-clause-inside : goal.word_at-requires-clause-inside
word_at-requires-clause-inside c =
    let a = c.args in
    let below = subst (λ v. a.entry < (layout_of v).chunk_entries) (sym c.requires.version) c.requires.entry in
    let room = subst (λ v. chunk_word v (a.chunk + 1) ≤ length a.words.now) (sym c.requires.version) c.requires.inside in
    omega (arith, c.entry_at.ensures, entry_slot-within a.version a.chunk a.entry below, room)

pub returns : goal.returns
returns c =
    let a = c.args in
    c.word_at.ensures ∙ word_of_place a.words.now c.entry_at.result (entry_slot (version_in a.words.now) a.chunk a.entry) (c.entry_at.ensures ∙ ap (λ v. 8 * entry_slot v a.chunk a.entry) c.requires.version)
