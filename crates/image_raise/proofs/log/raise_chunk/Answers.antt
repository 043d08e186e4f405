use Rattle.std.proofs.Common.{◌≡◌, ◌+◌, ◌/◌, arith, rules, get_or, subst, sym}
use Rattle.pmem_lines.specs.Words.{word_at, put_word}
use Rattle.image_raise.proofs.Common.{entry_slot, entry_slot-high}
use Rattle.image_raise.specs.Front.{IsRaisedWord, HasRaisedEntries}
use Rattle.image_raise.proofs.Rows.{fits_now}
use Rattle.image_raise.proofs.Steps.{entries_more}
use Rattle.image_raise.proofs.log.raise_chunk.Goals as goal

pub entry_at-requires-in-loop-entry-clause-entry : goal.entry_at-requires-in-loop-entry-clause-entry
entry_at-requires-in-loop-entry-clause-entry c = fits_now c.loop-entry.entry (search rules)

pub bounds-front-entry_at : goal.bounds-front-entry_at
bounds-front-entry_at c =
    omega (arith, c.entry_at-in-loop-entry.ensures, c.loop-entry.invariant.size, c.requires.front, entry_slot-high 2 c.args.chunk c.loop-entry.entry c.requires.chunk (fits_now c.loop-entry.entry (search rules)))

pub loop-entry-preserved : goal.loop-entry-preserved
unfolding put_word word_at
loop-entry-preserved c =
    let chunk = c.args.chunk in
    let entry = c.loop-entry.entry in
    let here : c.entry_at-in-loop-entry.result / 8 ≡ entry_slot 2 chunk entry = omega (arith, c.entry_at-in-loop-entry.ensures) in
    subst (λ k. HasRaisedEntries c.args.words.now c.args.granules chunk (entry + 1) c.args.front.now (put_word c.loop-entry.front k c.raised_word.result)) (sym here)
    (entries_more c.args.words.now c.args.front.now c.loop-entry.front c.args.granules chunk entry c.raised_word.result c.loop-entry.invariant (search rules) (omega (arith, here, bounds-front-entry_at c))
    (subst (λ k. IsRaisedWord c.args.granules (get_or c.args.words.now k 0) c.raised_word.result) (omega (arith, c.entry_at.ensures)) c.raised_word.ensures))
