use Rattle.std.proofs.Common.{◌∙◌, ◌+◌, ◌-◌, ap, sym, arith, drop, get_or}
use Rattle.log_room.proofs.Common.{live_at, live_words}
use Rattle.log_room.proofs.Next.{next_fits, next_below, next_words, no_words}
use Rattle.log_room.proofs.copying.next_entry.Goals as goal

pub log_word-requires : goal.log_word-requires
log_word-requires c = next_fits 0 c.args.log.now.granules (live_at c.args.log.now) c.args.from c.in-Some.entry c.requires c.in-Some.ensures.live

pub overflow_add-result : goal.overflow_add-result
overflow_add-result c = omega (arith, c.start.ensures, (next_below 0 c.args.log.now.granules (live_at c.args.log.now) c.args.from c.in-Some.entry c.requires c.in-Some.ensures.live).1)

pub returns-in-Some-clause-word : goal.returns-in-Some-clause-word
returns-in-Some-clause-word c =
    c.log_word.ensures.word ∙ ap (λ ws. get_or ws 0 0) (sym (next_words 0 c.args.log.now.granules (live_at c.args.log.now) c.args.from c.in-Some.entry c.requires c.in-Some.ensures.live))

pub returns-in-Some-clause-rest : goal.returns-in-Some-clause-rest
returns-in-Some-clause-rest c =
    ap (λ s. live_words (live_at c.args.log.now) (s + 1) (c.args.log.now.granules - (s + 1))) c.start.ensures
    ∙ ap (drop 1) (sym (next_words 0 c.args.log.now.granules (live_at c.args.log.now) c.args.from c.in-Some.entry c.requires c.in-Some.ensures.live))

pub returns-in-None-clause-word : goal.returns-in-None-clause-word
returns-in-None-clause-word c = ap (λ ws. get_or ws 0 0) (sym (no_words (live_at c.args.log.now) c.args.from (c.args.log.now.granules - c.args.from) c.in-None.ensures.live))

pub returns-in-None-clause-rest : goal.returns-in-None-clause-rest
returns-in-None-clause-rest c =
    let none = no_words (live_at c.args.log.now) c.args.from (c.args.log.now.granules - c.args.from) c.in-None.ensures.live in
    none ∙ ap (drop 1) (sym none)
