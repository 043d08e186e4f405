use Rattle.std.proofs.Common.{◌≡◌, ◌-◌, ◌/◌, ◌∙◌, refl, sym, ap, arith}
use Rattle.std.proofs.lemmas.Bool.{true≢false}
use Rattle.image_tables.specs.Tables.{is_slab}
use Rattle.image_reading.proofs.Holding.{refuted}
use Rattle.gc_search.proofs.Premises.{slab_at}
use Rattle.gc_search.proofs.Standing.{gc_slab, back_of, no_back}
use Rattle.gc_search.proofs.roots.has_block_back.Goals.{then-last-back-via-then-last-back, then-last-back-via-else-last-back+then-not-is_slab}
use Rattle.gc_search.proofs.roots.has_block_back.Goals as goal

pub returns-then-last-back : goal.returns-then-last-back
returns-then-last-back c =
    let words = c.args.words.now in
    let last = c.args.at / 16384 in
    elim c.then-last-back.branch [
      | then-last-back-via-then-last-back w ↦ refuted (λ found. omega (arith, found.far, w.if-last-back.true))
      | then-last-back-via-else-last-back+then-not-is_slab w ↦ refuted (λ found.
          let here : found.start ≡ last - c.args.back = omega (arith, found.far) in
          true≢false (sym found.slab ∙ gc_slab words found.start ∙ ap (is_slab words) here ∙ sym (w.is_slab.ensures words c.requires.read.reads) ∙ w.if-not-is_slab.true))
    ]

pub number_of-requires-clause-start : goal.number_of-requires-clause-start
number_of-requires-clause-start c =
    let words = c.args.words.now in
    let start = c.args.at / 16384 - c.args.back in
    omega (arith, (slab_at c.requires.read start (sym (c.is_slab.ensures words c.requires.read.reads) ∙ c.if-not-is_slab.false)).small)

pub returns-in-Some : goal.returns-in-Some
returns-in-Some c =
    let words = c.args.words.now in
    let start = c.args.at / 16384 - c.args.back in
    (λ _. back_of words c.args.class c.args.at c.args.back start c.in-Some._number (omega (arith, c.if-last-back.false)) (sym (c.is_slab.ensures words c.requires.read.reads) ∙ c.if-not-is_slab.false) c.in-Some.ensures, λ _. refl)

pub returns-in-None : goal.returns-in-None
returns-in-None c =
    let words = c.args.words.now in
    let start = c.args.at / 16384 - c.args.back in
    refuted (no_back words c.args.class c.args.at c.args.back start (omega (arith, c.if-last-back.false)) c.in-None.ensures)
