use Rattle.std.proofs.Common.{◌≡◌, ◌-◌, ◌∙◌, sym, ap, arith}
use Rattle.image_tables.specs.Tables.{tables_of}
use Rattle.image_tables.proofs.Tables.{slab_table}
use Rattle.image_reading.proofs.held.slab_back.Goals.{then-last-back-via-then-last-back, then-last-back-via-else-last-back+then-not-is_slab}
use Rattle.image_reading.proofs.held.slab_back.Goals as goal

pub returns-then-last-back : goal.returns-then-last-back
returns-then-last-back c =
    let words = c.args.words.now in
    elim c.then-last-back.branch [
      | then-last-back-via-then-last-back w ↦ record { none = λ start is. absurd (omega (arith, is, w.if-last-back.true)) }
      | then-last-back-via-else-last-back+then-not-is_slab w ↦ record {
        none = λ start is.
            let here : start ≡ c.args.last - c.args.back = omega (arith, is) in
            ap (tables_of words).slab here ∙ slab_table words (c.args.last - c.args.back) ∙ sym (w.is_slab.ensures words c.requires.reads) ∙ w.if-not-is_slab.true;
      }
    ]
