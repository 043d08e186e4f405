use Rattle.std.proofs.Common.{◌≡◌, ◌*◌, ◌/◌, List, ℕ, refl, sym, subst, arith}
use Rattle.pmem_lines.specs.Words.{put_word}
use Rattle.pmem_lines.specs.declared.event.Event.{Event}
use Rattle.pmem_lines.specs.Pmem.{words_of, Appends}
use Rattle.pmem_lines.proofs.States.{then_step}
use Rattle.image_tables.specs.Tables.{index_word}
use Rattle.slab_header.specs.Index.{word_of_index, SaysOfIndex}
use Rattle.slab_header.specs.Steps.{put_events, PutsIndex}
use Rattle.slab_header.proofs.Tables.{puts_index}
use Rattle.slab_header.proofs.steps.put_index.Given as given
use Rattle.slab_header.proofs.steps.put_index.Goals as goal

-- the place of the word
place : (g : given.Over) (c : goal.After-flush g) → c.index_at-entry_at.result ≡ 8 * index_word (c.args.at / 16384) c.args.place
place g c = omega (arith, c.index_at-entry_at.ensures)

pub returns-clause-appends : goal.returns-clause-appends
returns-clause-appends g c =
    let state = g.P.Pmem.state in
    subst (λ (es : List Event). Appends (state c.args.p.now) (state c.flush.new.self) es)
    (λ i. put_events (place g c i) (c.index_word.ensures.word i))
    (then_step c.store.ensures c.flush.ensures)

pub returns-clause-over : goal.returns-clause-over
returns-clause-over g c = record {
  each = λ image size.
      puts_index image (c.args.at / 16384) c.args.place (word_of_index c.args.e) c.args.e c.requires.place (omega (arith, size))
      (subst (λ w. SaysOfIndex w c.args.e) c.index_word.ensures.word c.index_word.ensures.says);
}

pub returns-clause-entry : goal.returns-clause-entry
returns-clause-entry g c =
    let words = words_of (g.P.Pmem.state c.args.p.now) in
    let word = index_word (c.args.at / 16384) c.args.place in
    let new = words_of (g.P.Pmem.state c.flush.new.self) in
    let at : 8 * word / 8 ≡ word = omega arith in
    let left = subst (λ k. new ≡ put_word words k (word_of_index c.args.e)) at (returns-clause-appends g c).words in
    subst (λ (ws : List ℕ). PutsIndex words ws (c.args.at / 16384) c.args.place c.args.e) (sym left) ((returns-clause-over g c).each words refl)
