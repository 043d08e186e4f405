use Rattle.std.proofs.Common.{◌≡◌, ◌*◌, ◌/◌, ◌%◌, ◌∙◌, List, ℕ, refl, sym, ap, subst, arith}
use Rattle.pmem_lines.specs.Words.{word_at, put_word}
use Rattle.pmem_lines.specs.declared.event.Event.{Event}
use Rattle.pmem_lines.specs.Pmem.{words_of, Appends}
use Rattle.pmem_lines.proofs.States.{then_step}
use Rattle.interleaved_bitmap.specs.Places.{PutsBit as PutsWord}
use Rattle.image_tables.specs.Tables.{bitmap_word}
use Rattle.slab_header.specs.Steps.{put_events, with_bit, PutsBit}
use Rattle.slab_header.proofs.Bits.{with_bit_is}
use Rattle.slab_header.proofs.Putting.{bit_place-is, puts_bit}
use Rattle.slab_header.proofs.steps.put_bit.Given as given
use Rattle.slab_header.proofs.steps.put_bit.Goals as goal

-- the word that is put is the one that has the bit
place : (g : given.Over) (c : goal.After-flush g) → c.slab_header_at-place.result ≡ 8 * bitmap_word (c.args.at / 16384) c.args.i
place g c = bit_place-is c.args.at c.args.i c.bit_place-line.result.0 c.bit_place-line.result.1 c.slab_header_at-place.result c.requires.aligned c.bit_place-line.ensures.line c.bit_place-line.ensures.bit c.slab_header_at-place.ensures

-- the word that was there
abbrev old : (g : given.Over) (c : goal.After-flush g) → ℕ
old g c = word_at (words_of (g.P.Pmem.state c.args.p.now)) (bitmap_word (c.args.at / 16384) c.args.i)

loaded : (g : given.Over) (c : goal.After-flush g) → c.load.result ≡ old g c
loaded g c =
    let here : c.slab_header_at-place.result / 8 ≡ bitmap_word (c.args.at / 16384) c.args.i = omega (arith, place g c) in
    c.load.ensures ∙ ap (word_at (words_of (g.P.Pmem.state c.args.p.now))) here

bit_is : (g : given.Over) (c : goal.After-flush g) → c.bit_place-line.result.1 % 64 ≡ c.args.i / 8 % 64
bit_is g c = ap (λ b. b % 64) c.bit_place-line.ensures.bit

-- the word that is put
word : (g : given.Over) (c : goal.After-flush g) → c.set_word-word.result ≡ with_bit (old g c) (c.args.i / 8 % 64) c.args.on
word g c =
    with_bit_is c.load.result (c.bit_place-line.result.1 % 64) c.args.on c.set_word-word.result c.load.type_inv c.set_word-word.type_inv c.set_word-word.ensures.word
    ∙ ap (λ w. with_bit w (c.bit_place-line.result.1 % 64) c.args.on) (loaded g c)
    ∙ ap (λ b. with_bit (old g c) b c.args.on) (bit_is g c)

puts : (g : given.Over) (c : goal.After-flush g) → PutsWord (old g c) (c.args.i / 8 % 64) c.args.on (with_bit (old g c) (c.args.i / 8 % 64) c.args.on)
puts g c =
    subst (PutsWord (old g c) (c.args.i / 8 % 64) c.args.on) (word g c)
    (subst (λ b. PutsWord (old g c) b c.args.on c.set_word-word.result) (bit_is g c)
    (subst (λ w. PutsWord w (c.bit_place-line.result.1 % 64) c.args.on c.set_word-word.result) (loaded g c) c.set_word-word.ensures.header))

pub returns-clause-appends : goal.returns-clause-appends
returns-clause-appends g c =
    let state = g.P.Pmem.state in
    subst (λ (es : List Event). Appends (state c.args.p.now) (state c.flush.new.self) es)
    (λ i. put_events (place g c i) (word g c i))
    (then_step c.store.ensures c.flush.ensures)

pub returns-clause-over : goal.returns-clause-over
returns-clause-over g c = record {
  each = λ image size same.
      puts_bit image (c.args.at / 16384) c.args.i c.args.on (with_bit (old g c) (c.args.i / 8 % 64) c.args.on) c.requires.block (omega (arith, size))
      (subst (λ w. PutsWord w (c.args.i / 8 % 64) c.args.on (with_bit (old g c) (c.args.i / 8 % 64) c.args.on)) (sym same) (puts g c));
}

pub returns-clause-bits : goal.returns-clause-bits
returns-clause-bits g c =
    let words = words_of (g.P.Pmem.state c.args.p.now) in
    let start = c.args.at / 16384 in
    let new = words_of (g.P.Pmem.state c.flush.new.self) in
    let at : 8 * bitmap_word start c.args.i / 8 ≡ bitmap_word start c.args.i = omega arith in
    let left = subst (λ k. new ≡ put_word words k (with_bit (old g c) (c.args.i / 8 % 64) c.args.on)) at (returns-clause-appends g c).words in
    subst (λ (ws : List ℕ). PutsBit words ws start c.args.i c.args.on) (sym left) ((returns-clause-over g c).each words refl refl)
