use Rattle.std.proofs.Common.{◌≡◌, ◌∙◌, ◌+◌, ◌-◌, ◌*◌, ◌/◌, length, take, sym, ap, arith}
use Rattle.std.proofs.lemmas.List.{take_all}
use borrow.Rule.Slice.PartMut.{put_mid}
use Rattle.pmem_lines.specs.Words.{word_at, words_at}
use Rattle.pool_layout.specs.Bytes.{bytes_of_words}
use Rattle.pool_layout.proofs.Words.{bytes_of_words-none, bytes_of_words-more, take-put_word_bytes}
use Rattle.pool_layout.proofs.bytes.image_bytes.Goals as goal

pub loop-i-init : goal.loop-i-init
loop-i-init c = sym (bytes_of_words-none c.args.words.now c.args.from)

pub loop-i-preserved : goal.loop-i-preserved
unfolding word_at
loop-i-preserved c =
    let i = c.loop-i.i in
    let into = c.loop-i.into in
    let size : length into ≡ length c.args.into.now = c.loop-i.auto.into in
    let next : 8 * (i + 1) ≡ 8 * i + 8 = omega arith in
    let word = word_at c.args.words.now (c.args.from + i) in
    ap (λ n. take n (put_mid (8 * i) (8 * i + 8 - 8 * i) into c.copy_from_slice.new.self)) next
    ∙ take-put_word_bytes into c.copy_from_slice.new.self (bytes_of_words (words_at c.args.words.now c.args.from i)) (8 * i) (8 * i + 8 - 8 * i) word (omega arith)
    (c.copy_from_slice.ensures.after ∙ c.to_le_bytes.ensures) c.loop-i.invariant
    ∙ sym (bytes_of_words-more c.args.words.now c.args.from i (omega arith))

pub returns : goal.returns
returns c =
    let many : c.loop-i.i ≡ length c.args.into.now / 8 = omega arith in
    sym (take_all (8 * c.loop-i.i) c.loop-i.into (omega arith)) ∙ c.loop-i.invariant
    ∙ ap (λ n. bytes_of_words (words_at c.args.words.now c.args.from n)) many
