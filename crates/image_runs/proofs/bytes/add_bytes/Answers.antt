use Rattle.std.proofs.Common.{◌≡◌, ◌∙◌, ◌+◌, ◌*◌, ◌/◌, ◌++◌, List, ℕ, length, sym, ap, arith, append_assoc}
use Rattle.std.proofs.lemmas.List.{append-nil}
use Rattle.pmem_lines.specs.Words.{words_at}
use Rattle.pool_layout.specs.Bytes.{bytes_of_words}
use Rattle.pool_layout.proofs.Words.{bytes_of_words-none}
use Rattle.image_runs.proofs.Pieces.{all_words, bytes_of_words-further}
use Rattle.image_runs.proofs.bytes.add_bytes.Goals as goal

pub loop-at-init : goal.loop-at-init
loop-at-init c =
    let none : 512 * 0 ≡ 0 = omega arith in
    record {
      bytes = sym (ap (λ (bs : List ℕ). c.args.bytes.now.items ++ bs) (ap (λ n. bytes_of_words (words_at c.args.words.now 0 n)) none ∙ bytes_of_words-none c.args.words.now 0) ∙ append-nil c.args.bytes.now.items);
      piece = c.requires.piece;
    }

pub loop-at-preserved : goal.loop-at-preserved
loop-at-preserved c =
    let words = c.args.words.now in
    let old = c.args.bytes.now.items in
    let before = 512 * c.loop-at.at in
    let into = c.image_bytes.new.into in
    let many : length c.loop-at.piece / 8 ≡ 512 = let piece = c.loop-at.invariant.piece in omega (arith, piece) in
    let next : before + 512 ≡ 512 * (c.loop-at.at + 1) = omega arith in
    let made : into ≡ bytes_of_words (words_at words before 512) = c.image_bytes.ensures ∙ ap (λ n. bytes_of_words (words_at words before n)) many in
    record {
      bytes = c.in_ok-extend_from_slice.ensures.items
          ∙ ap (λ (bs : List ℕ). bs ++ into) c.loop-at.invariant.bytes
          ∙ append_assoc old (bytes_of_words (words_at words 0 before)) into
          ∙ ap (λ (bs : List ℕ). old ++ bs) (ap (λ (bs : List ℕ). bytes_of_words (words_at words 0 before) ++ bs) made ∙ sym (bytes_of_words-further words before 512) ∙ ap (λ n. bytes_of_words (words_at words 0 n)) next);
      piece = c.image_bytes.auto.into ∙ c.loop-at.invariant.piece;
    }

pub returns-clause-bytes : goal.returns-clause-bytes
returns-clause-bytes c =
    let whole = c.requires.whole in
    let done = c.loop-at-test.false in
    let within = c.loop-at.auto.at-end in
    let all : 512 * c.loop-at.at ≡ length c.args.words.now = omega (arith, whole, done, within) in
    c.loop-at.invariant.bytes ∙ ap (λ (ws : List ℕ). c.args.bytes.now.items ++ bytes_of_words ws) (all_words c.args.words.now (512 * c.loop-at.at) all)
