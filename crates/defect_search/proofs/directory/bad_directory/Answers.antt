use Rattle.std.proofs.Common.{◌≡◌, ◌/◌, ◌∙◌, ap, sym, subst, true≢false, arith}
use Rattle.defect_search.proofs.Common.{word_at, directory_word, active_chunks, IsDirectory}
use Rattle.defect_search.proofs.directory.bad_directory.Goals as goal

pub returns-then-is_directory : goal.returns-then-is_directory
returns-then-is_directory c =
    let here : c.directory_at.result / 8 ≡ directory_word = omega (arith, c.directory_at.ensures) in
    subst (λ w. IsDirectory w (active_chunks w)) (c.word_at-directory.ensures ∙ ap (word_at c.args.words.now) here) (c.is_directory.ensures.0 c.if-is_directory.true)

pub returns-else-is_directory : goal.returns-else-is_directory
returns-else-is_directory c =
    let here : c.directory_at.result / 8 ≡ directory_word = omega (arith, c.directory_at.ensures) in
    let is = c.word_at-directory.ensures ∙ ap (word_at c.args.words.now) here in
    record {
      bad = λ has. true≢false (sym (c.is_directory.ensures.1 (subst (λ w. IsDirectory w (active_chunks w)) (sym is) has)) ∙ c.if-is_directory.false);
      is = is;
    }
