use Rattle.std.proofs.Common.{refl, ◌∙◌, ap, ◌/◌, set, get_or, ◌≡◌, List, ℕ}
use Rattle.std.proofs.lemmas.List.{set-set, set-get_or}
use Rattle.pmem_lines.specs.Words.{put_word}
use Rattle.pmem_lines.proofs.sim.put.Goals as goal

back : (xs : List ℕ) (i value old : ℕ) → old ≡ get_or xs i old → set (set xs i value) i old ≡ xs
back xs i value old h = set-set xs i value old ∙ ap (λ y. set xs i y) h ∙ set-get_or xs i old

pub returns-in-Store-clause-before : goal.returns-in-Store-clause-before
unfolding put_word
returns-in-Store-clause-before c =
    rw c.in-Store.is (back c.args.cells.now.items (c.in-Store.at / 8) c.in-Store.value c.index-old.result.now c.index-old.ensures)

pub returns-in-Store-clause-after : goal.returns-in-Store-clause-after
unfolding put_word
returns-in-Store-clause-after c = rw c.in-Store.is refl
