use Rattle.std.proofs.Common.{◌≡◌, ◌+◌, ◌*◌, ◌-◌, ℕ, get_or, sym, ◌∙◌, subst, arith, ltb, true}
use Rattle.slab_index.proofs.Common.{ltb-true, IsLeastIn}
use Rattle.slab_index.proofs.words.least_at.Goals as goal

pub returns : goal.returns
returns c =
    let number = c.in_ok-number.number in
    let word = c.in_ok-word.word in
    let there : number ≡ 4096 * c.args.place + (number - 4096 * c.args.place) = omega (arith, c.in_ok-word.ensures.low, c.in_ok-number.ensures.low) in
    record {
      word = word;
      least_word = rw c.deref.ensures.value at c.in_ok-word.ensures;
      least = subst (λ (k : ℕ). IsLeastIn c.args.set.now.words.items (64 * word) 64 k) there (rw c.deref-2.ensures.value at c.in_ok-number.ensures);
    }

pub returns-in_err-number : goal.returns-in_err-number
returns-in_err-number c =
    let word = c.in_ok-word.word in
    let least = rw c.deref.ensures.value at c.in_ok-word.ensures in
    let none = rw c.deref-2.ensures.value at c.in_err-number.ensures in
    let some : ltb 0 (get_or c.args.set.now.words.items word 0) ≡ true = sym (c.requires.summary.is word) ∙ least.is in
    absurd (omega (arith, ltb-true 0 (get_or c.args.set.now.words.items word 0) some, none))
