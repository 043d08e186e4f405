use Rattle.std.proofs.Common.{ℕ, List, subst}
use Rattle.dict_index.specs.Numbers.{IsGreatest}
use Rattle.dict_index.proofs.Greatest.{greatest_of}
use Rattle.dict_index.proofs.numbers.Numbers.greatest.Goals as goal

pub returns : goal.returns
returns c =
    let s = c.self.inside in
    subst (λ (numbers : List ℕ). IsGreatest numbers s.greatest) c.self.view_is (greatest_of s.numbers.items s.groups.items s.greatest c.self.invariant)
