-- Words say one command at most, where each command of the table is found by its first word and its numbers.
use Rattle.std.proofs.Common.{◌≡◌, ℕ, List, [], ◌∷◌, map, Option, Some, sym, ap, ◌∙◌, subst}
use Rattle.std.proofs.lemmas.Fmt.{decimal_injective}
use Rattle.std.specs.Prelude.{decimal}
use Rattle.program_io.specs.Words.{Row, AreNumbers, Says, SaysOne}

-- numbers are read back from their texts
numbers_once : (ns ms : List ℕ) → AreNumbers ns → AreNumbers ms → map decimal ns ≡ map decimal ms → ns ≡ ms
numbers_once [] [] p q same = cc
numbers_once [] (m ∷ ms) p q same = absurd (cc)
numbers_once (n ∷ ns) [] p q same = absurd (cc)
numbers_once (n ∷ ns) (m ∷ ms) p q same =
    let first : decimal n ≡ decimal m = cc in
    let rest : map decimal ns ≡ map decimal ms = cc in
    cc (decimal_injective n m p.0 q.0 first, numbers_once ns ms p.1 q.1 rest)

-- the commands of a table, each of which is found by its text and its numbers
pub record IsTable {Meaning : Type 1} {Command : Type 0} (row_of : Command → Row Meaning) : Type 0 where
  pub find : List ℕ → List ℕ → Option Command
  pub found : (command : Command) → find (row_of command).text (row_of command).numbers ≡ Some command

module _ {Meaning : Type 1} {Command : Type 0} (row_of : Command → Row Meaning) (table : IsTable row_of) where
  pub one_command : (words : List (List ℕ)) (a b : Command) → Says (row_of a) words → Says (row_of b) words → a ≡ b
  one_command words a b p q =
      let text : (row_of a).text ≡ (row_of b).text = cc (p.text, q.text) in
      let texts : map decimal (row_of a).numbers ≡ map decimal (row_of b).numbers = cc (p.text, q.text) in
      let numbers = numbers_once (row_of a).numbers (row_of b).numbers p.numbers q.numbers texts in
      let both : Some a ≡ Some b = sym (table.found a) ∙ ap (λ t. table.find t (row_of a).numbers) text ∙ ap (table.find (row_of b).text) numbers ∙ table.found b in
      cc both

  -- what holds of the meaning of the command that words say holds of that of each that they say
  pub said_holds : (words : List (List ℕ)) (command : Command) (Holds : Meaning → Type 0) → Says (row_of command) words → SaysOne row_of words Holds → Holds (row_of command).meaning
  said_holds words command Holds said is = subst (λ (c : Command). Holds (row_of c).meaning) (one_command words is.command command is.said said) is.holds

  -- the command that words say whose first is known
  pub by_first : (text : List ℕ) (rest : List (List ℕ)) (command : Command) → Says (row_of command) (text ∷ rest) → table.find text (row_of command).numbers ≡ Some command
  by_first text rest command said =
      let same : text ≡ (row_of command).text = cc (said.text) in
      ap (λ t. table.find t (row_of command).numbers) same ∙ table.found command
