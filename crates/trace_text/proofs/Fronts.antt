-- What stands at the front stays there while more is written behind it.
use Rattle.std.proofs.Common.{◌≡◌, List, ℕ, ◌++◌, ◌∙◌, ap}
use Rattle.std.specs.Prelude.{Result, Ok, Err, OnErr}
use Rattle.std.proofs.lemmas.List.{append_assoc}
use Rattle.trace_text.specs.Fronts.{BeginsWith}

-- behind a longer front, also where only an error says so
pub kept_further : {T E : Type 0} (result : Result T E) (text longer front part : List ℕ) → longer ≡ front ++ part → BeginsWith text longer → OnErr result (BeginsWith text front)
kept_further (Ok value) text longer front part is begins = tt
kept_further (Err fault) text longer front part is begins = record {
  rest = part ++ begins.rest;
  is = begins.is ∙ ap (λ (xs : List ℕ). xs ++ begins.rest) is ∙ append_assoc front part begins.rest;
}
