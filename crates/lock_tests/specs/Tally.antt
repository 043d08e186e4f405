-- A journal of refusals alone: each entry is a malloc of a root that no arena has.
use Rattle.std.specs.Prelude.{◌≡◌, ℕ, List, [], ◌∷◌, ◌++◌, length, MatchResult, Result}
use Rattle.heap_model.specs.declared.call.Entry.{Entry}
use Rattle.heap_model.specs.declared.call.Call.TheVariants.{Malloc}
use Rattle.heap_model.specs.declared.call.Reply.TheVariants.{NoRoot}

-- the entry of a seat that asked for so many bytes
abbrev pub refusal : ℕ → ℕ → Entry
refusal seat size = record { seat = seat; call = Malloc 4294967295 size; reply = NoRoot }

-- the journal gains the entry of this request, and its place is answered; or there was no memory for it, and it stays
abbrev pub Asks : {E : Type 0} → ℕ → ℕ → List Entry → List Entry → Result ℕ E → Type 0
Asks seat size before after out = MatchResult out (λ place. (after ≡ before ++ refusal seat size ∷ []) × (place ≡ length before)) (λ _. after ≡ before)
