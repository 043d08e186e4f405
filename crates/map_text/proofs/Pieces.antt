-- Texts of pieces, one piece more.
use Rattle.std.proofs.Common.{◌≡◌, ℕ, ◌+◌, List, ◌++◌, sym, ap, ◌∙◌, add-one, append_assoc, Result, Ok, Err}
use Rattle.std.proofs.lemmas.List.{append-nil}
use Rattle.std.specs.Prelude.{OnOk}
use Rattle.map_text.specs.Pieces.{text_below}

-- nothing was written
pub written_none : (piece : ℕ → List ℕ) (old : List ℕ) → old ≡ old ++ text_below piece 0
written_none piece old = sym (append-nil old)

pub written_more : (piece : ℕ → List ℕ) (n : ℕ) (old text new : List ℕ) → text ≡ old ++ text_below piece n → new ≡ text ++ piece n → new ≡ old ++ text_below piece (n + 1)
written_more piece n old text new before more =
    more ∙ ap (λ (t : List ℕ). t ++ piece n) before ∙ append_assoc old (text_below piece n) (piece n) ∙ ap (λ (t : List ℕ). old ++ t) (sym (ap (text_below piece) (add-one n)))

-- what an Ok says implies more
pub ok_more : {X E : Type 0} (r : Result X E) (P Q : Type 0) → (P → Q) → OnOk r P → OnOk r Q
ok_more (Ok x) P Q more is = more is
ok_more (Err e) P Q more is = tt
