-- Texts that grow.
use Rattle.std.proofs.Common.{◌≡◌, ℕ, List, ◌++◌, length, take, ap, ◌∙◌, append_assoc}
use Rattle.std.proofs.Math.Seq.{take-append_seam}
use Rattle.pool_layout.specs.Defect.{IsGrown}

pub grown_by : (old rest new : List ℕ) → new ≡ old ++ rest → IsGrown old new
grown_by old rest new is = record { rest = rest; is = is }

-- what grew behind a longer text grew behind the text
pub grown_behind : (old rest between new : List ℕ) → between ≡ old ++ rest → IsGrown between new → IsGrown old new
grown_behind old rest between new is grown = record {
  rest = rest ++ grown.rest;
  is = grown.is ∙ ap (λ x. x ++ grown.rest) is ∙ append_assoc old rest grown.rest;
}

-- cut to its old length, a text that grew is the old one
pub grown_cut : (old new : List ℕ) → IsGrown old new → take (length old) new ≡ old
grown_cut old new grown = ap (take (length old)) grown.is ∙ take-append_seam old grown.rest
