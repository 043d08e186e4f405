-- Texts of lines. The first line that is not passed over says what the text is of, its head, and each one behind it makes a
-- call. Traces and scripts of a dictionary are such texts: they differ in what a line may say.
use Rattle.std.specs.Prelude.{◌≡◌, ◌==◌, ◌⊎◌, ℕ, zero, suc, ◌+◌, List, [], ◌∷◌, length, if◌then◌else◌}
use Rattle.std.specs.List.{slice_split}
use Rattle.trace_text.specs.declared.text.TextFault.{TextFault}
use Rattle.trace_text.specs.declared.text.TextFault.TheVariants.{Memory, BadLine}

-- the pieces of a text without an empty last one
abbrev pub without_empty_end : List (List ℕ) → List (List ℕ)
without_empty_end [] = []
without_empty_end (piece ∷ []) = if length piece == 0 then [] else piece ∷ []
without_empty_end (piece ∷ next ∷ pieces) = piece ∷ without_empty_end (next ∷ pieces)

-- the lines of a text: each ends with a line feed, which the last one may lack
abbrev pub lines_of : List ℕ → List (List ℕ)
lines_of text = without_empty_end (slice_split (λ byte. byte == 10) text)

-- a line that is passed over: it is empty, or begins with `#`
abbrev pub IsPassedOver : List ℕ → Type 0
IsPassedOver [] = Unit {0}
IsPassedOver (byte ∷ line) = byte ≡ 35

-- what the lines of one kind of text say
pub record Lines (H C : Type 0) : Type 1 where
  -- a line says this head
  pub head : List ℕ → H → Type 0
  -- behind this head a line makes this call
  pub call : H → List ℕ → C → Type 0

module _ {H C : Type 0} (g : Lines H C) where
  -- the lines make these calls, in order, and say nothing else
  abbrev pub AreCalls : H → List (List ℕ) → List C → Type 0
  AreCalls head [] calls = calls ≡ []
  AreCalls head (line ∷ lines) [] = IsPassedOver line × AreCalls head lines []
  AreCalls head (line ∷ lines) (call ∷ calls) = (IsPassedOver line × AreCalls head lines (call ∷ calls)) ⊎ (g.call head line call × AreCalls head lines calls)

  -- the first line that isn't passed over says the head, and the lines after it make the calls
  abbrev pub AreText : List (List ℕ) → H → List C → Type 0
  AreText [] head calls = ⊥
  AreText (line ∷ lines) head calls = (IsPassedOver line × AreText lines head calls) ⊎ (g.head line head × AreCalls head lines calls)

  -- behind n lines of calls there is one that is no call
  abbrev pub IsNoCallAt : H → List (List ℕ) → ℕ → Type 0
  IsNoCallAt head [] n = ⊥
  IsNoCallAt head (line ∷ lines) zero = ¬ (IsPassedOver line) × ((call : C) → ¬ (g.call head line call))
  IsNoCallAt head (line ∷ lines) (suc n) = (IsPassedOver line ⊎ ((call : C) × g.call head line call)) × IsNoCallAt head lines n

  -- behind n lines in the grammar there is one that isn't, or the text ends with no head
  abbrev pub IsNoTextAt : List (List ℕ) → ℕ → Type 0
  IsNoTextAt [] n = n ≡ 0
  IsNoTextAt (line ∷ lines) zero = ¬ (IsPassedOver line) × ((head : H) → ¬ (g.head line head))
  IsNoTextAt (line ∷ lines) (suc n) = (IsPassedOver line × IsNoTextAt lines n) ⊎ ((head : H) × g.head line head × IsNoCallAt head lines n)

  -- the text is one of this head and these calls
  pub record IsText (text : List ℕ) (head : H) (calls : List C) : Type 0 where
    pub lines : AreText (lines_of text) head calls

  -- the line of this number, counted from 1, is the first outside the grammar; a text that ends with no head is refused just
  -- behind its last line
  pub record IsFirstOutside (text : List ℕ) (number : ℕ) : Type 0 where
    pub before : ℕ
    pub is_next : number ≡ before + 1
    pub lines : IsNoTextAt (lines_of text) before

  -- A line that is passed over says nothing, and no other line says two things. So a text says one thing, or has one line that is
  -- the first outside the grammar, and never both.
  pub record IsClear : Type 0 where
    pub no_head : (line : List ℕ) (head : H) → IsPassedOver line → ¬ (g.head line head)
    pub no_call : (head : H) (line : List ℕ) (call : C) → IsPassedOver line → ¬ (g.call head line call)
    pub one_head : (line : List ℕ) (head other : H) → g.head line head → g.head line other → head ≡ other
    pub one_call : (first : List ℕ) (head : H) (line : List ℕ) (call other : C) → g.head first head → g.call head line call → g.call head line other → call ≡ other

-- what a fault of reading says of the text, where it is a bad line
abbrev pub IfBadLine : TextFault → (ℕ → Type 0) → Type 0
IfBadLine (Memory error) IsLine = Unit {0}
IfBadLine (BadLine line) IsLine = IsLine line
