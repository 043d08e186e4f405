-- Laws of texts of lines, of traces and of those without moves: a text says one thing, or has one refused line, and never both.
use Rattle.std.specs.Prelude.{◌≡◌, ℕ, List}
use Rattle.trace_text.specs.Texts.{Lines, IsText, IsFirstOutside}
use Rattle.trace_text.specs.Grammar.{trace_lines, still_lines}

module _ {H C : Type 0} (g : Lines H C) where
  -- a text says one thing at most
  abbrev pub LawOfOneText : Type 0
  LawOfOneText = (text : List ℕ) (head other : H) (calls more : List C) → IsText g text head calls → IsText g text other more → (head ≡ other) × (calls ≡ more)

  -- one that says something has no refused line
  abbrev pub LawOfNoneOutside : Type 0
  LawOfNoneOutside = (text : List ℕ) (head : H) (calls : List C) (number : ℕ) → IsText g text head calls → ¬ (IsFirstOutside g text number)

  -- a text has one refused line at most
  abbrev pub LawOfOneOutside : Type 0
  LawOfOneOutside = (text : List ℕ) (number other : ℕ) → IsFirstOutside g text number → IsFirstOutside g text other → number ≡ other

-- a text says one trace at most
abbrev pub LawOfOneTrace : Type 0
LawOfOneTrace = LawOfOneText trace_lines

-- a trace has no refused line
abbrev pub LawOfNoRefusal : Type 0
LawOfNoRefusal = LawOfNoneOutside trace_lines

-- a text has one refused line at most
abbrev pub LawOfOneRefusal : Type 0
LawOfOneRefusal = LawOfOneOutside trace_lines

-- the same of traces without moves

abbrev pub LawOfOneStillTrace : Type 0
LawOfOneStillTrace = LawOfOneText still_lines

abbrev pub LawOfNoStillRefusal : Type 0
LawOfNoStillRefusal = LawOfNoneOutside still_lines

abbrev pub LawOfOneStillRefusal : Type 0
LawOfOneStillRefusal = LawOfOneOutside still_lines
