-- The grammar of scripts: texts of lines whose head is the size of one arena, and whose calls are those of a dictionary over it.
use Rattle.std.specs.Prelude.{◌≡◌, ◌≤◌, ◌<◌, ◌^◌, ℕ, List, ◌∷◌, ◌++◌, length, decimal, codes, flat_map}
use Rattle.std.specs.List.{All}
use Rattle.pool_layout.specs.Layout.{layout_of}
use Rattle.attach_dict.specs.Dict.{most_values}
use Rattle.trace_text.specs.Texts.{Lines, IsText, IsFirstOutside}

-- what a line asks of a dictionary
pub data DictCall : Type 0 where
  Put : (key : ℕ) (value : List ℕ) → DictCall
  Get : (key : ℕ) → DictCall
  Del : (key : ℕ) → DictCall

-- words, each behind a space
abbrev pub words_text : List ℕ → List ℕ
words_text words = flat_map (λ word. 32 ∷ decimal word) words

-- the text of a call: `put KEY` with the words of the value, `get KEY` or `del KEY`
abbrev pub call_text : DictCall → List ℕ
call_text (Put key value) = codes "put " ++ decimal key ++ words_text value
call_text (Get key) = codes "get " ++ decimal key
call_text (Del key) = codes "del " ++ decimal key

-- the words of a value: each has 64 bits, and there are 509 at most
pub record IsValue (words : List ℕ) : Type 0 where
  pub each : All (λ word. word < 2 ^ 64) words
  pub few : length words ≤ most_values

-- the calls that a script may ask for: a key has 64 bits
abbrev pub IsAsked : DictCall → Type 0
IsAsked (Put key value) = (key < 2 ^ 64) × IsValue value
IsAsked (Get key) = key < 2 ^ 64
IsAsked (Del key) = key < 2 ^ 64

-- an arena of version 1 may have so many granules
pub record IsDictSize (granules : ℕ) : Type 0 where
  pub least : (layout_of 1).least_granules ≤ granules
  pub most : granules ≤ (layout_of 1).most_granules

-- the line says how many
pub record IsDictLine (line : List ℕ) (granules : ℕ) : Type 0 where
  pub text : line ≡ codes "dict " ++ decimal granules
  pub valid : IsDictSize granules

-- the line makes the call
pub record IsCallLine (line : List ℕ) (call : DictCall) : Type 0 where
  pub text : line ≡ call_text call
  pub asked : IsAsked call

-- what the lines of a script say: the granules of its arena, and calls
abbrev pub script_lines : Lines ℕ DictCall
script_lines = record { head = IsDictLine; call = λ granules. IsCallLine }

-- the text is a script for an arena of so many granules, with these calls
abbrev pub IsScript : List ℕ → ℕ → List DictCall → Type 0
IsScript text granules calls = IsText script_lines text granules calls

-- the line of this number, counted from 1, is the first outside the grammar of scripts; a text that ends with no size is refused
-- just behind its last line
abbrev pub IsRefusedScript : List ℕ → ℕ → Type 0
IsRefusedScript text number = IsFirstOutside script_lines text number
