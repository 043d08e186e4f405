-- What was read of a line of a script.
use Rattle.std.specs.Prelude.{◌≡◌, ◌<◌, ◌^◌, ℕ, List, [], ◌∷◌, ◌++◌, length, decimal}
use Rattle.trace_text.specs.Numbers.{BeginsWithoutDigit}
use Rattle.trace_text.specs.Fronts.{BeginsWith}
use Rattle.dict_text.specs.declared.script.Script.{Script}
use Rattle.dict_text.specs.declared.script.ScriptCall.{ScriptCall}
use Rattle.dict_text.specs.Script.{DictCall, words_text, IsValue, IsCallLine}
use Rattle.dict_text.specs.Calls.{call_of, calls_of, HasWordsOf, HasValues}

-- the text is a space and this word, and then a rest that begins with no digit
pub record IsWordThen (text : List ℕ) (word : ℕ) (rest : List ℕ) : Type 0 where
  pub is : text ≡ 32 ∷ decimal word ++ rest
  pub fits : word < 2 ^ 64
  pub ends : BeginsWithoutDigit rest

-- the text is the words of a value, so many, and they were put behind the row
pub record AddsWords (text old new : List ℕ) (count : ℕ) : Type 0 where
  pub words : List ℕ
  pub text_is : text ≡ words_text words
  pub value : IsValue words
  pub many : length words ≡ count
  pub row : new ≡ old ++ words

-- the line makes the call, whose words were put behind the row
pub record ReadsCall (line old new : List ℕ) (call : ScriptCall) : Type 0 where
  pub makes : IsCallLine line (call_of new call)
  pub has : HasWordsOf new call
  pub row : BeginsWith new old

-- the line makes a call, and it was put behind those of the script
pub record AddsCall (line : List ℕ) (old new : Script) : Type 0 where
  pub call : DictCall
  pub makes : IsCallLine line call
  pub calls : calls_of new ≡ calls_of old ++ call ∷ []
  pub has : HasValues new
  pub size : new.granules ≡ old.granules
