-- What a script says that was read: the words of all its puts stand one after another.
use Rattle.std.specs.Prelude.{◌+◌, ◌≤◌, ℕ, List, length, map, slice_range}
use Rattle.std.specs.List.{All}
use Rattle.dict_text.specs.declared.script.Script.{Script}
use Rattle.dict_text.specs.declared.script.ScriptCall.{ScriptCall}
use Rattle.dict_text.specs.declared.script.ScriptCall.TheVariants.{Put, Get, Del}
use Rattle.attach_dict.specs.Dict.{most_values}
use Rattle.dict_text.specs.Script.{DictCall}

-- what a call asks, where these are the words of all puts
abbrev pub call_of : List ℕ → ScriptCall → DictCall
call_of values (Put key from count) = DictCall.Put key (slice_range values from (from + count))
call_of values (Get key) = DictCall.Get key
call_of values (Del key) = DictCall.Del key

-- what the calls of a script ask, in order
abbrev pub calls_of : Script → List DictCall
calls_of script = map (call_of script.values.items) script.calls.items

-- a row has these words, and they are no more than a value has
pub record HasWords (values : List ℕ) (from count : ℕ) : Type 0 where
  pub inside : from + count ≤ length values
  pub few : count ≤ most_values

-- the row has the words of the call
abbrev pub HasWordsOf : List ℕ → ScriptCall → Type 0
HasWordsOf values (Put key from count) = HasWords values from count
HasWordsOf values (Get key) = Unit {0}
HasWordsOf values (Del key) = Unit {0}

-- the words of each put stand among those of the script
pub record HasValues (script : Script) : Type 0 where
  pub each : All (HasWordsOf script.values.items) script.calls.items
