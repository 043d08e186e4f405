-- What is printed of a dictionary, byte by byte. Every line ends with a line feed.
use Rattle.std.specs.Prelude.{ℕ, List, [], ◌∷◌, ◌++◌, length, flat_map, decimal, codes}
use Rattle.trace_text.specs.declared.call.CrashSide.{CrashSide}
use Rattle.trace_text.specs.Report.{crash_line}
use Rattle.attach_dict.specs.Dict.{Pair}
use Rattle.dict_text.specs.declared.report.PlainReply.{PlainReply}
use Rattle.dict_text.specs.Script.{words_text}

-- what a line of a script comes to
pub data DictReply : Type 0 where
  Stored : DictReply
  Full : DictReply
  NoSpace : DictReply
  Value : (words : List ℕ) → DictReply
  Absent : DictReply
  Removed : DictReply

abbrev pub reply_line : DictReply → List ℕ
reply_line Stored = codes "stored" ++ 10 ∷ []
reply_line Full = codes "full" ++ 10 ∷ []
reply_line NoSpace = codes "no space" ++ 10 ∷ []
reply_line (Value words) = codes "value" ++ words_text words ++ 10 ∷ []
reply_line Absent = codes "absent" ++ 10 ∷ []
reply_line Removed = codes "removed" ++ 10 ∷ []

-- a reply that is no value
abbrev pub reply_of : PlainReply → DictReply
reply_of PlainReply.Stored = DictReply.Stored
reply_of PlainReply.Full = DictReply.Full
reply_of PlainReply.NoSpace = DictReply.NoSpace
reply_of PlainReply.Absent = DictReply.Absent
reply_of PlainReply.Removed = DictReply.Removed

-- a pair: its key and the words of its value
abbrev pub pair_line : Pair → List ℕ
pair_line pair = decimal pair.key ++ words_text pair.value ++ 10 ∷ []

-- how many pairs a map has
abbrev pub size_line : ℕ → List ℕ
size_line size = codes "size " ++ decimal size ++ 10 ∷ []

-- a map: how many pairs, and the pairs
abbrev pub map_text : List Pair → List ℕ
map_text pairs = size_line (length pairs) ++ flat_map pair_line pairs

-- the report of `dict`: what each line came to, and the map behind them
abbrev pub dict_run_text : List DictReply → List Pair → List ℕ
dict_run_text replies pairs = flat_map reply_line replies ++ map_text pairs

-- the report of `dict-crash`: the call under way, on which side of it the map stands, and the map
abbrev pub dict_crash_text : ℕ → CrashSide → List Pair → List ℕ
dict_crash_text call side pairs = crash_line call side ++ map_text pairs
