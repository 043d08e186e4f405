-- What the calls of a script settle. So a script has one report, on whichever device its calls are made, and leaves one image.
use Rattle.std.specs.Prelude.{◌≡◌, ℕ, List}
use Rattle.pmem_lines.specs.Pmem.{PmemState, words_of}
use Rattle.attach_dict.specs.Dict.{Pair}
use Rattle.dict_text.specs.Script.{DictCall, IsDictSize}
use Rattle.dict_runs.specs.Acts.{Standing}
use Rattle.dict_runs.specs.Printing.{HasReported}
use Rattle.dict_runs.specs.Scripts.{Turn, IsRunOf}

-- calls make one run: what each comes to, its calls of the arena, the place that they lead to, and the map there
abbrev pub LawOfOneRun : Type 0
LawOfOneRun = (granules : ℕ) (calls : List DictCall) (turns others : List Turn) (to too : Standing) (last also : List Pair) → IsDictSize granules → IsRunOf granules calls turns to last → IsRunOf granules calls others too also →
    (turns ≡ others) × (to ≡ too) × (last ≡ also)

-- what is written of two runs of a script is one text, and the words that they leave are the same
abbrev pub LawOfOneReport : Type 0
LawOfOneReport = (granules : ℕ) (calls : List DictCall) (device other : PmemState) (old new also : List ℕ) → IsDictSize granules → HasReported granules calls device old new → HasReported granules calls other old also →
    (new ≡ also) × (words_of device ≡ words_of other)
