-- Laws of the grammar of scripts: a text says one script, or has one refused line, and never both.
use Rattle.trace_text.specs.Laws.{LawOfOneText, LawOfNoneOutside, LawOfOneOutside}
use Rattle.dict_text.specs.Script.{script_lines}

-- a text says one script at most
abbrev pub LawOfOneScript : Type 0
LawOfOneScript = LawOfOneText script_lines

-- a script has no refused line
abbrev pub LawOfNoRefusedScript : Type 0
LawOfNoRefusedScript = LawOfNoneOutside script_lines

-- a text has one refused line at most
abbrev pub LawOfOneRefusedScript : Type 0
LawOfOneRefusedScript = LawOfOneOutside script_lines
