-- What is printed of generated work, byte by byte. Every line ends with a line feed.
use Rattle.std.specs.Prelude.{ℕ, List, [], ◌∷◌, ◌++◌, decimal, codes}
use Rattle.trace_text.specs.declared.work_report.Work.{Work}

-- what the calls of an arena came to
abbrev pub work_line : ℕ → Work → List ℕ
work_line arena work =
    codes "arena " ++ decimal arena ++ codes " calls " ++ decimal work.calls ++ codes " placed " ++ decimal work.placed ++ codes " freed " ++ decimal work.freed
    ++ codes " refused " ++ decimal work.refused ++ codes " live " ++ decimal work.live ++ codes " bytes " ++ decimal work.bytes ++ 10 ∷ []
