-- Journals that are told with the numbers of those who sent the requests.
use Rattle.std.specs.Prelude.{◌≡◌, ℕ, List, [], ◌∷◌, length}
use Rattle.heap_model.specs.declared.call.Entry.{Entry}
use Rattle.arena_core.specs.Arena.{ArenaState}

-- each entry bears the number of its place
abbrev pub signed : List ℕ → List Entry → List Entry
signed [] es = es
signed (n ∷ ns) [] = []
signed (n ∷ ns) (e ∷ es) = record e { seat = n } ∷ signed ns es

-- of several arenas, each by its own numbers
abbrev pub all_signed : List (List ℕ) → List (List Entry × ArenaState) → List (List Entry × ArenaState)
all_signed [] cs = cs
all_signed (ns ∷ rest) [] = []
all_signed (ns ∷ rest) (c ∷ cs) = (signed ns c.0, c.1) ∷ all_signed rest cs

-- there are as many numbers as entries, for each arena
abbrev pub AllFit : List (List ℕ) → List (List Entry × ArenaState) → Type 0
AllFit [] [] = Unit {0}
AllFit (ns ∷ rest) (c ∷ cs) = (length ns ≡ length c.0) × AllFit rest cs
AllFit rest cs = ⊥
