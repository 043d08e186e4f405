-- The shapes of a picture: rectangles of a tone, and lines of text. A tone is a number, of which the style says the fill.
use Rattle.std.specs.Prelude.{ℕ, List, [], ◌∷◌, ◌++◌, decimal, codes}
use Rattle.map_svg.specs.declared.shapes.Shape.{Shape}

-- a rectangle
unfoldable pub box_text : Shape → List ℕ
box_text box =
    codes "<rect class='k" ++ decimal box.tone ++ codes "' x='" ++ decimal box.x ++ codes "' y='" ++ decimal box.y ++ codes "' width='" ++ decimal box.width ++ codes "' height='" ++ decimal box.height
    ++ codes "'/>" ++ 10 ∷ []

-- where a line of text begins
unfoldable pub line_begin : ℕ → ℕ → List ℕ
line_begin x y = codes "<text x='" ++ decimal x ++ codes "' y='" ++ decimal y ++ codes "'>"

-- and where a small one does that stands in a box
unfoldable pub label_begin : ℕ → ℕ → List ℕ
label_begin x y = codes "<text class='m' x='" ++ decimal x ++ codes "' y='" ++ decimal y ++ codes "'>"

-- and where one does that ends there
unfoldable pub count_begin : ℕ → ℕ → List ℕ
count_begin x y = codes "<text class='n' x='" ++ decimal x ++ codes "' y='" ++ decimal y ++ codes "'>"

-- and how they end
abbrev pub line_end : List ℕ
line_end = codes "</text>" ++ 10 ∷ []
