-- The page: a head with a title, a description, the tones and a legend, the pictures of arenas one below another, and an end.
use Rattle.std.specs.Prelude.{ℕ, ◌+◌, ◌*◌, List, [], ◌∷◌, ◌++◌, decimal, codes}
use Rattle.map_text.specs.Pieces.{text_below}
use Rattle.map_svg.specs.Shapes.{box_text, line_begin, line_end}
use Rattle.map_svg.specs.Arenas.{arena_height}

-- where an arena's picture is, and how high the page is
abbrev pub head_height : ℕ
head_height = 96

abbrev pub arena_y : ℕ → ℕ → ℕ
arena_y granules arena = head_height + arena * arena_height granules

abbrev pub page_height : ℕ → ℕ → ℕ
page_height arenas granules = head_height + arenas * arena_height granules

-- the line that opens the picture
unfoldable pub opening : ℕ → List ℕ
opening height =
    codes "<svg xmlns='http://www.w3.org/2000/svg' role='img' width='1088' height='" ++ decimal height ++ codes "' viewBox='0 0 1088 " ++ decimal height ++ codes "'>" ++ 10 ∷ []

-- what the picture is of
unfoldable pub subject : ℕ → ℕ → List ℕ
subject arenas granules = codes "Map of a pool. Arenas: " ++ decimal arenas ++ codes ". Granules of 16 KiB in each: " ++ decimal granules

-- its title and description, for who can't see it
unfoldable pub title : ℕ → ℕ → List ℕ
title arenas granules = codes "<title>" ++ subject arenas granules ++ codes "</title>" ++ 10 ∷ []

unfoldable pub description : List ℕ
description =
    codes "<desc>Each field is a granule of 16 KiB, 64 a row. Its tone says what it is, and its label: h has the header line and the write-ahead lines, r root words, l chunks of the log. "
    ++ codes "A dark edge is where a large block, labelled #, or a slab begins, labelled with the size of its blocks in bytes. A dark bar in a slab says how many tenths of it live, a white one how many have old blocks. "
    ++ codes "A slab in transition between two classes is hatched. A red frame is around what is loose. A number among free granules is how many stand in the row that ends there, and the longest row is underlined there. "
    ++ codes "nvpool text and nvpool info tell the same in letters and numbers.</desc>" ++ 10 ∷ []

-- the tones
unfoldable pub fixed_tones : List ℕ
fixed_tones =
    codes "text{font:12px sans-serif;fill:#111}text.m{font-size:11px;stroke:#fff;stroke-width:2px;paint-order:stroke}text.n{font-size:11px;text-anchor:end}.k0{fill:#334155}.k1{fill:#64748b}.k2{fill:#8b5cf6}" ++ codes ".k3{fill:#f8fafc;stroke:#94a3b8;stroke-width:.5}.k4{fill:#f59e0b}.k41{fill:url(#t)}"
    ++ codes ".k42{fill:#000;fill-opacity:.5}.k43{fill:#111}.k44{fill:none;stroke:#c00;stroke-width:3}.k45{fill:#fff;stroke:#111;stroke-width:1}.k46{fill:#111}" ++ 10 ∷ []

-- that of a class
unfoldable pub class_tone : ℕ → List ℕ
class_tone class = codes ".k" ++ decimal (5 + class) ++ codes "{fill:hsl(" ++ decimal (10 * class) ++ codes ",50%,80%)}" ++ 10 ∷ []

unfoldable pub class_tones : List ℕ
class_tones = text_below class_tone 36

unfoldable pub style : List ℕ
style = codes "<style>" ++ fixed_tones ++ class_tones ++ codes "</style>" ++ 10 ∷ []

-- the hatching, and a white ground
unfoldable pub ground : List ℕ
ground =
    codes "<pattern id='t' width='6' height='6' patternUnits='userSpaceOnUse' patternTransform='rotate(45)'>" ++ codes "<rect width='2' height='6' fill='#333'/></pattern><rect width='100%' height='100%' fill='#fff'/>" ++ 10 ∷ []

-- an entry of the legend, from the left: a box of a tone, and what it says
unfoldable pub key : ℕ → ℕ → List ℕ → List ℕ
key place tone says = box_text (record { tone = tone; x = 32 + 104 * place; y = 44; width = 12; height = 12 }) ++ line_begin (50 + 104 * place) 55 ++ says ++ line_end

-- the legend: what granules are, and what is drawn over them
unfoldable pub first_keys : List ℕ
first_keys = key 0 0 (codes "h header") ++ key 1 1 (codes "r roots") ++ key 2 2 (codes "l log") ++ key 3 3 (codes "free") ++ key 4 4 (codes "# large block")

unfoldable pub last_keys : List ℕ
last_keys = key 5 13 (codes "slab, by class") ++ key 6 41 (codes "in transition") ++ key 7 42 (codes "live part") ++ key 8 45 (codes "old blocks") ++ key 9 44 (codes "loose")

-- and what numbers among free granules say
unfoldable pub row_key : List ℕ
row_key = line_begin 32 77 ++ codes "A number among free granules: so many stand in the row that ends there. Underlined: the longest row." ++ line_end

-- it stands under the subject
unfoldable pub heading_line : ℕ → ℕ → List ℕ
heading_line arenas granules = line_begin 32 30 ++ subject arenas granules ++ line_end

-- the head
unfoldable pub head : ℕ → ℕ → List ℕ
head arenas granules =
    opening (page_height arenas granules) ++ title arenas granules ++ description ++ style ++ ground ++ heading_line arenas granules ++ first_keys ++ last_keys ++ row_key

abbrev pub end_of_page : List ℕ
end_of_page = codes "</svg>" ++ 10 ∷ []
