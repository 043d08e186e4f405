-- The picture of an arena: a heading, the granules, and how full the slabs of each class are.
use Rattle.std.specs.Prelude.{◌≡◌, ◌↔◌, ℕ, ◌+◌, ◌*◌, ◌/◌, ◌%◌, ◌==◌, ◌&&◌, List, [], ◌∷◌, ◌++◌, decimal, codes, if◌then◌else◌}
use Rattle.size_classes.specs.Classes.{class_size, class_capacity}
use Rattle.heap_map.specs.declared.cell.Cell.{Cell}
use Rattle.heap_map.specs.declared.facts.ClassFill.{ClassFill}
use Rattle.heap_map.specs.declared.facts.Facts.{Facts}
use Rattle.heap_map.specs.declared.facts.Variant.{Variant}
use Rattle.heap_map.specs.declared.facts.Variant.TheVariants.{Log, Gc}
use Rattle.heap_map.specs.Rules.{MapRules}
use Rattle.heap_map.specs.Cells.{AreCells, AreNoneLoose}
use Rattle.heap_map.specs.Facts.{fill_in, AreFacts, AreClassFills}
use Rattle.map_text.specs.Pieces.{text_below}
use Rattle.map_text.specs.Facts.{request_of}
use Rattle.map_svg.specs.Shapes.{box_text, line_begin, line_end}
use Rattle.map_svg.specs.Cells.{row_of_boxes, row_of_labels}
use Rattle.map_svg.specs.Rows.{row_marks}

-- how many rows so many granules have, and how high the picture of an arena of so many is
abbrev pub rows_of : ℕ → ℕ
rows_of granules = (granules + 63) / 64

abbrev pub arena_height : ℕ → ℕ
arena_height granules = 20 * rows_of granules + 290

-- which variant an arena is of, where that is not the LOG variant
abbrev pub variant_words : Variant → List ℕ
variant_words Log = []
variant_words Gc = codes ", GC variant"

-- the heading
unfoldable pub heading : ℕ → Facts → List ℕ
heading arena facts =
    line_begin 0 14 ++ codes "arena " ++ decimal arena ++ variant_words facts.variant ++ codes ": version " ++ decimal facts.version ++ codes "; granules: " ++ decimal facts.granules ++ codes ", free: " ++ decimal facts.free
    ++ codes ", longest row of free ones: " ++ decimal facts.longest ++ codes "; largest request of whole granules: " ++ decimal (request_of facts.longest) ++ codes " bytes" ++ line_end

unfoldable pub counts : Facts → List ℕ
counts facts =
    line_begin 0 32 ++ codes "roots that hold a block: " ++ decimal facts.summary.blocks ++ codes "; large blocks: " ++ decimal facts.summary.large ++ codes "; slabs: " ++ decimal facts.summary.slabs
    ++ codes ", in transition: " ++ decimal facts.transitions ++ codes "; loose things: " ++ decimal facts.summary.loose ++ line_end

-- where the line of a class is: twelve one below another, three side by side
abbrev pub class_x : ℕ → ℕ
class_x class = 340 * (class / 12)

abbrev pub class_y : ℕ → ℕ → ℕ
class_y granules class = 64 + 20 * rows_of granules + 16 * (class % 12)

-- its words
abbrev pub class_words : ℕ → ClassFill → List ℕ
class_words class fill =
    decimal (class_size class) ++ codes " bytes: slabs " ++ decimal fill.slabs ++ codes ", live " ++ decimal fill.live ++ codes " of " ++ decimal (fill.slabs * class_capacity class) ++ codes ", old " ++ decimal fill.old

-- a class: a box of its tone, and its words; nothing where it has no slab and no old block
unfoldable pub class_entry : ℕ → ℕ → ClassFill → List ℕ
class_entry granules class fill =
    if (fill.slabs == 0) && (fill.old == 0) then []
    else box_text (record { tone = 5 + class; x = class_x class; y = class_y granules class; width = 12; height = 12 })
    ++ line_begin (class_x class + 18) (class_y granules class + 11) ++ class_words class fill ++ line_end

unfoldable pub class_entries : ℕ → List ClassFill → List ℕ
class_entries granules fills = text_below (λ class. class_entry granules class (fill_in fills class)) 36

-- the arena, so far below the head of the page
unfoldable pub place : ℕ → List ℕ
place y = codes "<g transform='translate(32," ++ decimal y ++ codes ")'>" ++ 10 ∷ []

abbrev pub place_end : List ℕ
place_end = codes "</g>" ++ 10 ∷ []

abbrev pub arena_picture : ℕ → ℕ → List Cell → Facts → List ClassFill → List ℕ
arena_picture arena y cells facts fills = place y ++ heading arena facts ++ counts facts ++ row_of_boxes cells ++ row_of_labels cells ++ row_marks facts.longest cells ++ class_entries facts.granules fills ++ place_end

-- The arena is sound, and the text is its picture at a height: a box over each granule says what it is, and some granule has the
-- frame of what is loose exactly where the arena is not exact; of the rows of free granules those are underlined that are as long
-- as the longest one is.
pub record IsPicture (r : MapRules) (y : ℕ) (words : List ℕ) (arena : ℕ) (text : List ℕ) : Type 0 where
  pub sound : r.IsSound words
  pub cells : List Cell
  pub each : AreCells r words cells
  pub exact : AreNoneLoose cells ↔ r.IsExact words
  pub facts : Facts
  pub are : AreFacts r words facts
  pub fills : List ClassFill
  pub full : AreClassFills r words fills
  pub is : text ≡ arena_picture arena y cells facts fills
