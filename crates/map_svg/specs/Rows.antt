-- The rows of free granules: how long each is, and which is the longest.
use Rattle.std.specs.Prelude.{ℕ, zero, suc, ◌+◌, ◌==◌, ◌&&◌, not, Bool, true, false, List, [], ◌++◌, length, decimal, if◌then◌else◌}
use Rattle.heap_map.specs.declared.cell.Kind.{Kind}
use Rattle.heap_map.specs.declared.cell.Kind.TheVariants.{Free}
use Rattle.heap_map.specs.declared.cell.Cell.{Cell}
use Rattle.heap_map.specs.Cells.{cell_in}
use Rattle.map_text.specs.Pieces.{text_below}
use Rattle.map_svg.specs.Shapes.{box_text, count_begin, line_end}
use Rattle.map_svg.specs.Cells.{cell_x, cell_y}

-- a granule is free
abbrev pub is_free : Kind → Bool
is_free Free = true
is_free kind = false

abbrev pub is_free_at : List Cell → ℕ → Bool
is_free_at cells k = is_free (cell_in cells k).kind

-- so many free ones stand in a row right before granule n
abbrev pub row_before : List Cell → ℕ → ℕ
row_before cells zero = 0
row_before cells (suc n) = if is_free_at cells n then row_before cells n + 1 else 0

-- a row ends at the granule
abbrev pub ends_row : List Cell → ℕ → Bool
ends_row cells k = is_free_at cells k && not (is_free_at cells (k + 1))

-- its length, to the right in its last granule, and a line under that where it is the longest
abbrev pub underline_tone : ℕ
underline_tone = 46

abbrev pub underline : ℕ → ℕ → ℕ → List ℕ
underline longest k long = if long == longest then box_text (record { tone = underline_tone; x = cell_x k; y = cell_y k + 16; width = 16; height = 2 }) else []

abbrev pub row_count : ℕ → ℕ → List ℕ
row_count k long = count_begin (cell_x k + 14) (cell_y k + 13) ++ decimal long ++ line_end

abbrev pub row_mark : List Cell → ℕ → ℕ → List ℕ
row_mark cells longest k = if ends_row cells k then underline longest k (row_before cells (suc k)) ++ row_count k (row_before cells (suc k)) else []

-- the marks of all rows
unfoldable pub row_marks : ℕ → List Cell → List ℕ
row_marks longest cells = text_below (row_mark cells longest) (length cells)
