-- The granules of an arena as letters, 64 a line.
use Rattle.std.specs.Prelude.{ℕ, ◌+◌, ◌*◌, ◌/◌, ◌%◌, ◌<◌, ◌==◌, nat_lt, Bool, List, [], ◌∷◌, ◌++◌, length, min, decimal, codes, if◌then◌else◌}
use Rattle.size_classes.specs.Classes.{class_size, class_capacity}
use Rattle.slab_header.specs.State.{class_of}
use Rattle.heap_map.specs.declared.cell.SlabFill.{SlabFill}
use Rattle.heap_map.specs.declared.cell.Kind.{Kind}
use Rattle.heap_map.specs.declared.cell.Kind.TheVariants.{Header, Roots, Log, Free, Large, Slab}
use Rattle.heap_map.specs.declared.cell.Cell.{Cell}
use Rattle.heap_map.specs.Cells.{cell_in}
use Rattle.map_text.specs.Pieces.{text_below}

-- what the letters say
abbrev pub legend_line : List ℕ
legend_line = codes "h header, r roots, l log, . free, #= large block, S7 slab and tenths of it live, T7 slab in transition, ! loose" ++ 10 ∷ []

-- how many tenths of the bytes of a slab's blocks live, 9 at most
abbrev pub tenths_of : SlabFill → ℕ
tenths_of fill =
    min 9 (10 * fill.bytes / (class_capacity (class_of fill.slab.state) * class_size (class_of fill.slab.state)))

-- the first letter of a slab, which is in transition or not
abbrev pub slab_letter : Bool → ℕ
slab_letter turns = if turns then 84 else 83

-- the letter of a granule that a thing begins at: what is loose has its own
abbrev pub first_letter : Bool → ℕ → ℕ
first_letter loose letter = if loose then 33 else letter

-- the letter of a granule of a kind
abbrev pub kind_letter : ℕ → Bool → Kind → ℕ
kind_letter k loose Header = first_letter loose 104
kind_letter k loose Roots = 114
kind_letter k loose Log = 108
kind_letter k loose Free = 46
kind_letter k loose (Large start) = if start == k then first_letter loose 35 else 61
kind_letter k loose (Slab fill) = if fill.slab.start == k then first_letter loose (slab_letter fill.turns) else (48 + tenths_of fill)

abbrev pub letter_of : ℕ → Cell → ℕ
letter_of k cell = kind_letter k cell.loose cell.kind

-- the number of a granule, to the right in four places
abbrev pub padded : ℕ → List ℕ
padded k = (if nat_lt k 10 then codes "   " else if nat_lt k 100 then codes "  " else if nat_lt k 1000 then codes " " else []) ++ decimal k

-- what stands before the letter of a granule: a line has 64, in groups of 16
abbrev pub gap_before : ℕ → List ℕ
gap_before k = if k % 64 == 0 then padded k ++ codes "  " else if k % 16 == 0 then codes " " else []

-- what stands behind it, where it is one of so many
abbrev pub gap_behind : ℕ → ℕ → List ℕ
gap_behind n k = if (k % 64 == 63) then 10 ∷ [] else if k + 1 == n then 10 ∷ [] else []

-- the letters of all granules
unfoldable pub drawing : List Cell → List ℕ
drawing cells = text_below (λ k. gap_before k ++ letter_of k (cell_in cells k) ∷ gap_behind (length cells) k) (length cells)

-- for the functions below

-- a slab has one of the classes
abbrev pub HasSlabClass : SlabFill → Type 0
HasSlabClass fill = class_of fill.slab.state < 36

-- that of a cell has, if it has one
abbrev pub HasKindClass : Kind → Type 0
HasKindClass (Slab fill) = HasSlabClass fill
HasKindClass kind = Unit {0}

abbrev pub HasClass : Cell → Type 0
HasClass cell = HasKindClass cell.kind

-- that of each cell has
pub record HaveClasses (cells : List Cell) : Type 0 where
  pub each : (k : ℕ) → k < length cells → HasClass (cell_in cells k)
