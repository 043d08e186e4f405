-- The granules of an arena as boxes, 64 a row, each of 16 by 18 units in a field of 16 by 20.
use Rattle.std.specs.Prelude.{ℕ, ◌+◌, ◌-◌, ◌*◌, ◌/◌, ◌%◌, ◌==◌, Bool, false, List, [], ◌++◌, length, min, decimal, codes, if◌then◌else◌}
use Rattle.size_classes.specs.Classes.{class_size, class_capacity}
use Rattle.slab_header.specs.State.{class_of}
use Rattle.heap_map.specs.declared.cell.SlabFill.{SlabFill}
use Rattle.heap_map.specs.declared.cell.Kind.{Kind}
use Rattle.heap_map.specs.declared.cell.Kind.TheVariants.{Header, Roots, Log, Free, Large, Slab}
use Rattle.heap_map.specs.declared.cell.Cell.{Cell}
use Rattle.heap_map.specs.Cells.{cell_in}
use Rattle.map_text.specs.Pieces.{text_below}
use Rattle.map_text.specs.Drawing.{tenths_of}
use Rattle.map_svg.specs.Shapes.{box_text, label_begin, line_end}

-- the tones: the header, roots, the log, free granules, large blocks, and from 5 on slabs by class
abbrev pub tone_of : Kind → ℕ
tone_of Header = 0
tone_of Roots = 1
tone_of Log = 2
tone_of Free = 3
tone_of (Large start) = 4
tone_of (Slab fill) = 5 + class_of fill.slab.state

-- the hatching of slabs in transition, the bar of what lives, the edge at which a thing begins, the frame of what is loose, and
-- the bar of old blocks
abbrev pub hatch_tone : ℕ
hatch_tone = 41

abbrev pub bar_tone : ℕ
bar_tone = 42

abbrev pub edge_tone : ℕ
edge_tone = 43

abbrev pub loose_tone : ℕ
loose_tone = 44

abbrev pub old_tone : ℕ
old_tone = 45

-- where the field of a granule is
abbrev pub cell_x : ℕ → ℕ
cell_x k = 16 * (k % 64)

abbrev pub cell_y : ℕ → ℕ
cell_y k = 44 + 20 * (k / 64)

-- a box over a whole granule
abbrev pub whole_box : ℕ → ℕ → List ℕ
whole_box tone k = box_text (record { tone = tone; x = cell_x k; y = cell_y k; width = 16; height = 18 })

-- a thing begins at the granule
abbrev pub begins_at : ℕ → Kind → Bool
begins_at k (Large start) = start == k
begins_at k (Slab fill) = fill.slab.start == k
begins_at k kind = false

-- the hatching of a slab in transition
abbrev pub hatch : ℕ → SlabFill → List ℕ
hatch k fill = if fill.turns then whole_box hatch_tone k else []

-- the bar of what lives in a slab: two units for each tenth
abbrev pub bar : ℕ → SlabFill → List ℕ
bar k fill = if tenths_of fill == 0 then [] else box_text (record { tone = bar_tone; x = cell_x k; y = cell_y k + 18 - 2 * tenths_of fill; width = 16; height = 2 * tenths_of fill })

-- how many bytes there are in the blocks of a slab, and in those of other classes that live in it
abbrev pub slab_bytes : SlabFill → ℕ
slab_bytes fill = class_capacity (class_of fill.slab.state) * class_size (class_of fill.slab.state)

abbrev pub old_bytes : SlabFill → ℕ
old_bytes fill = fill.bytes - fill.live * class_size (class_of fill.slab.state)

-- how many tenths of the slab these take, one that is begun among them, 9 at most
abbrev pub old_tenths : SlabFill → ℕ
old_tenths fill = min 9 ((10 * old_bytes fill + slab_bytes fill - 1) / slab_bytes fill)

-- the bar of old blocks, which is narrow and stands in that of what lives
abbrev pub old_bar : ℕ → SlabFill → List ℕ
old_bar k fill = if old_tenths fill == 0 then [] else box_text (record { tone = old_tone; x = cell_x k + 9; y = cell_y k + 18 - 2 * old_tenths fill; width = 5; height = 2 * old_tenths fill })

-- what a slab has besides
abbrev pub slab_marks : ℕ → Kind → List ℕ
slab_marks k (Slab fill) = hatch k fill ++ bar k fill ++ old_bar k fill
slab_marks k kind = []

-- the edge
abbrev pub edge : ℕ → Kind → List ℕ
edge k kind = if begins_at k kind then box_text (record { tone = edge_tone; x = cell_x k; y = cell_y k; width = 2; height = 18 }) else []

-- the label of a granule: a letter for what is the arena's own and for where a large block begins; where a slab begins, the
-- size of its blocks
abbrev pub label : ℕ → List ℕ → List ℕ
label k says = label_begin (cell_x k + 4) (cell_y k + 13) ++ says ++ line_end

abbrev pub large_label : ℕ → ℕ → List ℕ
large_label k start = if start == k then label k (codes "#") else []

abbrev pub slab_label : ℕ → SlabFill → List ℕ
slab_label k fill = if fill.slab.start == k then label k (decimal (class_size (class_of fill.slab.state))) else []

abbrev pub kind_label : ℕ → Kind → List ℕ
kind_label k Header = label k (codes "h")
kind_label k Roots = label k (codes "r")
kind_label k Log = label k (codes "l")
kind_label k Free = []
kind_label k (Large start) = large_label k start
kind_label k (Slab fill) = slab_label k fill

-- the frame of a granule that is loose
abbrev pub frame : ℕ → Bool → List ℕ
frame k loose = if loose then whole_box loose_tone k else []

-- the boxes of a granule
unfoldable pub cell_boxes : ℕ → Cell → List ℕ
cell_boxes k cell = whole_box (tone_of cell.kind) k ++ slab_marks k cell.kind ++ edge k cell.kind ++ frame k cell.loose

-- of all granules
unfoldable pub row_of_boxes : List Cell → List ℕ
row_of_boxes cells = text_below (λ k. cell_boxes k (cell_in cells k)) (length cells)

-- their labels, which stand over the boxes of all
unfoldable pub row_of_labels : List Cell → List ℕ
row_of_labels cells = text_below (λ k. kind_label k (cell_in cells k).kind) (length cells)
