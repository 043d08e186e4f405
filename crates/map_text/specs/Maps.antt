-- The text of the map of an arena, by the rules of its variant.
use Rattle.std.specs.Prelude.{◌≡◌, ◌↔◌, ℕ, ◌≤◌, List, [], ◌∷◌, ◌++◌, length, decimal, codes, Some}
use Rattle.heap_model.specs.Machine.{Range}
use Rattle.heap_map.specs.declared.cell.Cell.{Cell}
use Rattle.heap_map.specs.declared.facts.ClassFill.{ClassFill}
use Rattle.heap_map.specs.declared.facts.Facts.{Facts}
use Rattle.heap_map.specs.declared.mapping.HeapMap.{HeapMap}
use Rattle.heap_map.specs.Rules.{MapRules}
use Rattle.heap_map.specs.Cells.{AreCells, AreNoneLoose}
use Rattle.heap_map.specs.Facts.{AreFacts, AreClassFills}
use Rattle.map_text.specs.Facts.{facts_text}
use Rattle.map_text.specs.Drawing.{drawing, HaveClasses}
use Rattle.map_text.specs.Dump.{dump_text}

-- The arena is sound, and the text has its numbers.
pub record IsInfo (r : MapRules) (words : List ℕ) (arena : ℕ) (text : List ℕ) : Type 0 where
  pub sound : r.IsSound words
  pub facts : Facts
  pub are : AreFacts r words facts
  pub fills : List ClassFill
  pub full : AreClassFills r words fills
  pub is : text ≡ facts_text arena facts fills

-- the line that says which arena it is
unfoldable pub arena_line : ℕ → List ℕ
arena_line arena = codes "arena " ++ decimal arena ++ 10 ∷ []

-- that, the letters, and the numbers
abbrev pub map_text : ℕ → List Cell → Facts → List ClassFill → List ℕ
map_text arena cells facts fills = arena_line arena ++ drawing cells ++ facts_text arena facts fills

-- The arena is sound, and the text has the letter of each of its granules, and its numbers. A letter says that something is
-- loose exactly where the arena is not exact.
pub record IsText (r : MapRules) (words : List ℕ) (arena : ℕ) (text : List ℕ) : Type 0 where
  pub cells : List Cell
  pub each : AreCells r words cells
  pub exact : AreNoneLoose cells ↔ r.IsExact words
  pub numbers : List ℕ
  pub info : IsInfo r words arena numbers
  pub is : text ≡ arena_line arena ++ drawing cells ++ numbers

-- The arena is sound, and the text has the words of the block of a root, as they stand.
pub record IsDump (r : MapRules) (words : List ℕ) (root : ℕ) (text : List ℕ) : Type 0 where
  pub sound : r.IsSound words
  pub range : Range
  pub named : r.block words root ≡ Some range
  pub is : text ≡ dump_text words range

-- for the functions below

-- a map has few cells, whose slabs have classes, and the fills of all classes
pub record IsWritable (map : HeapMap) : Type 0 where
  pub few : length map.cells.items ≤ 4096
  pub granules : map.facts.granules ≤ 4096
  pub cells : HaveClasses map.cells.items
  pub classes : length map.classes.items ≡ 36
