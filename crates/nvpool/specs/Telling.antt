-- What `map`, `text` and `info` mean.
use Rattle.std.specs.Prelude.{◌≡◌, ◌⊎◌, ℕ, ◌<◌, List, [], ◌++◌}
use Rattle.pool_layout.specs.declared.header.PoolHeader.{PoolHeader}
use Rattle.pool_layout.specs.declared.defect.Defect.{Defect}
use Rattle.pool_layout.specs.Image.{part_of}
use Rattle.heap_check.specs.Sound.{IsVacant}
use Rattle.heap_check.specs.Image.{bounds_of}
use Rattle.heap_map.specs.declared.mapping.HeapMap.{HeapMap}
use Rattle.heap_map.specs.Rules.{MapRules}
use Rattle.heap_map.specs.Facts.{IsLongestRow, IsGreatestRequest}
use Rattle.map_text.specs.Pieces.{ArePieces}
use Rattle.map_text.specs.Drawing.{legend_line}
use Rattle.map_text.specs.Facts.{facts_text}
use Rattle.map_text.specs.Maps.{map_text, IsInfo, IsText}
use Rattle.map_svg.specs.Page.{head, arena_y, end_of_page}
use Rattle.map_svg.specs.Arenas.{arena_picture, IsPicture}
use Rattle.nvpool.specs.declared.cause.Cause.{Cause}
use Rattle.nvpool.specs.declared.cause.Cause.TheVariants.{Image}
use Rattle.program_io.specs.declared.input.Kind.TheVariants as kinds
use Rattle.nvpool.specs.declared.telling.Form.{Form}
use Rattle.nvpool.specs.declared.telling.Form.TheVariants.{Numbers, Letters, Picture}
use Rattle.nvpool.specs.Meaning.{Meaning}
use Rattle.nvpool.specs.Rules.{PoolRules, log_pools, gc_pools}
use Rattle.nvpool.specs.Variants.{either}

-- what stands before the arenas of a pool, what is told of each by the rules of its variant, and what stands behind them
abbrev pub front_of : Form → PoolHeader → List ℕ
front_of Numbers header = []
front_of Letters header = legend_line
front_of Picture header = head header.arenas header.granules

abbrev pub IsToldAs : MapRules → Form → PoolHeader → List ℕ → ℕ → List ℕ → Type 0
IsToldAs r Numbers header = IsInfo r
IsToldAs r Letters header = IsText r
IsToldAs r Picture header = λ words arena. IsPicture r (arena_y header.granules arena) words arena

abbrev pub back_of : Form → List ℕ
back_of Numbers = []
back_of Letters = []
back_of Picture = end_of_page

-- the text has what is told of each of the first so many arenas of a pool, in order
abbrev pub AreTold : MapRules → Form → List ℕ → PoolHeader → ℕ → List ℕ → Type 0
AreTold r form words header count text = ArePieces (λ arena own. IsToldAs r form header (part_of words header.granules arena) arena own) count text

-- of the requests for whole granules those find a place in an arena that are not above its longest row of free ones
abbrev pub GrantsLongestRow : MapRules → List ℕ → Type 0
GrantsLongestRow r words = (longest : ℕ) → IsLongestRow (IsVacant (bounds_of words) (r.tables words)) longest → IsGreatestRequest (bounds_of words) (r.tables words) longest

-- The words are those of a pool with this header, and the output has what is told of each of its arenas, with what stands around
-- that. The longest row that is told says which requests each arena grants.
pub record IsToldBy (r : MapRules) (form : Form) (words : List ℕ) (header : PoolHeader) (output : List ℕ) : Type 0 where
  pub told : List ℕ
  pub each : AreTold r form words header header.arenas told
  pub is : output ≡ front_of form header ++ told ++ back_of form
  pub grants : (arena : ℕ) → arena < header.arenas → GrantsLongestRow r (part_of words header.granules arena)

-- the input is the image of a pool, of which the output tells
pub record IsTold (r : PoolRules) (form : Form) (input output : List ℕ) : Type 0 where
  pub words : List ℕ
  pub header : PoolHeader
  pub image : r.IsImage input words header
  pub told : IsToldBy r.maps form words header output

-- an arena is the first that is not sound, and this is its first defect
pub record HasUnsound (r : PoolRules) (words : List ℕ) (header : PoolHeader) (arena : ℕ) (defect : Defect) : Type 0 where
  pub inside : arena < header.arenas
  pub before : (earlier : ℕ) → earlier < arena → r.maps.IsSound (part_of words header.granules earlier)
  pub first : r.IsFirst (part_of words header.granules arena) defect

-- the bytes are the image of a pool of which some arena is not sound
pub record HasUnsoundArena (r : PoolRules) (bytes : List ℕ) (arena : ℕ) (defect : Defect) : Type 0 where
  pub words : List ℕ
  pub header : PoolHeader
  pub image : r.IsImage bytes words header
  pub unsound : HasUnsound r words header arena defect

-- the bytes are none of a pool; else the lowest arena that is not sound, by its first defect
abbrev pub IsPoolDefect : PoolRules → List ℕ → ℕ → Defect → Type 0
IsPoolDefect r bytes arena defect = r.IsNone bytes arena defect ⊎ HasUnsoundArena r bytes arena defect

-- the bytes are the image of a pool of which every arena is sound
pub record HasSoundArenas (r : PoolRules) (input : List ℕ) : Type 0 where
  pub words : List ℕ
  pub header : PoolHeader
  pub image : r.IsImage input words header
  pub sound : (arena : ℕ) → arena < header.arenas → r.maps.IsSound (part_of words header.granules arena)

-- why an image is refused: the first defect
abbrev pub RefusesImage : PoolRules → List ℕ → Cause → Type 0
RefusesImage r input (Image arena defect) = IsPoolDefect r input arena defect
RefusesImage r input cause = ⊥

-- by variant, and for both

abbrev pub telling_by : PoolRules → Form → Meaning
telling_by r form = record { reads = kinds.Image; answers = IsTold r form; refuses = RefusesImage r; accepts = HasSoundArenas r }

abbrev pub telling : Form → Meaning
telling form = either (telling_by log_pools form) (telling_by gc_pools form)

-- for the functions below

-- what is told of an arena, by its map
abbrev pub told_text : Form → PoolHeader → ℕ → HeapMap → List ℕ
told_text Numbers header arena map = facts_text arena map.facts map.classes.items
told_text Letters header arena map = map_text arena map.cells.items map.facts map.classes.items
told_text Picture header arena map = arena_picture arena (arena_y header.granules arena) map.cells.items map.facts map.classes.items

-- an arena's own first defect
pub record IsOwnDefect (r : PoolRules) (words : List ℕ) (arena found : ℕ) (defect : Defect) : Type 0 where
  pub same : found ≡ arena
  pub first : r.IsFirst words defect
