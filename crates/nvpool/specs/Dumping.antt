-- What `dump` means.
use Rattle.std.specs.Prelude.{◌≡◌, ◌⊎◌, ℕ, ◌%◌, ◌<◌, ◌≤◌, List, Some, None}
use Rattle.pool_layout.specs.declared.header.PoolHeader.{PoolHeader}
use Rattle.pool_layout.specs.Image.{part_of}
use Rattle.heap_model.specs.Machine.{Range}
use Rattle.heap_map.specs.Rules.{MapRules}
use Rattle.map_text.specs.Maps.{IsDump}
use Rattle.nvpool.specs.declared.cause.Cause.{Cause}
use Rattle.nvpool.specs.declared.cause.Cause.TheVariants.{Text, Image, NoArena, NoBlock}
use Rattle.program_io.specs.declared.input.Kind.TheVariants as kinds
use Rattle.nvpool.specs.Meaning.{Meaning}
use Rattle.nvpool.specs.Rules.{PoolRules, log_pools, gc_pools}
use Rattle.nvpool.specs.Variants.{either}

-- the bytes are the image of a pool that has the arena, of which this holds
pub record HasArena (r : PoolRules) (input : List ℕ) (arena : ℕ) (Is : List ℕ → Type 0) : Type 0 where
  pub words : List ℕ
  pub header : PoolHeader
  pub image : r.IsImage input words header
  pub inside : arena < header.arenas
  pub holds : Is (part_of words header.granules arena)

-- the bytes are the image of a pool of so many arenas, which has not this one
pub record HasNoArena (r : PoolRules) (input : List ℕ) (arena arenas : ℕ) : Type 0 where
  pub words : List ℕ
  pub header : PoolHeader
  pub image : r.IsImage input words header
  pub all : arenas ≡ header.arenas
  pub outside : arenas ≤ arena

-- the words are sound, and a root has no block
pub record HasNoBlock (r : MapRules) (words : List ℕ) (root : ℕ) : Type 0 where
  pub sound : r.IsSound words
  pub none : r.block words root ≡ None

-- they are sound, and it has one
pub record HasBlock (r : MapRules) (words : List ℕ) (root : ℕ) : Type 0 where
  pub sound : r.IsSound words
  pub some : ¬ (r.block words root ≡ None)

-- the text has the words of the block of a root, as they stand, sixteen bytes a line, and all of them
pub record IsBlockDump (r : MapRules) (words : List ℕ) (root : ℕ) (text : List ℕ) : Type 0 where
  pub dump : IsDump r words root text
  pub whole : dump.range.size % 16 ≡ 0

-- Why an image is refused: the bytes are none of a pool; or its pool has not the arena; or that is not sound, and this is its
-- first defect; or the root has no block. Of the other arenas nothing is asked.
abbrev pub RefusesDump : PoolRules → ℕ → ℕ → List ℕ → Cause → Type 0
RefusesDump r arena root input (Image found defect) = r.IsNone input found defect ⊎ ((found ≡ arena) × HasArena r input arena (λ words. r.IsFirst words defect))
RefusesDump r arena root input (NoArena asked arenas) = (asked ≡ arena) × HasNoArena r input arena arenas
RefusesDump r arena root input (NoBlock asked named) = (asked ≡ arena) × (named ≡ root) × HasArena r input arena (λ words. HasNoBlock r.maps words root)
RefusesDump r arena root input (Text refusal) = ⊥

-- by variant, and for both

abbrev pub dumping_by : PoolRules → ℕ → ℕ → Meaning
dumping_by r arena root = record {
  reads = kinds.Image;
  answers = λ input output. HasArena r input arena (λ words. IsBlockDump r.maps words root output);
  refuses = RefusesDump r arena root;
  accepts = λ input. HasArena r input arena (λ words. HasBlock r.maps words root);
}

abbrev pub dumping : ℕ → ℕ → Meaning
dumping arena root = either (dumping_by log_pools arena root) (dumping_by gc_pools arena root)

-- for the functions below

-- why the words of an arena of this number have no block of a root to show
abbrev pub RefusesArena : PoolRules → List ℕ → ℕ → ℕ → Cause → Type 0
RefusesArena r words arena root (Image found defect) = (found ≡ arena) × r.IsFirst words defect
RefusesArena r words arena root (NoArena asked arenas) = ⊥
RefusesArena r words arena root (NoBlock asked named) = (asked ≡ arena) × (named ≡ root) × HasNoBlock r.maps words root
RefusesArena r words arena root (Text refusal) = ⊥

-- the lines of a block have all of its words
abbrev pub HaveWholeLines : MapRules → Type 0
HaveWholeLines r = (words : List ℕ) (root : ℕ) (range : Range) → r.block words root ≡ Some range → range.size % 16 ≡ 0
