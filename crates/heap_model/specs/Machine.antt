-- The heap machine: what an arena is for its users. Its state has three maps: the block of each root, the class of each
-- slab by the granule that it begins at, and the words that were written into the blocks. It knows no memory, bitmap,
-- log or list of free space.
use Rattle.std.specs.Prelude.{◌≡◌, ◌≢◌, ◌⊎◌, ◌==◌, ℕ, ◌+◌, ◌*◌, ◌<◌, ◌≤◌, Option, Some, None, if◌then◌else◌}
use Rattle.size_classes.specs.Classes.{class_size, class_capacity}

-- the numbers of an arena: how many root words there are, where its heap begins and where it ends, in granules
pub record Bounds : Type 0 where
  pub roots : ℕ
  pub first : ℕ
  pub granules : ℕ

-- a range of bytes
pub record Range : Type 0 where
  pub at : ℕ
  pub size : ℕ

pub record Machine : Type 0 where
  -- the block that each root names
  pub block : ℕ → Option Range
  -- the class of the slab that begins at a granule
  pub slab : ℕ → Option ℕ
  -- the word of each root and index that was written since the root was given its block
  pub value : ℕ → ℕ → Option ℕ

-- nothing is allocated
abbrev pub no_heap : Machine
no_heap = record { block = λ _. None; slab = λ _. None; value = λ _ _. None }

-- a map with one key changed
abbrev pub with_key : {X : Type 0} → (ℕ → Option X) → ℕ → Option X → ℕ → Option X
with_key map key new other = if other == key then new else map other

-- ranges

-- the two ranges share no byte
abbrev pub AreApart : Range → Range → Type 0
AreApart a b = (a.at + a.size ≤ b.at) ⊎ (b.at + b.size ≤ a.at)

-- the range shares a byte with granule k
pub record Meets (range : Range) (k : ℕ) : Type 0 where
  pub begins : range.at < 16384 * (k + 1)
  pub ends : 16384 * k < range.at + range.size

-- a block of whole granules, which every block above the largest class is
abbrev pub IsLarge : Range → Type 0
IsLarge range = 16384 < range.size

-- the range lies in the slab that begins at granule s, whose 65536 bytes are four granules
pub record LiesIn (s : ℕ) (range : Range) : Type 0 where
  pub low : 16384 * s ≤ range.at
  pub high : range.at + range.size ≤ 16384 * s + 65536

-- block i of class c in the slab that begins at granule s, behind the slab's header
abbrev pub slab_block : ℕ → ℕ → ℕ → Range
slab_block s c i = record { at = 16384 * s + 2048 + i * class_size c; size = class_size c }

-- the range is a block of class c in the slab at s
pub record IsBlockOf (s c : ℕ) (range : Range) : Type 0 where
  pub number : ℕ
  pub within : number < class_capacity c
  pub is : range ≡ slab_block s c number

-- the range overlaps no live block
pub record IsUnused (m : Machine) (range : Range) : Type 0 where
  pub each : (root : ℕ) (other : Range) → m.block root ≡ Some other → AreApart range other

-- free granules

-- the granule lies in the heap, and in no large block and no slab
pub record IsFreeGranule (b : Bounds) (m : Machine) (k : ℕ) : Type 0 where
  pub low : b.first ≤ k
  pub high : k < b.granules
  pub no_block : (root : ℕ) (range : Range) → m.block root ≡ Some range → IsLarge range → ¬ (Meets range k)
  pub no_slab : (s c : ℕ) → m.slab s ≡ Some c → (k < s) ⊎ (s + 4 ≤ k)

-- the range is whole granules of the heap
pub record IsWholeGranules (b : Bounds) (range : Range) : Type 0 where
  pub start : ℕ
  pub count : ℕ
  pub at : range.at ≡ 16384 * start
  pub size : range.size ≡ 16384 * count
  pub low : b.first ≤ start
  pub high : start + count ≤ b.granules

-- live blocks never overlap, and each lies where its size says
pub record IsOverlapFree (b : Bounds) (m : Machine) : Type 0 where
  pub apart : (root other : ℕ) (range another : Range) → root ≢ other → m.block root ≡ Some range → m.block other ≡ Some another → AreApart range another
  pub rooted : (root : ℕ) (range : Range) → m.block root ≡ Some range → root < b.roots
  pub sized : (root : ℕ) (range : Range) → m.block root ≡ Some range → 0 < range.size
  pub slabs : (s c : ℕ) → m.slab s ≡ Some c → (b.first ≤ s) × (s + 4 ≤ b.granules)
  pub slabs_apart : (s t c d : ℕ) → s ≢ t → m.slab s ≡ Some c → m.slab t ≡ Some d → (s + 4 ≤ t) ⊎ (t + 4 ≤ s)
  pub small : (root : ℕ) (range : Range) → m.block root ≡ Some range → ¬ (IsLarge range) → (s : ℕ) × (c : ℕ) × (m.slab s ≡ Some c) × LiesIn s range
  pub large : (root : ℕ) (range : Range) → m.block root ≡ Some range → IsLarge range → IsWholeGranules b range
  pub clear : (root : ℕ) (range : Range) (s c k : ℕ) → m.block root ≡ Some range → IsLarge range → m.slab s ≡ Some c → s ≤ k → k < s + 4 → ¬ (Meets range k)
