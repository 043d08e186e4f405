-- When an image is sound, part by part, over its tables; when nothing in it is loose; and what every crash of a call
-- leaves.
--
-- Most parts are a record over the columns of the tables that it reads, named with `By`, and beside it the same of whole
-- tables: so what holds of one image holds of each other that has these columns.
use Rattle.std.specs.Prelude.{◌≡◌, ◌≢◌, ◌⊎◌, ℕ, ◌+◌, ◌*◌, ◌<◌, ◌≤◌, Bool, true, false, Option, Some, None, if◌then◌else◌}
use Rattle.size_classes.specs.Classes.{class_capacity}
use Rattle.image_tables.specs.declared.entry.WalEntry.{WalEntry}
use Rattle.image_tables.specs.declared.entry.WalEntry.TheVariants.{Place, Move}
use Rattle.image_tables.specs.Forms.{normal_kind, morphing_kind, morphed_kind, IsState}
use Rattle.image_tables.specs.Tables.{SlabHeader, Tables}
use Rattle.heap_model.specs.Machine.{Bounds, Range, AreApart, slab_block}
use Rattle.heap_check.specs.Heap.{is_large, entry_at, IsClaim, HoldsBy, Holds}

-- extents

-- how many granules the live extent has that starts at a granule: a slab has four
abbrev pub granules_at : Tables → ℕ → ℕ
granules_at t start = if t.slab start then 4 else t.large start

-- a granule lies in the live extent that starts at another
pub record CoversBy (large : ℕ → ℕ) (slab : ℕ → Bool) (start k : ℕ) : Type 0 where
  pub low : start ≤ k
  pub high : k < start + (if slab start then 4 else large start)

abbrev pub Covers : Tables → ℕ → ℕ → Type 0
Covers t = CoversBy t.large t.slab

-- a granule is vacant: it lies in the heap, and in no live extent
pub record IsVacantBy (b : Bounds) (large : ℕ → ℕ) (slab : ℕ → Bool) (k : ℕ) : Type 0 where
  pub low : b.first ≤ k
  pub high : k < b.granules
  pub none : (start : ℕ) → ¬ (CoversBy large slab start k)

abbrev pub IsVacant : Bounds → Tables → ℕ → Type 0
IsVacant b t = IsVacantBy b t.large t.slab

-- an address lies in the slab at a start
pub record IsInSlabBy (slabs : ℕ → Bool) (start at : ℕ) : Type 0 where
  pub slab : slabs start ≡ true
  pub low : 16384 * start ≤ at
  pub high : at < 16384 * start + 65536

abbrev pub IsInSlab : Tables → ℕ → ℕ → Type 0
IsInSlab t = IsInSlabBy t.slab

-- slabs

-- state word and index entries of a slab are valid
pub record IsValidSlab (h : SlabHeader) : Type 0 where
  pub state : IsState h.kind h.class h.old h.index_count
  pub small : (place : ℕ) → place < h.index_count → h.number place < class_capacity h.old
  pub once : (place other : ℕ) → place < h.index_count → other < h.index_count → h.number place ≡ h.number other → place ≡ other

-- the open entry

-- a block of its slab's class stands at the address
pub record IsNewEntryBy (slabs : ℕ → Bool) (header : ℕ → SlabHeader) (at : ℕ) : Type 0 where
  pub start : ℕ
  pub number : ℕ
  pub slab : slabs start ≡ true
  pub below : number < class_capacity (header start).class
  pub is : at ≡ (slab_block start (header start).class number).at

abbrev pub IsNewEntry : Tables → ℕ → Type 0
IsNewEntry t = IsNewEntryBy t.slab t.header

-- a slab's index table has an old block at the address, in this place
pub record IsOldEntryBy (slabs : ℕ → Bool) (header : ℕ → SlabHeader) (at place : ℕ) : Type 0 where
  pub start : ℕ
  pub slab : slabs start ≡ true
  pub kind : (header start).kind ≡ morphed_kind
  pub below : place < (header start).index_count
  pub is : at ≡ (slab_block start (header start).old ((header start).number place)).at

abbrev pub IsOldEntry : Tables → ℕ → ℕ → Type 0
IsOldEntry t = IsOldEntryBy t.slab t.header

-- a place entry may be open: its root holds nothing or its address, and it names a block
pub record IsOpenPlace (b : Bounds) (t : Tables) (root at : ℕ) (old : Bool) (place : ℕ) : Type 0 where
  pub rooted : root < b.roots
  pub word : (t.root root ≡ 0) ⊎ (t.root root ≡ at)
  pub block : ((old ≡ false) × IsNewEntry t at) ⊎ ((old ≡ true) × IsOldEntry t at place)

-- A move entry may be open: it names two roots, of which one has a word at least, and where both have, it is the same.
pub record IsOpenMoveBy (b : Bounds) (word : ℕ → ℕ) (from to : ℕ) : Type 0 where
  pub low : from < b.roots
  pub high : to < b.roots
  pub differ : from ≢ to
  pub some : (word from ≢ 0) ⊎ (word to ≢ 0)
  pub same : word from ≢ 0 → word to ≢ 0 → word from ≡ word to

abbrev pub IsOpenMove : Bounds → Tables → ℕ → ℕ → Type 0
IsOpenMove b t = IsOpenMoveBy b t.word

abbrev pub IsOpenEntry : Bounds → Tables → WalEntry → Type 0
IsOpenEntry b t (Place root at old place) = IsOpenPlace b t root at old place
IsOpenEntry b t (Move from to) = IsOpenMove b t from to

-- an entry may be open, and then no slab takes another class
pub record IsOpen (b : Bounds) (t : Tables) (e : WalEntry) : Type 0 where
  pub entry : IsOpenEntry b t e
  pub none_morphing : (start : ℕ) → t.slab start ≡ true → (t.header start).kind ≢ morphing_kind

-- roots

-- some slab holds a block at the address
pub record IsHeldBy (slabs : ℕ → Bool) (header : ℕ → SlabHeader) (at : ℕ) : Type 0 where
  pub start : ℕ
  pub range : Range
  pub holds : HoldsBy slabs header start range
  pub here : range.at ≡ at

abbrev pub IsHeld : Tables → ℕ → Type 0
IsHeld t = IsHeldBy t.slab t.header

-- a root's block may stand at the address: a live large extent starts there, a slab holds a block there, or the open
-- place entry names this root and the address
abbrev pub IsStanding : Tables → ℕ → ℕ → Type 0
IsStanding t root at = (is_large t.large at ≡ true) ⊎ (IsHeld t at ⊎ (entry_at t.open_entry root ≡ at))

-- loose things

-- at most one number has it
pub record AtMostOne (P : ℕ → Type 0) : Type 0 where
  pub same : (one other : ℕ) → P one → P other → one ≡ other

-- a large extent that no root holds
pub record IsLooseLargeBy (large held : ℕ → ℕ) (start : ℕ) : Type 0 where
  pub live : 0 < large start
  pub unnamed : (root : ℕ) → held root ≢ 16384 * start

abbrev pub IsLooseLarge : Tables → ℕ → Type 0
IsLooseLarge t = IsLooseLargeBy t.large t.root

-- a slab in which no root's block lies
pub record IsEmptySlabBy (slabs : ℕ → Bool) (held : ℕ → ℕ) (start : ℕ) : Type 0 where
  pub slab : slabs start ≡ true
  pub none : (root : ℕ) → held root ≢ 0 → ¬ (IsInSlabBy slabs start (held root))

abbrev pub IsEmptySlab : Tables → ℕ → Type 0
IsEmptySlab t = IsEmptySlabBy t.slab t.root

-- a slab that takes another class
pub record IsMorphingBy (slabs : ℕ → Bool) (kinds : ℕ → ℕ) (start : ℕ) : Type 0 where
  pub slab : slabs start ≡ true
  pub kind : kinds start ≡ morphing_kind

abbrev pub IsMorphing : Tables → ℕ → Type 0
IsMorphing t = IsMorphingBy t.slab (λ start. (t.header start).kind)

-- a slab that took another class and has no live index entry left
pub record IsDoneSlabBy (slabs : ℕ → Bool) (header : ℕ → SlabHeader) (start : ℕ) : Type 0 where
  pub slab : slabs start ≡ true
  pub kind : (header start).kind ≡ morphed_kind
  pub none : (place : ℕ) → place < (header start).index_count → (header start).live place ≡ false

abbrev pub IsDoneSlab : Tables → ℕ → Type 0
IsDoneSlab t = IsDoneSlabBy t.slab t.header

-- Nothing comes to be loose: each loose extent and slab of the second tables is one of the first.
pub record LoosensNothing (t new : Tables) : Type 0 where
  pub large : (start : ℕ) → IsLooseLarge new start → IsLooseLarge t start
  pub empty : (start : ℕ) → IsEmptySlab new start → IsEmptySlab t start
  pub morphing : (start : ℕ) → IsMorphing new start → IsMorphing t start
  pub done : (start : ℕ) → IsDoneSlab new start → IsDoneSlab t start

-- live extents are disjoint and lie in the heap, and none is of both kinds
pub record AreExtents (b : Bounds) (large : ℕ → ℕ) (slab : ℕ → Bool) : Type 0 where
  pub disjoint : (start other k : ℕ) → CoversBy large slab start k → CoversBy large slab other k → start ≡ other
  pub starts : (start : ℕ) → 0 < (if slab start then 4 else large start) → (b.first ≤ start) × (start + (if slab start then 4 else large start) ≤ b.granules)
  pub one_kind : (start : ℕ) → slab start ≡ true → large start ≡ 0

-- What each root holds stands where a block may, no two roots' blocks overlap, and each block that a slab holds is a root's;
-- the open entry may be open.
pub record AreOwned (b : Bounds) (t : Tables) : Type 0 where
  pub open_entry : (e : WalEntry) → t.open_entry ≡ Some e → IsOpen b t e
  pub rooted : (root : ℕ) → t.root root ≢ 0 → IsStanding t root (t.root root)
  pub apart : (root other : ℕ) (range another : Range) → root ≢ other → IsClaim t root range → IsClaim t other another → AreApart range another
  pub claimed : (start : ℕ) (range : Range) → Holds t start range → (root : ℕ) × IsClaim t root range

-- of each of the four loose things there is one at most
pub record AreFewLoose (t : Tables) : Type 0 where
  pub large : AtMostOne (IsLooseLarge t)
  pub empty : AtMostOne (IsEmptySlab t)
  pub morphing : AtMostOne (IsMorphing t)
  pub done : AtMostOne (IsDoneSlab t)

-- The image is sound.
pub record IsSound (b : Bounds) (t : Tables) : Type 0 where
  pub extents : AreExtents b t.large t.slab
  pub slabs : (start : ℕ) → t.slab start ≡ true → IsValidSlab (t.header start)
  pub owned : AreOwned b t
  pub loose : AreFewLoose t

-- The image is exact: sound with nothing loose.
pub record IsExact (b : Bounds) (t : Tables) : Type 0 where
  pub sound : IsSound b t
  pub closed : t.open_entry ≡ None
  pub all_named : (start : ℕ) → 0 < t.large start → (root : ℕ) × (t.root root ≡ 16384 * start)
  pub all_live : (start : ℕ) → t.slab start ≡ true → (root : ℕ) × (t.root root ≢ 0) × IsInSlab t start (t.root root)
  pub none_morphing : (start : ℕ) → ¬ (IsMorphing t start)
  pub none_done : (start : ℕ) → ¬ (IsDoneSlab t start)

-- some other root has a block in the slab
pub record HasOther (t : Tables) (root start : ℕ) : Type 0 where
  pub other : ℕ
  pub differ : other ≢ root
  pub some : t.root other ≢ 0
  pub inside : IsInSlab t start (t.root other)

-- The image is exact, but that the slab at a start may have no root's block, or no old one left where it took another
-- class.
pub record IsExactBut (b : Bounds) (t : Tables) (start : ℕ) : Type 0 where
  pub sound : IsSound b t
  pub closed : t.open_entry ≡ None
  pub all_named : (other : ℕ) → 0 < t.large other → (root : ℕ) × (t.root root ≡ 16384 * other)
  pub others_live : (other : ℕ) → other ≢ start → t.slab other ≡ true → (root : ℕ) × (t.root root ≢ 0) × IsInSlab t other (t.root root)
  pub none_morphing : (other : ℕ) → ¬ (IsMorphing t other)
  pub none_done : (other : ℕ) → other ≢ start → ¬ (IsDoneSlab t other)

-- an open place entry of an old block has this place of a slab's index table, and its root holds nothing
pub record IsLeavingBy (opened : Option WalEntry) (held : ℕ → ℕ) (header : ℕ → SlabHeader) (start place : ℕ) : Type 0 where
  pub root : ℕ
  pub entry : opened ≡ Some (Place root (slab_block start (header start).old ((header start).number place)).at true place)
  pub none : held root ≡ 0

abbrev pub IsLeaving : Tables → ℕ → ℕ → Type 0
IsLeaving t = IsLeavingBy t.open_entry t.root t.header

-- a slab that takes or took another class has no live index entry, but for one that is leaving
pub record IsNearlyDoneBy (slabs : ℕ → Bool) (header : ℕ → SlabHeader) (opened : Option WalEntry) (held : ℕ → ℕ) (start : ℕ) : Type 0 where
  pub slab : slabs start ≡ true
  pub kind : (header start).kind ≢ normal_kind
  pub none : (place : ℕ) → place < (header start).index_count → (header start).live place ≡ true → IsLeavingBy opened held header start place

abbrev pub IsNearlyDone : Tables → ℕ → Type 0
IsNearlyDone t = IsNearlyDoneBy t.slab t.header t.open_entry t.root

-- The image is steady, as every crash within a call leaves it: sound, and one slab at most is nearly done.
pub record IsSteady (b : Bounds) (t : Tables) : Type 0 where
  pub sound : IsSound b t
  pub one_done : AtMostOne (IsNearlyDone t)
