-- The heap that an image has: the block of each root, with its size. All of it is read off the tables of the image, and of
-- roots it is what they hold that counts (`root`), not their words.
use Rattle.std.specs.Prelude.{◌≡◌, ◌≢◌, ◌⊎◌, ◌==◌, ◌&&◌, nat_lt, ℕ, ◌*◌, ◌/◌, ◌%◌, ◌-◌, ◌<◌, Bool, true, false, Option, Some, None, if◌then◌else◌}
use Rattle.size_classes.specs.Classes.{class_size, class_capacity}
use Rattle.image_tables.specs.declared.entry.WalEntry.{WalEntry}
use Rattle.image_tables.specs.declared.entry.WalEntry.TheVariants.{Place, Move}
use Rattle.image_tables.specs.Forms.{morphing_kind}
use Rattle.image_tables.specs.Tables.{SlabHeader, Tables}
use Rattle.heap_model.specs.Below.{any_below}
use Rattle.heap_model.specs.Machine.{Range, AreApart, slab_block}

-- the start of the slab that has a granule, where one has it
unfoldable pub slab_of : (ℕ → Bool) → ℕ → ℕ
slab_of slab k = if slab k then k else if slab (k - 1) then k - 1 else if slab (k - 2) then k - 2 else k - 3

-- a live place of a slab's index table, of which n are read, has its block of class c at this address
unfoldable pub is_old_of : ℕ → ℕ → (ℕ → Bool) → (ℕ → ℕ) → ℕ → ℕ → Bool
is_old_of start c live number n at = any_below (λ place. live place && ((slab_block start c (number place)).at == at)) n

-- a live index entry of the slab has its block there
abbrev pub is_old : SlabHeader → ℕ → ℕ → Bool
is_old h start at = is_old_of start h.old h.live h.number h.index_count at

-- a live large extent starts at the address
unfoldable pub is_large : (ℕ → ℕ) → ℕ → Bool
is_large large at = (at % 16384 == 0) && nat_lt 0 (large (at / 16384))

-- the address that an open place entry has for a root, 0 where it names another
abbrev pub entry_at : Option WalEntry → ℕ → ℕ
entry_at None root = 0
entry_at (Some (Place named at old place)) root = if root == named then at else 0
entry_at (Some (Move from to)) root = 0

-- an open place entry is one of an old block
abbrev pub entry_old : Option WalEntry → Bool
entry_old None = false
entry_old (Some (Place named at old place)) = old
entry_old (Some (Move from to)) = false

-- the size of the old class, or of the class, of the slab that has an address
abbrev pub size_by : Tables → ℕ → Bool → ℕ
size_by t at of_old = class_size (if of_old then (t.header (slab_of t.slab (at / 16384))).old else (t.header (slab_of t.slab (at / 16384))).class)

-- The size of the block of a root at an address: that of the live large extent that starts there; else, where the open
-- place entry names this root and address, the size of the old class or of the class, as the entry says; else that of the
-- live index entry's block there; else that of the block of the slab's class.
abbrev pub size_at : Tables → ℕ → ℕ → ℕ
size_at t root at =
    if is_large t.large at then 16384 * t.large (at / 16384)
    else (if (entry_at t.open_entry root == at) && nat_lt 0 at then size_by t at (entry_old t.open_entry)
    else size_by t at (is_old (t.header (slab_of t.slab (at / 16384))) (slab_of t.slab (at / 16384)) at))

-- the heap of an image: each root that holds an address has the block there
abbrev pub heap : Tables → ℕ → Option Range
heap t root = if t.root root == 0 then None else Some (record { at = t.root root; size = size_at t root (t.root root) })

-- the slabs of an image, each with its class
abbrev pub slabs : Tables → ℕ → Option ℕ
slabs t start = if t.slab start then Some (t.header start).class else None

-- claims: the block of an open place entry counts as its root's

-- the address of a root's block, 0 where it has none
abbrev pub claim_at : Tables → ℕ → ℕ
claim_at t root = if t.root root == 0 then entry_at t.open_entry root else t.root root

-- a root has this block
pub record IsClaim (t : Tables) (root : ℕ) (range : Range) : Type 0 where
  pub some : range.at ≢ 0
  pub place : claim_at t root ≡ range.at
  pub wide : size_at t root (claim_at t root) ≡ range.size

-- what a slab holds

-- the block of a bit that is set, which is not read while the slab takes another class
pub record HoldsBit (h : SlabHeader) (start : ℕ) (range : Range) : Type 0 where
  pub number : ℕ
  pub below : number < class_capacity h.class
  pub read : h.kind ≢ morphing_kind
  pub set : h.bit number ≡ true
  pub is : range ≡ slab_block start h.class number

-- the block of a live index entry, of the old class
pub record HoldsOld (h : SlabHeader) (start : ℕ) (range : Range) : Type 0 where
  pub place : ℕ
  pub below : place < h.index_count
  pub live : h.live place ≡ true
  pub is : range ≡ slab_block start h.old (h.number place)

-- a slab holds a block
pub record HoldsBy (slabs : ℕ → Bool) (header : ℕ → SlabHeader) (start : ℕ) (range : Range) : Type 0 where
  pub slab : slabs start ≡ true
  pub block : HoldsBit (header start) start range ⊎ HoldsOld (header start) start range

abbrev pub Holds : Tables → ℕ → Range → Type 0
Holds t = HoldsBy t.slab t.header

-- Block `number` of a class in the slab at a start is unused: it shares no byte with a block that the slab holds.
pub record IsUnusedIn (t : Tables) (start class number : ℕ) : Type 0 where
  pub each : (range : Range) → Holds t start range → AreApart range (slab_block start class number)
