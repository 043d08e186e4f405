-- What an arena keeps between its calls, and the memory that it is made of.
use Rattle.std.specs.Prelude.{◌≡◌, ◌↔◌, ℕ, ◌<◌, ◌≤◌, ◌≢◌, ◌⊎◌, true, false, List, length, slice_index, Option, Some, None}
use Rattle.pmem_lines.specs.Pmem.{PmemState, words_of}
use Rattle.pool_layout.specs.Header.{granules_in}
use Rattle.size_classes.specs.Classes.{class_capacity}
use Rattle.image_tables.specs.Tables.{Tables, tables_of}
use Rattle.book_log.specs.Book.{IsBlank}
use Rattle.heap_model.specs.declared.block.Block.{Block}
use Rattle.heap_model.specs.Machine.{Range, AreApart, slab_block}
use Rattle.extent_index.specs.FreeSet.{FreeSet, IsFree}
use Rattle.heap_model.specs.Placement.{no_stacks}
use Rattle.slab_index.specs.SlabSet.{class_in}
use Rattle.slab_index.specs.Unfit.{is_unfit}
use Rattle.slab_index.specs.Lives.{Lives, normal_at}
use Rattle.thread_cache.specs.Stacks.{StackTable, stacks_of}
use Rattle.block_supply.specs.Supply.{Supply, MayBeGiven}
use Rattle.heap_check.specs.Heap.{heap, slabs, IsUnusedIn}
use Rattle.heap_check.specs.Sound.{IsVacant}
use Rattle.heap_check.specs.Image.{bounds_of, IsExactImage}
use Rattle.log_steps.specs.Log.{IsBookOf}
use Rattle.attach_steps.specs.declared.block.OldBlock.{OldBlock}
use Rattle.arena_core.specs.declared.volatile.Volatile.{Volatile}
use Rattle.arena_core.specs.Call.{IsReady}
use Rattle.heap_check.specs.Views.{AreCountsOf, normal_of}

-- what an arena means: the state of its memory, the write-ahead line that its next entry goes to, and the stacks of reserved
-- blocks
pub record ArenaState : Type 0 where
  pub device : PmemState
  pub line : ℕ
  pub stacks : StackTable

-- the set has the vacant granules of these words
pub record IsIndexOf (set : FreeSet) (words : List ℕ) : Type 0 where
  pub granules : set.granules ≡ granules_in words
  pub each : (k : ℕ) → IsFree set k ↔ IsVacant (bounds_of words) (tables_of words) k

-- the old block in its place of its slab's index table
abbrev pub old_range : Tables → OldBlock → Range
old_range t block = slab_block block.start (t.header block.start).old ((t.header block.start).number block.place)

-- the supply has the slabs of these words, and of each the blocks of its class are open that are unused
pub record IsSlabsOf (set : Supply) (words : List ℕ) : Type 0 where
  pub granules : set.slabs.granules ≡ granules_in words
  pub classes : (start : ℕ) → class_in set.slabs start ≡ slabs (tables_of words) start
  pub blocks : (start i : ℕ) → (tables_of words).slab start ≡ true → i < class_capacity ((tables_of words).header start).class → MayBeGiven set start i ↔ IsUnusedIn (tables_of words) start ((tables_of words).header start).class i

-- the same, but that one block is not open
pub record AreSlabsLess (set : Supply) (words : List ℕ) (start number : ℕ) : Type 0 where
  pub granules : set.slabs.granules ≡ granules_in words
  pub classes : (s : ℕ) → class_in set.slabs s ≡ slabs (tables_of words) s
  pub blocks : (s i : ℕ) → (tables_of words).slab s ≡ true → i < class_capacity ((tables_of words).header s).class → (s ≢ start) ⊎ (i ≢ number) → MayBeGiven set s i ↔ IsUnusedIn (tables_of words) s ((tables_of words).header s).class i
  pub none : ¬ (MayBeGiven set start number)

-- The same, but for the blocks that overlap an old block: none of them is open.
pub record AreSlabsBut (set : Supply) (words : List ℕ) (block : OldBlock) : Type 0 where
  pub granules : set.slabs.granules ≡ granules_in words
  pub classes : (start : ℕ) → class_in set.slabs start ≡ slabs (tables_of words) start
  pub blocks : (start i : ℕ) → (tables_of words).slab start ≡ true → i < class_capacity ((tables_of words).header start).class → (start ≢ block.start) ⊎ AreApart (old_range (tables_of words) block) (slab_block start ((tables_of words).header start).class i) →
      MayBeGiven set start i ↔ IsUnusedIn (tables_of words) start ((tables_of words).header start).class i
  pub none : (i : ℕ) → i < class_capacity ((tables_of words).header block.start).class → ¬ (AreApart (old_range (tables_of words) block) (slab_block block.start ((tables_of words).header block.start).class i)) → ¬ (MayBeGiven set block.start i)

-- each block of a class in the slab at a start shares a byte with one that the slab holds
pub record HasNoUnused (words : List ℕ) (start class : ℕ) : Type 0 where
  pub none : (number : ℕ) → number < class_capacity class → ¬ (IsUnusedIn (tables_of words) start class number)

-- the counts are those of these words, the normal slabs are those of the tables, and each slab that was found unfit is unfit still
pub record AreLivesOf (lives : Lives) (words : List ℕ) : Type 0 where
  pub counts : AreCountsOf lives.counts words
  pub normal : (start : ℕ) → normal_at lives start ≡ normal_of (tables_of words) start
  pub unfit : (class start : ℕ) → is_unfit lives.unfit class start ≡ true → HasNoUnused words start class

-- what an arena keeps, whatever slabs there are: its memory is ready and its image exact, and log and index are those of
-- the image
pub record IsCurrent (device : PmemState) (volatile : Volatile) : Type 0 where
  pub ready : IsReady device
  pub exact : IsExactImage (words_of device)
  pub log : IsBookOf volatile.log (words_of device)
  pub index : IsIndexOf volatile.free (words_of device)

-- what an arena keeps: what stands beside its words is what they say
pub record IsArena (device : PmemState) (volatile : Volatile) : Type 0 where
  pub current : IsCurrent device volatile
  pub slabs : IsSlabsOf volatile.supply (words_of device)
  pub lives : AreLivesOf volatile.lives (words_of device)
  pub few : volatile.line < 8

-- memory for an arena of so many granules: an empty log, an index in which all of the heap is free, a supply without slabs and
-- with empty stacks, counts of 0, no normal slab, and none that was found unfit
pub record IsRoom (granules : ℕ) (volatile : Volatile) : Type 0 where
  pub least : 16 ≤ granules
  pub most : granules ≤ 4096
  pub log : IsBlank granules volatile.log
  pub index : volatile.free.granules ≡ granules
  pub each : (k : ℕ) → IsFree volatile.free k ↔ ((4 ≤ k) × (k < granules))
  pub slabs : volatile.supply.slabs.granules ≡ granules
  pub no_slab : (start : ℕ) → class_in volatile.supply.slabs start ≡ None
  pub no_stacks : stacks_of volatile.supply.stacks ≡ no_stacks
  pub counts : length volatile.lives.counts ≡ granules
  pub no_lives : (start : ℕ) → slice_index volatile.lives.counts start ≡ 0
  pub no_normal : (start : ℕ) → normal_at volatile.lives start ≡ None
  pub no_unfit : (class start : ℕ) → is_unfit volatile.lives.unfit class start ≡ false
  pub first : volatile.line ≡ 0

-- the block of a root, where it has one
abbrev pub IsBlockOfRoot : List ℕ → ℕ → Option Block → Type 0
IsBlockOfRoot words root None = heap (tables_of words) root ≡ None
IsBlockOfRoot words root (Some block) = (block.root ≡ root) × (heap (tables_of words) root ≡ Some (record { at = block.at; size = block.size }))
