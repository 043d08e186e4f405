-- What a call changes of the words of an arena: one root's block, and the slabs.
use Rattle.std.specs.Prelude.{◌≡◌, ◌≢◌, ◌⊎◌, ℕ, Bool, true, false, List, Option, None, if◌then◌else◌}
use Rattle.pmem_lines.specs.Words.{word_at}
use Rattle.pool_layout.specs.Places.{fields_word}
use Rattle.image_tables.specs.Tables.{Tables, tables_of}
use Rattle.heap_model.specs.Machine.{Range, with_key}
use Rattle.heap_model.specs.Placement.{Stacks, without_slab}
use Rattle.heap_check.specs.Heap.{heap, slabs}
use Rattle.heap_check.specs.Sound.{IsInSlab, HasOther}
use Rattle.heap_check.specs.State.{KeepsBlocks}

-- the root has this block now, or none, these are the slabs, and all else is as before
pub record GivesRoot (old : List ℕ) (root : ℕ) (block : Option Range) (slab : ℕ → Option ℕ) (new : List ℕ) : Type 0 where
  pub here : heap (tables_of new) root ≡ block
  pub others : (other : ℕ) → other ≢ root → heap (tables_of new) other ≡ heap (tables_of old) other
  pub slabs : (start : ℕ) → slabs (tables_of new) start ≡ slab start
  pub keeps : KeepsBlocks old new
  pub header : word_at new fields_word ≡ word_at old fields_word

-- the slabs behind a call that leaves the one at a start without a block, or not
abbrev pub slabs_but : (ℕ → Option ℕ) → ℕ → Bool → ℕ → Option ℕ
slabs_but slab start gone = if gone then with_key slab start None else slab

-- the stacks behind it: a slab that went loses its blocks
abbrev pub stacks_but : Stacks → ℕ → Bool → Stacks
stacks_but stacks start gone = if gone then without_slab stacks start else stacks

-- no root but this one has a block in the slab at a start, or some other has
pub record IsLastOf (t : Tables) (root start : ℕ) (gone : Bool) : Type 0 where
  pub is : ((gone ≡ true) × ((other : ℕ) → other ≢ root → t.root other ≢ 0 → ¬ (IsInSlab t start (t.root other)))) ⊎ ((gone ≡ false) × HasOther t root start)
