-- What a call has done once it is carried out.
use Rattle.std.specs.Prelude.{◌≡◌, ◌≢◌, ◌==◌, ◌+◌, ◌%◌, ◌<◌, ◌≤◌, ℕ, if◌then◌else◌, List, length, slice_index, Option, Some, None, true}
use Rattle.pmem_lines.specs.Words.{word_at}
use Rattle.pmem_lines.specs.declared.event.Event.{Event}
use Rattle.pmem_lines.specs.Pmem.{PmemState, words_of, HasRoom}
use Rattle.pmem_lines.specs.Steps.{IsQuietStep}
use Rattle.image_tables.specs.Tables.{tables_of}
use Rattle.heap_model.specs.declared.call.Call.{Call}
use Rattle.heap_model.specs.declared.call.Reply.{Reply}
use Rattle.pool_layout.specs.Places.{fields_word}
use Rattle.pool_layout.specs.Header.{granules_in}
use Rattle.heap_model.specs.Machine.{Range, with_key}
use Rattle.slab_index.specs.SlabSet.{class_in}
use Rattle.slab_index.specs.Unfit.{is_unfit}
use Rattle.slab_index.specs.Lives.{Lives, normal_at}
use Rattle.block_supply.specs.Supply.{MayBeGiven}
use Rattle.attach_steps.specs.declared.block.SmallBlock.{SmallBlock}
use Rattle.attach_steps.specs.Steps.{IsAttachable}
use Rattle.heap_check.specs.Sound.{IsDoneSlab}
use Rattle.heap_check.specs.Heap as Heap
use Rattle.heap_check.specs.Image.{bounds_of, IsExactButImage}
use Rattle.heap_check.specs.State.{HaveSameHeap, KeepsBlocks, IsEitherHeap}
use Rattle.log_steps.specs.Log.{IsBookOf}
use Rattle.arena_core.specs.declared.volatile.Volatile.{Volatile}
use Rattle.arena_core.specs.Arena.{IsIndexOf, IsSlabsOf, AreSlabsLess, HasNoUnused, AreLivesOf, IsCurrent, IsArena}
use Rattle.thread_cache.specs.Stacks.{stacks_of}
use Rattle.arena_core.specs.Call.{IsReady, IsStepOf}
use Rattle.arena_core.specs.Plan.{IsMorphable}
use Rattle.arena_core.specs.Effect.{slabs_but, GivesRoot, IsLastOf}
use Rattle.arena_core.specs.Events.{holds_none, tidy_events, call_events, line_after}
use Rattle.heap_check.specs.Views.{live_in, normal_of, IsVacantRow}

-- a root was given a block, or lost its own: the events, what is kept, and what a crash leaves
pub record IsDone (old new : PmemState) (left : Volatile) (root : ℕ) (block : Option Range) (slab : ℕ → Option ℕ) (events : List Event) : Type 0 where
  pub step : IsQuietStep old new events (IsEitherHeap (words_of old) (words_of new))
  pub current : IsCurrent new left
  pub slabs : IsSlabsOf left.supply (words_of new)
  pub lives : AreLivesOf left.lives (words_of new)
  pub gives : GivesRoot (words_of old) root block slab (words_of new)

-- the counts are those of these words, but that the slab at a start has one more; the normal slabs are those of the tables; and
-- each other slab that was found unfit is unfit still
pub record HaveOneMore (lives : Lives) (words : List ℕ) (start : ℕ) : Type 0 where
  pub size : length lives.counts ≡ granules_in words
  pub inside : start < length lives.counts
  pub each : (s : ℕ) → slice_index lives.counts s ≡ (if s == start then live_in words s + 1 else live_in words s)
  pub normal : (s : ℕ) → normal_at lives s ≡ normal_of (tables_of words) s
  pub unfit : (class s : ℕ) → s ≢ start → is_unfit lives.unfit class s ≡ true → HasNoUnused words s class

-- what an arena keeps, but that a slab may be without a block, or done
pub record IsUntidy (device : PmemState) (volatile : Volatile) (start : ℕ) : Type 0 where
  pub ready : IsReady device
  pub image : IsExactButImage (words_of device) start
  pub slab : (tables_of (words_of device)).slab start ≡ true
  pub log : IsBookOf volatile.log (words_of device)
  pub index : IsIndexOf volatile.free (words_of device)
  pub slabs : IsSlabsOf volatile.supply (words_of device)
  pub lives : AreLivesOf volatile.lives (words_of device)

-- an arena may open a slab of the class at a start
pub record MayOpen (device : PmemState) (volatile : Volatile) (start class : ℕ) : Type 0 where
  pub arena : IsArena device volatile
  pub row : IsVacantRow (bounds_of (words_of device)) (tables_of (words_of device)) start 4
  pub is_class : class < 36

-- a slab of it may take the class
pub record MayTakeClass (device : PmemState) (volatile : Volatile) (start class : ℕ) : Type 0 where
  pub arena : IsArena device volatile
  pub morphable : IsMorphable (tables_of (words_of device)) start class
  pub is_class : class < 36

-- a block was taken out of the supply for a root that names nothing
pub record IsHeldFor (device : PmemState) (volatile : Volatile) (root : ℕ) (block : SmallBlock) : Type 0 where
  pub ready : IsReady device
  pub few : volatile.line < 8
  pub attachable : IsAttachable (words_of device) root block
  pub log : IsBookOf volatile.log (words_of device)
  pub index : IsIndexOf volatile.free (words_of device)
  pub slabs : AreSlabsLess volatile.supply (words_of device) block.start block.number
  pub lives : AreLivesOf volatile.lives (words_of device)

-- a slab of a class is there for a root that names nothing: of the class blocks of this slab alone are open, and one is
pub record IsSlabFor (device : PmemState) (volatile : Volatile) (root start class : ℕ) : Type 0 where
  pub arena : IsUntidy device volatile start
  pub lively : ¬ (IsDoneSlab (tables_of (words_of device)) start)
  pub few : volatile.line < 8
  pub is_class : class < 36
  pub class_is : ((tables_of (words_of device)).header start).class ≡ class
  pub below : root < (bounds_of (words_of device)).roots
  pub none : (tables_of (words_of device)).root root ≡ 0
  pub number : ℕ
  pub is_open : MayBeGiven volatile.supply start number
  pub alone : (s i : ℕ) → class_in volatile.supply.slabs s ≡ Some class → MayBeGiven volatile.supply s i → s ≡ start

-- A slab has the class now, whatever was there before, and may be without a block: no root's block came or went, and there
-- is room for one to come.
pub record HasClassNow (old new : PmemState) (was left : Volatile) (start class : ℕ) (events : List Event) : Type 0 where
  pub step : IsQuietStep old new events (IsEitherHeap (words_of old) (words_of new))
  pub arena : IsUntidy new left start
  pub lively : ¬ (IsDoneSlab (tables_of (words_of new)) start)
  pub class_is : ((tables_of (words_of new)).header start).class ≡ class
  pub slabs : (s : ℕ) → Heap.slabs (tables_of (words_of new)) s ≡ with_key (Heap.slabs (tables_of (words_of old))) start (Some class) s
  pub heap : HaveSameHeap (words_of old) (words_of new)
  pub roots : (root : ℕ) → (tables_of (words_of new)).root root ≡ (tables_of (words_of old)).root root
  pub keeps : KeepsBlocks (words_of old) (words_of new)
  pub header : word_at (words_of new) fields_word ≡ word_at (words_of old) fields_word
  pub line : left.line ≡ was.line
  pub room : HasRoom new 11

-- a block went from its root, and its slab may be without a block, or done
pub record IsTaken (old new : PmemState) (was left : Volatile) (root start : ℕ) (events : List Event) : Type 0 where
  pub step : IsQuietStep old new events (IsEitherHeap (words_of old) (words_of new))
  pub untidy : IsUntidy new left start
  pub last : IsLastOf (tables_of (words_of old)) root start (holds_none (tables_of (words_of new)) start)
  pub gives : GivesRoot (words_of old) root None (Heap.slabs (tables_of (words_of old))) (words_of new)
  pub line : left.line ≡ (was.line + 1) % 8
  pub few : length new.events ≤ 11

-- A slab was dropped, where it held no block, or its transition ended, where its last old block was gone: the image is
-- exact.
pub record IsTidied (old new : PmemState) (left : Volatile) (start : ℕ) : Type 0 where
  pub step : IsQuietStep old new (tidy_events (words_of old) start) (IsEitherHeap (words_of old) (words_of new))
  pub current : IsCurrent new left
  pub slabs : IsSlabsOf left.supply (words_of new)
  pub lives : AreLivesOf left.lives (words_of new)
  pub header : word_at (words_of new) fields_word ≡ word_at (words_of old) fields_word
  pub heap : HaveSameHeap (words_of old) (words_of new)
  pub slab : (other : ℕ) → Heap.slabs (tables_of (words_of new)) other ≡ slabs_but (Heap.slabs (tables_of (words_of old))) start (holds_none (tables_of (words_of old)) start) other
  pub keeps : KeepsBlocks (words_of old) (words_of new)

-- a call of a seat was answered
pub record IsCalled (old new : PmemState) (was left : Volatile) (seat : ℕ) (call : Call) (reply : Reply) : Type 0 where
  pub carried : IsQuietStep old new (call_events (words_of old) was.line call reply) (IsEitherHeap (words_of old) (words_of new))
  pub arena : IsArena new left
  pub line_is : left.line ≡ line_after was.line reply
  pub step : IsStepOf seat (words_of old) (stacks_of was.supply.stacks) (words_of new) (stacks_of left.supply.stacks) call reply
  pub keeps : KeepsBlocks (words_of old) (words_of new)
