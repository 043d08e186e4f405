-- Which slab takes another class, by the indexes: the first of those with few live blocks of which a block of the class is clear.
use Rattle.std.specs.Prelude.{◌≡◌, ◌⊎◌, ℕ, ◌<◌, true}
use Rattle.size_classes.specs.Classes.{class_capacity}
use Rattle.heap_model.specs.Machine.{slab_block}
use Rattle.slab_index.specs.Candidates.{IsBefore}
use Rattle.slab_index.specs.Unfit.{is_unfit}
use Rattle.slab_index.specs.Lives.{Lives, IsSparse}
use Rattle.unit_map.specs.Units.{Units}
use Rattle.unit_map.specs.Blocks.{IsClearRange}

-- a block of the class in the slab at a start is clear
pub record HasClearBlock (units : Units) (class start : ℕ) : Type 0 where
  pub number : ℕ
  pub within : number < class_capacity class
  pub clear : IsClearRange units (slab_block start class number)

-- no slab that is sparse has a clear block of the class
pub record HasNoReady (lives : Lives) (units : Units) (class : ℕ) : Type 0 where
  pub none : (start live : ℕ) → IsSparse lives class start live → ¬ (HasClearBlock units class start)

-- of those that have one it is the first: the one with the fewest live blocks, the lowest start among equals
pub record IsFirstReady (lives : Lives) (units : Units) (class start : ℕ) : Type 0 where
  pub live : ℕ
  pub is : IsSparse lives class start live
  pub clear : HasClearBlock units class start
  pub first : (other more : ℕ) → IsSparse lives class other more → HasClearBlock units class other → ¬ (IsBefore more other live start)

-- besides those that were, some slabs are noted as unfit for the class, each without a clear block of it; all else is as before
pub record AreNotedBesides (old : Lives) (units : Units) (class : ℕ) (new : Lives) : Type 0 where
  pub same : new ≡ record old { unfit = new.unfit }
  pub each : (c s : ℕ) → is_unfit new.unfit c s ≡ true → (is_unfit old.unfit c s ≡ true) ⊎ ((c ≡ class) × ¬ (HasClearBlock units class s))
