-- How many blocks live in each slab, and which slabs may take another class. A slab is normal where no live block in it has another
-- size than that of its class.
use Rattle.std.specs.Prelude.{◌≡◌, ◌≢◌, ℕ, ◌*◌, ◌≤◌, false, List, Option, Some, None, slice_index, slice_index_or}
use Rattle.size_classes.specs.Classes.{class_capacity}
use Rattle.slab_index.specs.declared.candidates.Candidate.{Candidate}
use Rattle.slab_index.specs.Candidates.{IsBefore}
use Rattle.slab_index.specs.Unfit.{is_unfit}

-- for each granule, of the slab that begins there: its number of live blocks, and its class where it is normal; and which slabs
-- were found unfit for which classes
pub record Lives : Type 0 where
  pub counts : List ℕ
  pub normal : List (Option ℕ)
  pub unfit : List ℕ

-- the class of the normal slab that begins at a granule
unfoldable pub normal_at : Lives → ℕ → Option ℕ
normal_at lives start = slice_index_or lives.normal start None

-- The slab at a start may take a class, as far as its live blocks are few: it is normal, has another class, and was not found unfit
-- for this one; so many blocks live in it, at most 64, and at most a fifth of those that it holds.
pub record IsSparse (lives : Lives) (class start live : ℕ) : Type 0 where
  pub own : ℕ
  pub slab : normal_at lives start ≡ Some own
  pub count : live ≡ slice_index lives.counts start
  pub differs : class ≢ own
  pub few : live ≤ 64
  pub sparse : 5 * live ≤ class_capacity own
  pub sought : is_unfit lives.unfit class start ≡ false

-- there is none
pub record HasNoSparse (lives : Lives) (class : ℕ) : Type 0 where
  pub none : (start live : ℕ) → ¬ (IsSparse lives class start live)

-- the one with the fewest live blocks, the lowest start among equals
pub record IsFirstSparse (lives : Lives) (class : ℕ) (found : Candidate) : Type 0 where
  pub is : IsSparse lives class found.start found.live
  pub first : (start live : ℕ) → IsSparse lives class start live → ¬ (IsBefore live start found.live found.start)
