-- The slabs that may take another class. A slab is normal where no live block in it has another size than that of its class.
-- A candidate for a class is a normal slab of another class with so few live blocks that it may take this one, if some block of
-- the class overlaps none of them, and which was not found unfit for the class.
use Rattle.std.specs.Prelude.{◌≡◌, ◌≢◌, ◌⊎◌, ℕ, ◌*◌, ◌<◌, ◌≤◌, false, List, Option, Some, None, slice_index_or}
use Rattle.size_classes.specs.Classes.{class_capacity}
use Rattle.slab_index.specs.declared.candidates.NormalSlab.{NormalSlab}
use Rattle.slab_index.specs.declared.candidates.Candidate.{Candidate}
use Rattle.slab_index.specs.Unfit.{is_unfit}

-- the normal slab that begins at a granule
unfoldable pub normal_in : List (Option NormalSlab) → ℕ → Option NormalSlab
normal_in set start = slice_index_or set start None

-- The slab at a start is normal, has another class than this one, was not found unfit for it, and has so many live blocks: at
-- most 64, and at most a fifth of those that it holds.
pub record IsCandidate (set : List (Option NormalSlab)) (unfit : List ℕ) (class start live : ℕ) : Type 0 where
  pub own : ℕ
  pub slab : normal_in set start ≡ Some (record { class = own; live = live })
  pub differs : class ≢ own
  pub few : live ≤ 64
  pub sparse : 5 * live ≤ class_capacity own
  pub sought : is_unfit unfit class start ≡ false

-- the order of candidates: fewer live blocks first, and the lower start first among equals
abbrev pub IsBefore : (live start other_live other : ℕ) → Type 0
IsBefore live start other_live other = (live < other_live) ⊎ ((live ≡ other_live) × (start < other))

-- there is no candidate for the class
pub record HasNoCandidate (set : List (Option NormalSlab)) (unfit : List ℕ) (class : ℕ) : Type 0 where
  pub none : (start live : ℕ) → ¬ (IsCandidate set unfit class start live)

-- the first candidate for the class
pub record IsFirstCandidate (set : List (Option NormalSlab)) (unfit : List ℕ) (class : ℕ) (found : Candidate) : Type 0 where
  pub is : IsCandidate set unfit class found.start found.live
  pub first : (start live : ℕ) → IsCandidate set unfit class start live → ¬ (IsBefore live start found.live found.start)
