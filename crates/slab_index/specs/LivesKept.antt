-- What counts and normal slabs keep of each other.
use Rattle.std.specs.Prelude.{◌≡◌, ◌≢◌, ◌≤◌, ℕ, List, length, map, Option, Some, None, slice_index}
use Rattle.slab_index.specs.declared.candidates.NormalSlab.{NormalSlab}
use Rattle.slab_index.specs.Candidates.{normal_in}
use Rattle.slab_index.specs.Lives.{Lives}

-- the class of a normal slab
abbrev pub class_if : Option NormalSlab → Option ℕ
class_if None = None
class_if (Some slab) = Some slab.class

-- what counts, normal slabs and unfit ones mean
abbrev pub lives_of : List ℕ → List (Option NormalSlab) → List ℕ → Lives
lives_of counts normal unfit = record { counts = counts; normal = map class_if normal; unfit = unfit }

-- there are at most 4096 granules, and each normal slab has as many live blocks as are counted
pub record IsKept (counts : List ℕ) (normal : List (Option NormalSlab)) : Type 0 where
  pub few : length counts ≤ 4096
  pub size : length normal ≡ length counts
  pub agree : (start : ℕ) (slab : NormalSlab) → normal_in normal start ≡ Some slab → slab.live ≡ slice_index counts start

-- the normal slab at a start has so many live blocks, if one is there, and all else is as before
pub record IsRecounted (old : List (Option NormalSlab)) (start live : ℕ) (new : List (Option NormalSlab)) : Type 0 where
  pub size : length new ≡ length old
  pub here : (slab : NormalSlab) → normal_in new start ≡ Some slab → slab.live ≡ live
  pub classes : (s : ℕ) → class_if (normal_in new s) ≡ class_if (normal_in old s)
  pub others : (s : ℕ) → s ≢ start → normal_in new s ≡ normal_in old s
