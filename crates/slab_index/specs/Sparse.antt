-- What candidates keep beside the list of normal slabs: sets of starts, 4096 numbers for each class, and as many for each number
-- of live blocks that a slab may have which takes another class. And the steps of a search in them.
use Rattle.std.specs.Prelude.{◌≡◌, ◌==◌, ℕ, ◌+◌, ◌*◌, ◌/◌, ◌%◌, ◌<◌, ◌≤◌, Bool, true, false, ◌&&◌, nat_le, List, length, Option, Some, None, slice_index_or, if◌then◌else◌}
use Rattle.size_classes.specs.Classes.{class_capacity}
use Rattle.bit_words.specs.Numbers.{has}
use Rattle.slab_index.specs.declared.candidates.NormalSlab.{NormalSlab}
use Rattle.slab_index.specs.Kept.{IsSummary}

-- so few blocks live in the slab that it may take another class
abbrev pub is_sparse : NormalSlab → Bool
is_sparse slab = nat_le slab.live 64 && nat_le (5 * slab.live) (class_capacity slab.class)

-- it is a slab with so many live blocks, and they are so few
abbrev pub has_live : Option NormalSlab → ℕ → Bool
has_live None live = false
has_live (Some slab) live = live == slab.live && is_sparse slab

-- it is a slab of the class
abbrev pub has_class : Option NormalSlab → ℕ → Bool
has_class None class = false
has_class (Some slab) class = class == slab.class

-- the set of starts has a place for each number of live blocks, and it is known which of its words are not 0
pub record HasRows (starts some : List ℕ) : Type 0 where
  pub size : length starts ≡ 4160
  pub some_size : length some ≡ 65
  pub summary : IsSummary starts some

-- the sets are those of these normal slabs
pub record AreKept (normal : List (Option NormalSlab)) (starts some classes : List ℕ) : Type 0 where
  pub few : length normal ≤ 4096
  pub rows : HasRows starts some
  pub classes_size : length classes ≡ 2304
  pub known : (start : ℕ) (slab : NormalSlab) → slice_index_or normal start None ≡ Some slab → slab.class < 36
  pub starts_are : (k : ℕ) → has starts k ≡ has_live (slice_index_or normal (k % 4096) None) (k / 4096)
  pub classes_are : (k : ℕ) → has classes k ≡ has_class (slice_index_or normal (k % 4096) None) (k / 4096)

-- the set has a slab's start, or has it not, where so few blocks live in it
pub record IsMarked (old : List ℕ) (start : ℕ) (slab : NormalSlab) (on : Bool) (new : List ℕ) : Type 0 where
  pub size : length new ≡ length old
  pub each : (k : ℕ) → has new k ≡ (if k == 4096 * slab.live + start && is_sparse slab then on else has old k)

-- the set lost a slab's start, and got that of another
pub record IsMarkedAnew (old : List ℕ) (start : ℕ) (was slab : NormalSlab) (new : List ℕ) : Type 0 where
  pub mid : List ℕ
  pub out : IsMarked old start was false mid
  pub back : IsMarked mid start slab true new

-- a slab with so many live blocks begins at the start, has another class than this one, and was not found unfit for it
pub record IsOther (starts classes unfit : List ℕ) (class live start : ℕ) : Type 0 where
  pub is : has starts (4096 * live + start) ≡ true
  pub other : has classes (4096 * class + start) ≡ false
  pub sought : has unfit (4096 * class + start) ≡ false

-- among the 64 granules of a word none does
pub record HasNoneInWord (starts classes unfit : List ℕ) (class live at : ℕ) : Type 0 where
  pub none : (s : ℕ) → s / 64 ≡ at → ¬ (IsOther starts classes unfit class live s)

-- the first of them
pub record IsFirstInWord (starts classes unfit : List ℕ) (class live at start : ℕ) : Type 0 where
  pub place : start / 64 ≡ at
  pub is : IsOther starts classes unfit class live start
  pub first : (s : ℕ) → s / 64 ≡ at → s < start → ¬ (IsOther starts classes unfit class live s)

-- none does at any granule
pub record HasNoneInRow (starts classes unfit : List ℕ) (class live : ℕ) : Type 0 where
  pub none : (s : ℕ) → s < 4096 → ¬ (IsOther starts classes unfit class live s)

-- the first that does
pub record IsFirstInRow (starts classes unfit : List ℕ) (class live start : ℕ) : Type 0 where
  pub inside : start < 4096
  pub is : IsOther starts classes unfit class live start
  pub first : (s : ℕ) → s < start → ¬ (IsOther starts classes unfit class live s)
