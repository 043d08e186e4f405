-- What an index keeps beside the set of slabs: which words of blocks are not 0, and which slabs of each class have an
-- available block.
use Rattle.std.specs.Prelude.{◌≡◌, ◌≢◌, ◌==◌, ℕ, ◌+◌, ◌*◌, ◌/◌, ◌%◌, ◌^◌, ◌<◌, ◌≤◌, Bool, true, false, ◌&&◌, nat_lt, List, length, Option, Some, None, slice_index, slice_index_or, if◌then◌else◌}
use Rattle.std.specs.Int.{bit_at}
use Rattle.size_classes.specs.Classes.{class_capacity}
use Rattle.bit_words.specs.Numbers.{has, IsPut, IsLeastIn}
use Rattle.heap_model.specs.Placement.{AreLowest}
use Rattle.slab_index.specs.SlabSet.{SlabSet, class_in, is_available, AreTaken}

-- the slabs that these lists say
abbrev pub set_of : ℕ → List (Option ℕ) → List ℕ → SlabSet
set_of granules classes blocks = record { granules = granules; classes = classes; blocks = blocks }

-- how many blocks a slab has, where there is one
abbrev pub capacity_or_none : Option ℕ → ℕ
capacity_or_none None = 0
capacity_or_none (Some class) = class_capacity class

-- how many blocks the slab at a granule has
abbrev pub capacity_at : List (Option ℕ) → ℕ → ℕ
capacity_at classes start = capacity_or_none (slice_index_or classes start None)

-- it is a slab of this class
abbrev pub is_class : Option ℕ → ℕ → Bool
is_class None class = false
is_class (Some other) class = other == class

-- the slab at number `k mod 4096` has class `k div 4096`, and an available block
abbrev pub has_block : List (Option ℕ) → List ℕ → ℕ → Bool
has_block classes some k = is_class (slice_index_or classes (k % 4096) None) (k / 4096) && nat_lt 0 (slice_index some (k % 4096))

-- of a set of words the numbers of those that are not 0
pub record IsSummary (words some : List ℕ) : Type 0 where
  pub is : (i : ℕ) → has some i ≡ nat_lt 0 (slice_index words i)

-- the least of the 4096 numbers at a place that a set has, counted from the first of them
pub record IsLeastAt (words some : List ℕ) (place number : ℕ) : Type 0 where
  pub word : ℕ
  pub least_word : IsLeastIn some (64 * place) 64 word
  pub least : IsLeastIn words (64 * word) 64 (4096 * place + number)

-- the sets have a place for one word of blocks, and for its slab, of a class
pub record HasPlaceFor (blocks some starts some_starts : List ℕ) (class at : ℕ) : Type 0 where
  pub block : at < length blocks
  pub slab : at / 64 < length some
  pub start : (4096 * class + at / 64) / 64 < length starts
  pub some_start : (4096 * class + at / 64) / 64 / 64 < length some_starts
  pub summary : IsSummary starts some_starts

-- the sets beside the blocks were brought up to one word of these, of a slab of a class
pub record IsSummedUp (blocks some starts some_starts : List ℕ) (class at : ℕ) (some' starts' some_starts' : List ℕ) : Type 0 where
  pub word : IsPut some at (nat_lt 0 (slice_index blocks at)) some'
  pub start : IsPut starts (4096 * class + at / 64) (nat_lt 0 (slice_index some' (at / 64))) starts'
  pub some_size : length some_starts' ≡ length some_starts
  pub summary : IsSummary starts' some_starts'

-- from one word of a set the numbers are taken that a word has
pub record IsTakenFrom (old : List ℕ) (at word : ℕ) (new : List ℕ) : Type 0 where
  pub size : length new ≡ length old
  pub each : (k : ℕ) → has new k ≡ (if k / 64 == at && bit_at word (k % 64) == 1 then false else has old k)
  pub others : (i : ℕ) → i ≢ at → slice_index new i ≡ slice_index old i
  pub fits : ((i : ℕ) → slice_index old i < 2 ^ 64) → (i : ℕ) → slice_index new i < 2 ^ 64

pub record IsIndex (granules : ℕ) (classes : List (Option ℕ)) (blocks some starts some_starts : List ℕ) : Type 0 where
  pub least : 16 ≤ granules
  pub most : granules ≤ 4096
  pub classes_size : length classes ≡ granules
  pub blocks_size : length blocks ≡ 64 * granules
  pub some_size : length some ≡ granules
  pub starts_size : length starts ≡ 2304
  pub some_starts_size : length some_starts ≡ 36
  pub known : (start class : ℕ) → slice_index_or classes start None ≡ Some class → class < 36
  pub fits : (i : ℕ) → slice_index blocks i < 2 ^ 64
  pub few : (start : ℕ) → capacity_at classes start ≤ 4096
  pub below : (k : ℕ) → has blocks k ≡ true → k % 4096 < capacity_at classes (k / 4096)
  pub some_is : (i : ℕ) → has some i ≡ nat_lt 0 (slice_index blocks i)
  pub starts_is : (k : ℕ) → has starts k ≡ has_block classes some k
  pub summary : IsSummary starts some_starts

-- the lowest available block of a slab
pub record IsFirstBlock (set : SlabSet) (start number : ℕ) : Type 0 where
  pub available : is_available set start number ≡ true
  pub first : (lower : ℕ) → lower < number → is_available set start lower ≡ false

-- a slab has no available block
pub record IsUsedUp (set : SlabSet) (start : ℕ) : Type 0 where
  pub none : (number : ℕ) → is_available set start number ≡ false

-- the lowest available block of a slab was taken
pub record TookFirst (old : SlabSet) (start number : ℕ) (new : SlabSet) : Type 0 where
  pub first : IsFirstBlock old start number
  pub granules : new.granules ≡ old.granules
  pub classes : (s : ℕ) → class_in new s ≡ class_in old s
  pub blocks : (s i : ℕ) → is_available new s i ≡ (if s == start && i == number then false else is_available old s i)

-- there was none, and nothing changed
pub record WasUsedUp (old : SlabSet) (start : ℕ) (new : SlabSet) : Type 0 where
  pub none : IsUsedUp old start
  pub same : new ≡ old

-- some lowest available blocks of a slab were taken
pub record TookSome (old : SlabSet) (start most : ℕ) (numbers : List ℕ) (new : SlabSet) : Type 0 where
  pub lowest : AreLowest (λ number. is_available old start number ≡ true) 0 most numbers
  pub taken : AreTaken old start numbers new
