-- For the functions that read the blocks of an arena's roots, and make indexes of them.
use Rattle.std.specs.Prelude.{◌≡◌, ◌⊎◌, ℕ, ◌+◌, ◌<◌, ◌≤◌, List, length, slice_index, Option, Some, None}
use Rattle.std.specs.List.{Contains}
use Rattle.heap_check.specs.Image.{bounds_of}
use Rattle.dict_index.specs.KeyRoots.{IsNew}
use Rattle.attach_dict.specs.declared.heads.Head.{Head}
use Rattle.attach_dict.specs.declared.index.DictIndex.{DictIndex}
use Rattle.attach_dict.specs.declared.reading.Reading.{Reading}
use Rattle.attach_dict.specs.declared.reading.Reading.TheVariants.{Empty, Unfit, Pair}
use Rattle.attach_dict.specs.declared.refusal.OpenFault.{OpenFault}
use Rattle.attach_dict.specs.declared.refusal.OpenFault.TheVariants as faults
use Rattle.attach_dict.specs.Dict.{stage, head_words, most_values, HasSome, HasNone, HasPair, IsPair, IsFit, IsNotDict}
use Rattle.attach_dict.specs.Stages.{Idle}
use Rattle.attach_dict.specs.Roots.{AreNoRoots, HasMoreRoots}
use Rattle.attach_dict.specs.Heads.{AreApart}
use Rattle.attach_dict.specs.View.{AreNumbers, AreFreeRoots, AreIndexes}

-- one root

-- the block of a root is a pair
pub record HoldsPair (words : List ℕ) (root : ℕ) : Type 0 where
  pub key : ℕ
  pub number : ℕ
  pub value : List ℕ
  pub pair : HasPair words root key number value

-- the block of a root is a pair of this key and this number
pub record HoldsHead (words : List ℕ) (h : Head) : Type 0 where
  pub value : List ℕ
  pub pair : HasPair words h.root h.key h.number value

-- the block of a root is no pair
pub record HoldsNoPair (words : List ℕ) (root : ℕ) : Type 0 where
  pub some : HasSome words root
  pub none : (key number : ℕ) (value : List ℕ) → ¬ (HasPair words root key number value)

-- what the block of a root is
abbrev pub IsReadAs : List ℕ → ℕ → Reading → Type 0
IsReadAs words root Empty = HasNone words root
IsReadAs words root Unfit = HoldsNoPair words root
IsReadAs words root (Pair h) = (h.root ≡ root) × HoldsHead words h

-- the words of a block are those of a pair of this key and this number
pub record AreWordsOfPair (block : List ℕ) (h : Head) : Type 0 where
  pub key_is : h.key ≡ slice_index block 0
  pub number_is : h.number ≡ slice_index block 1
  pub few : slice_index block 2 ≤ most_values
  pub wide : head_words + slice_index block 2 ≤ length block

-- they are those of none: fewer than three, or the third is above 509, or more than there are behind it
abbrev pub AreWordsOfNone : List ℕ → Type 0
AreWordsOfNone block = (length block < head_words) ⊎ ((most_values < slice_index block 2) ⊎ (length block < head_words + slice_index block 2))

abbrev pub IsReadOf : List ℕ → ℕ → Reading → Type 0
IsReadOf block root Empty = ⊥
IsReadOf block root Unfit = AreWordsOfNone block
IsReadOf block root (Pair h) = (h.root ≡ root) × AreWordsOfPair block h

-- all roots

-- the heads of the pairs of the roots below an end
pub record AreHeads (words : List ℕ) (end : ℕ) (heads : List Head) : Type 0 where
  pub are : (h : Head) → Contains heads h → (stage < h.root) × HoldsHead words h
  pub below : (h : Head) → Contains heads h → h.root < end
  pub each : (root key number : ℕ) (value : List ℕ) → root < end → IsPair words root key number value → Contains heads (record { key = key; number = number; root = root })

-- the block of each root below an end, but the stage, is a pair, where it has one
abbrev pub ArePairs : List ℕ → ℕ → Type 0
ArePairs words end = (root : ℕ) → stage < root → root < end → HasSome words root → HoldsPair words root

-- the blocks of the roots below an end, but the stage, were read, and are pairs: the row has the head of each, once
pub record IsScanned (words : List ℕ) (end : ℕ) (heads : List Head) (index : DictIndex) : Type 0 where
  pub pairs : ArePairs words end
  pub heads_are : AreHeads words end heads
  pub apart : AreApart heads
  pub numbers : AreNumbers words end index.numbers
  pub free : AreFreeRoots words end index.free
  pub keys : IsNew index.keys (bounds_of words).roots
  pub stale : AreNoRoots index.stale (bounds_of words).roots
  pub wide : length index.block.items ≡ 512

-- by the lowest root whose block is no pair: those below it were read, or all
abbrev pub IsScannedTo : List ℕ → List Head → DictIndex → Option ℕ → Type 0
IsScannedTo words heads index None = IsScanned words (bounds_of words).roots heads index
IsScannedTo words heads index (Some root) = IsScanned words root heads index × (stage < root) × HoldsNoPair words root

-- the stage is stale too where it has a block
abbrev pub IsStageTaken : List ℕ → DictIndex → DictIndex → Type 0
IsStageTaken words old new =
    (HasSome words stage × HasMoreRoots old.stale stage new.stale × (new ≡ record old { stale = new.stale })) ⊎ (HasNone words stage × (new ≡ old))

-- the image is a dictionary, and the indexes are its own
pub record IsIndexed (words : List ℕ) (index : DictIndex) : Type 0 where
  pub indexes : AreIndexes words Idle index
  pub fit : (root : ℕ) → stage < root → HasSome words root → IsFit words root

-- why there are no indexes of an image
abbrev pub IsFaultOf : List ℕ → OpenFault → Type 0
IsFaultOf words (faults.Memory error) = Unit {0}
IsFaultOf words (faults.NotDict root) = IsNotDict words root
