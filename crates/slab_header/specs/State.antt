-- The state word of a slab, and what it says. Its form is stated with the tables of an image.
use Rattle.std.specs.Prelude.{◌≡◌, ◌==◌, ℕ, ◌+◌, ◌*◌, ◌/◌, ◌%◌, ◌^◌, Option, Some, None, if◌then◌else◌}
use Rattle.image_tables.specs.Forms.{normal_kind, morphing_kind, morphed_kind, IsState, IsStateWord}
use Rattle.slab_header.specs.declared.state.SlabState.{SlabState}
use Rattle.slab_header.specs.declared.state.SlabState.TheVariants.{Normal, Morphing, Morphed}

-- the number of the kind of state
abbrev pub kind_of : SlabState → ℕ
kind_of (Normal class) = normal_kind
kind_of (Morphing class old entries) = morphing_kind
kind_of (Morphed class old entries) = morphed_kind

-- the slab's class
abbrev pub class_of : SlabState → ℕ
class_of (Normal class) = class
class_of (Morphing class old entries) = class
class_of (Morphed class old entries) = class

-- the class that it had before, where there is one
abbrev pub old_of : SlabState → ℕ
old_of (Normal class) = 0
old_of (Morphing class old entries) = old
old_of (Morphed class old entries) = old

-- how many entries of its index table are read
abbrev pub entries_of : SlabState → ℕ
entries_of (Normal class) = 0
entries_of (Morphing class old entries) = entries
entries_of (Morphed class old entries) = entries

-- the word of a state
abbrev pub word_of_state : SlabState → ℕ
word_of_state (Normal class) = normal_kind + 2 ^ 8 * class
word_of_state (Morphing class old entries) = morphing_kind + 2 ^ 8 * class + 2 ^ 16 * old + 2 ^ 24 * entries
word_of_state (Morphed class old entries) = morphed_kind + 2 ^ 8 * class + 2 ^ 16 * old + 2 ^ 24 * entries

-- the numbers of a state are in range, and its two classes differ
abbrev pub IsValidState : SlabState → Type 0
IsValidState state = IsState (kind_of state) (class_of state) (old_of state) (entries_of state)

-- the word is that of a valid state
pub record IsWordOfState (value : ℕ) (state : SlabState) : Type 0 where
  pub word : value ≡ word_of_state state
  pub valid : IsValidState state

-- the word has not the form of a state word
abbrev pub IsNoStateWord : ℕ → Type 0
IsNoStateWord value = ¬ (IsStateWord value)

-- what the fields of a word say, whatever the rest of the word is
abbrev pub read_state : ℕ → Option SlabState
read_state word =
    if word % 2 ^ 8 == 1 then Some (Normal (word / 2 ^ 8 % 2 ^ 8))
    else (if word % 2 ^ 8 == 2 then Some (Morphing (word / 2 ^ 8 % 2 ^ 8) (word / 2 ^ 16 % 2 ^ 8) (word / 2 ^ 24 % 2 ^ 8))
    else (if word % 2 ^ 8 == 3 then Some (Morphed (word / 2 ^ 8 % 2 ^ 8) (word / 2 ^ 16 % 2 ^ 8) (word / 2 ^ 24 % 2 ^ 8)) else None))

-- the word has the form of a state word, and its fields, as the tables of an image read them, say what the state is
pub record SaysOfState (word : ℕ) (state : SlabState) : Type 0 where
  pub form : IsStateWord word
  pub kind : word / 2 ^ 0 % 2 ^ 8 ≡ kind_of state
  pub class : word / 2 ^ 8 % 2 ^ 8 ≡ class_of state
  pub old : word / 2 ^ 16 % 2 ^ 8 ≡ old_of state
  pub entries : word / 2 ^ 24 % 2 ^ 8 ≡ entries_of state
