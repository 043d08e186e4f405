-- What a command reads, and how much of it.
use Rattle.std.specs.Prelude.{◌≡◌, ◌+◌, ◌*◌, ◌<◌, ◌≤◌, ◌^◌, ℕ, List, [], length, Option, Some, None}
use Rattle.pool_layout.specs.Layout.{pool_granules}
use Rattle.pool_layout.specs.Image.{AreWordsOf}
use Rattle.program_io.specs.declared.input.Kind.{Kind}
use Rattle.program_io.specs.declared.input.Kind.TheVariants as kinds
use Rattle.program_io.specs.declared.input.Input.{Input}
use Rattle.program_io.specs.declared.input.Input.TheVariants.{Text, Image}
use Rattle.program_io.specs.Streams.{GivesAll, GivesSome}

-- the most bytes that a text may have
unfoldable pub longest_text : ℕ
longest_text = 67108864

-- the most bytes that the image of a pool may have: those of the granules that all arenas of a pool have together at most
unfoldable pub longest_image : ℕ
longest_image = 16384 * pool_granules

-- the most bytes that an input of a kind may have
abbrev pub longest : Kind → ℕ
longest kinds.Text = longest_text
longest kinds.Image = longest_image

-- how much is read at most; where no input is read, there is no such limit
abbrev pub limit_of : Option Kind → Option ℕ
limit_of (Some kind) = Some (longest kind)
limit_of None = None

-- the input, within its limit, is what the source has left
abbrev pub HasLeft : Option ℕ → Option (List ℕ) → List ℕ → Type 0
HasLeft (Some limit) left input = (left ≡ Some input) × (length input ≤ limit)
HasLeft None left input = input ≡ []

-- the input was read: it was all that the source had, within its limit
abbrev pub HasRead : Option ℕ → Option (List ℕ) → Option (List ℕ) → List ℕ → Type 0
HasRead (Some limit) old new input = GivesAll old new input × (length input ≤ limit)
HasRead None old new input = (input ≡ []) × (new ≡ old)

-- of the input no more was read than it may have
abbrev pub HasReadFew : Option ℕ → Option (List ℕ) → Option (List ℕ) → Type 0
HasReadFew (Some limit) old new = GivesSome old new (λ n. n ≤ limit)
HasReadFew None old new = ⊥

-- one byte more than the input may have was read, and no more
abbrev pub HasReadMore : Option ℕ → Option (List ℕ) → Option (List ℕ) → Type 0
HasReadMore (Some limit) old new = GivesSome old new (λ n. n ≡ limit + 1)
HasReadMore None old new = ⊥

-- for the functions below

-- these are its bytes: a text's own, or of an image those of its words
abbrev pub HasBytes : Input → List ℕ → Type 0
HasBytes (Text text) bytes = text.items ≡ bytes
HasBytes (Image words size) bytes = AreWordsOf words.items size bytes

-- it has some, fewer than 2^32
pub record IsInput (input : Input) : Type 0 where
  pub bytes : List ℕ
  pub has : HasBytes input bytes
  pub short : length bytes < 2 ^ 32

-- it is of this kind
abbrev pub IsOfKind : Kind → Input → Type 0
IsOfKind kinds.Text (Text text) = Unit {0}
IsOfKind kinds.Image (Image words size) = Unit {0}
IsOfKind kind input = ⊥

-- it is of the kind that is read
abbrev pub Fits : Option Kind → Input → Type 0
Fits (Some kind) input = IsOfKind kind input
Fits None input = ⊥

-- it was read: its bytes were all that the source had, within the limit
pub record IsRead (limit : Option ℕ) (old new : Option (List ℕ)) (input : Input) : Type 0 where
  pub bytes : List ℕ
  pub has : HasBytes input bytes
  pub read : HasRead limit old new bytes
