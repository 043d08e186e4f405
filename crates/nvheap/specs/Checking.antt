-- What `check` means.
use Rattle.std.specs.Prelude.{◌≡◌, ℕ, ◌<◌, List, true}
use Rattle.pool_layout.specs.Image.{part_of, IsImageOf}
use Rattle.heap_check.specs.Image.{IsSoundImage}
use Rattle.image_runs.specs.Checks.{IsChecked, IsPoolDefect}
use Rattle.nvheap.specs.declared.cause.Cause.{Cause}
use Rattle.nvheap.specs.declared.cause.Cause.TheVariants.{Image}
use Rattle.program_io.specs.declared.input.Kind.TheVariants as kinds
use Rattle.nvheap.specs.Meaning.{Places, Meaning, of_input}

-- The output has the line of each arena of the image, and the places stay.
abbrev pub AnswersCheck : List ℕ → List ℕ → Places → Places → Type 0
AnswersCheck input output old new = IsChecked input output × (new ≡ old)

-- the bytes are the image of a pool of which every arena is sound
pub record HasSoundArenas (input : List ℕ) : Type 0 where
  pub words : List ℕ
  pub image : IsImageOf input words
  pub sound : (arena : ℕ) → arena < image.header.arenas → IsSoundImage (part_of words image.header.granules arena)

-- why an image is refused: the first defect
abbrev pub RefusesImage : List ℕ → Cause → Type 0
RefusesImage input (Image arena defect) = IsPoolDefect input arena defect
RefusesImage input cause = ⊥

abbrev pub checking : Meaning
checking = record (of_input kinds.Image AnswersCheck RefusesImage HasSoundArenas) { idle = true }
