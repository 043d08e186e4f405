-- What `migrate` means.
use Rattle.std.specs.Prelude.{◌≡◌, ◌≤◌, ◌⊎◌, ℕ, List, true}
use Rattle.pool_layout.specs.declared.defect.Defect.{Defect}
use Rattle.pool_layout.specs.Image.{IsImageOf, IsImageDefect}
use Rattle.image_runs.specs.Checks.{HasUnsoundFrom}
use Rattle.image_runs.specs.Migrations.{IsPoolMigrated}
use Rattle.nvheap.specs.declared.cause.Cause.{Cause}
use Rattle.nvheap.specs.declared.cause.Cause.TheVariants.{Image, Version}
use Rattle.program_io.specs.declared.input.Kind.TheVariants as kinds
use Rattle.nvheap.specs.Meaning.{Places, Meaning, of_input}
use Rattle.nvheap.specs.Checking.{HasSoundArenas}

-- The input is the image of a pool of version 1, and the output has the bytes of a migration of each of its arenas, in order;
-- the places stay.
pub record AnswersMigrate (input output : List ℕ) (old new : Places) : Type 0 where
  pub words : List ℕ
  pub image : IsImageOf input words
  pub migrated : IsPoolMigrated words image.header output
  pub stays : new ≡ old

-- the bytes are the image of a pool of this version, which is later than the first
pub record HasLaterVersion (input : List ℕ) (version : ℕ) : Type 0 where
  pub words : List ℕ
  pub image : IsImageOf input words
  pub is : version ≡ image.header.version
  pub later : 2 ≤ version

-- the bytes are the image of a pool of version 1 of which some arena is not sound
pub record HasUnsoundFirst (input : List ℕ) (arena : ℕ) (defect : Defect) : Type 0 where
  pub words : List ℕ
  pub image : IsImageOf input words
  pub first : image.header.version ≡ 1
  pub unsound : HasUnsoundFrom words image.header 0 arena defect

-- why the bytes are refused: they are the image of no pool; or else of one of version 2; or of one of version 1, and this is
-- the first defect of the lowest arena that is not sound
abbrev pub RefusesMigrate : List ℕ → Cause → Type 0
RefusesMigrate input (Image arena defect) = IsImageDefect input arena defect ⊎ HasUnsoundFirst input arena defect
RefusesMigrate input (Version version) = HasLaterVersion input version
RefusesMigrate input cause = ⊥

-- the bytes are the image of a pool of version 1 of which every arena is sound
pub record HasSoundFirst (input : List ℕ) : Type 0 where
  pub arenas : HasSoundArenas input
  pub first : arenas.image.header.version ≡ 1

abbrev pub migrating : Meaning
migrating = record (of_input kinds.Image AnswersMigrate RefusesMigrate HasSoundFirst) { idle = true }
