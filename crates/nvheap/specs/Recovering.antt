-- What `recover` means.
use Rattle.std.specs.Prelude.{◌≡◌, ℕ, zero, suc, ◌+◌, List, true}
use Rattle.pmem_lines.specs.Pmem.{PmemState, risen}
use Rattle.pool_layout.specs.Image.{part_of, IsImageOf}
use Rattle.heap_check.specs.Image.{IsSoundImage}
use Rattle.recover.specs.Recovered.{IsRecoveredDevice}
use Rattle.image_runs.specs.Recoveries.{heaps_from}
use Rattle.program_io.specs.declared.input.Kind.TheVariants as kinds
use Rattle.nvheap.specs.Outside.{put_device}
use Rattle.nvheap.specs.Meaning.{Places, Meaning, of_input}
use Rattle.nvheap.specs.Checking.{HasSoundArenas, RefusesImage}

-- Of n arenas of a pool from one on each is sound, and its place on the shelf has a recovered device of its words; the other
-- places stay.
abbrev pub HasRecovered : List ℕ → ℕ → ℕ → ℕ → Places → Places → Type 0
HasRecovered words granules arena zero old new = new ≡ old
HasRecovered words granules arena (suc n) old new =
    (device : PmemState) × (rest : Places) × IsSoundImage (part_of words granules arena) × IsRecoveredDevice (part_of words granules arena) device
    × HasRecovered words granules (arena + 1) n old rest × (new ≡ put_device rest arena device)

-- The input is the image of a pool of sound arenas, and the output has the heap of each; the place of each arena's number has
-- a recovered device of its words, and the other places stay.
pub record AnswersRecover (input output : List ℕ) (old new : Places) : Type 0 where
  pub words : List ℕ
  pub image : IsImageOf input words
  pub is : output ≡ heaps_from words image.header.granules 0 image.header.arenas
  pub shelf : HasRecovered words image.header.granules 0 image.header.arenas old new

-- one device is made of an image for each arena
abbrev pub MakesAll : List ℕ → ℕ → ℕ → Type 0
MakesAll input old new = (words : List ℕ) × (image : IsImageOf input words) × (new ≡ risen old image.header.arenas)

abbrev pub recovering : Meaning
recovering = record (of_input kinds.Image AnswersRecover RefusesImage HasSoundArenas) { recovers = true; images = MakesAll }
