-- A fault of an image, said more widely.
use Rattle.std.proofs.Common.{◌≡◌, ℕ, ◌*◌, List, length, refl, sym, ◌∙◌}
use Rattle.pool_layout.specs.declared.defect.Defect.{Defect as Found}
use Rattle.pool_layout.specs.declared.image.ImageFault.{ImageFault}
use Rattle.pool_layout.specs.declared.image.ImageFault.TheVariants.{Memory, Defect}
use Rattle.pool_layout.specs.declared.header.PoolHeader.{PoolHeader}
use Rattle.pool_layout.specs.Image.{AreWordsOf, IsPoolImage, IsImageOf, IfDefect}
use Rattle.image_defects.specs.Defects.{IsFirstDefect}
use Rattle.recover.specs.declared.fault.RecoverFault.{RecoverFault}
use Rattle.recover.specs.declared.fault.RecoverFault.TheVariants as faults
use Rattle.recover.specs.Faults.{IfDefect as IfRecoverDefect}
use Rattle.image_runs.specs.Checks.{IsOwnDefect}
use Rattle.image_runs.specs.Recoveries.{fault_at}

pub wider : (fault : ImageFault) (P Q : ℕ → Found → Type 0) → ((arena : ℕ) (defect : Found) → P arena defect → Q arena defect) → IfDefect fault P → IfDefect fault Q
wider (Memory error) P Q more is = tt
wider (Defect arena defect) P Q more is = more arena defect is

-- the fault of an arena's recovery is its own defect
pub own_defect : (words : List ℕ) (arena : ℕ) (fault : RecoverFault) → IfRecoverDefect fault (IsFirstDefect words) → IfDefect (fault_at arena fault) (IsOwnDefect words arena)
own_defect words arena (faults.Memory error) is = tt
own_defect words arena (faults.Defect defect) is = record { same = refl; first = is }

-- bytes of which these are the words, and the words of a pool
abbrev pub image_of : (image words : List ℕ) (size : ℕ) (header : PoolHeader) → AreWordsOf words size image → size ≡ 8 * length words → IsPoolImage words header → IsImageOf image words
image_of image words size header are whole pool = record { words_are = are.words_are; whole = sym are.size_is ∙ whole; header = header; pool = pool }
