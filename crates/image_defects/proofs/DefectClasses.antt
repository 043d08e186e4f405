-- Classes of defects, one before the others: what is one at most of each, and none of what an image has none of, is so of all. The
-- classes that both variants have are here.
use Rattle.std.proofs.Common.{◌≡◌, ℕ, List, sym, ◌∙◌, ⊎_elim}
use Rattle.pool_layout.specs.declared.header.PoolVariant.{PoolVariant}
use Rattle.pool_layout.specs.declared.defect.Defect.{Defect}
use Rattle.pool_layout.specs.Header.{IsHeaderLine, IsLineDefect}
use Rattle.image_tables.specs.Tables.{tables_of}
use Rattle.heap_check.specs.Image.{header_in}
use Rattle.image_defects.specs.Log.{HasDirectory, IsDirectoryDefect, HasEntries, IsEntryDefect, AreDisjoint, IsOverlapDefect}
use Rattle.image_defects.specs.Defects.{Before, HasLength, IsLengthDefect}
use Rattle.image_defects.proofs.LogDefects as logs

-- A class of defects: an image without it has no defect of it, and it has one first at most.
pub record IsClass (Is : Defect → Type 0) (None : Type 0) : Type 0 where
  pub bad : (d : Defect) → Is d → ¬ None
  pub once : (d e : Defect) → Is d → Is e → d ≡ e

-- what comes at or behind a class is one defect
pub one_from : {Is After : Defect → Type 0} {None : Type 0} → IsClass Is None → ((d e : Defect) → After d → After e → d ≡ e) → (d e : Defect) → Before Is None After d → Before Is None After e → d ≡ e
one_from class rest d e x y = ⊎_elim
    (λ is. ⊎_elim (λ also. class.once d e is also) (λ after. absurd (class.bad d is after.0)) y)
    (λ after. ⊎_elim (λ also. absurd (class.bad e also after.0)) (λ other. rest d e after.1 other.1) y)
    x

-- an image without the class and all behind it has no defect from there on
pub none_from : {Is After : Defect → Type 0} {None : Type 0} → IsClass Is None → None → ((d : Defect) → ¬ (After d)) → (d : Defect) → ¬ (Before Is None After d)
none_from class none rest d x = ⊎_elim (λ is. class.bad d is none) (λ after. rest d after.1) x

-- the classes of both variants

pub header : (variant : PoolVariant) (words : List ℕ) → IsClass (IsLineDefect variant words) (IsHeaderLine variant words (header_in words))
header variant words = record { bad = logs.header_bad variant words; once = logs.header_once variant words }

pub size : (words : List ℕ) → IsClass (IsLengthDefect words) (HasLength words)
size words = record { bad = λ d is. is.other; once = λ d e is also. is.is ∙ sym also.is }

pub directory : (words : List ℕ) → IsClass (IsDirectoryDefect words) (HasDirectory words)
directory words = record { bad = logs.directory_bad words; once = logs.directory_once words }

pub entries : (words : List ℕ) → IsClass (IsEntryDefect words) (HasEntries words)
entries words = record { bad = logs.entry_bad words; once = logs.entry_once words }

pub extents : (words : List ℕ) → IsClass (IsOverlapDefect words) (AreDisjoint (tables_of words))
extents words = record { bad = logs.overlap_bad words; once = logs.overlap_once words }
