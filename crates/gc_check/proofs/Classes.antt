-- The classes of defects that are this variant's own: an image without a class of defects has none, and it has one first at most.
use Rattle.std.proofs.Common.{◌≡◌, ℕ, List, sym, ap, subst, ◌∙◌, ⊎_elim}
use Rattle.pmem_lines.specs.Words.{word_at}
use Rattle.pool_layout.specs.declared.defect.Defect.{Defect}
use Rattle.pool_layout.specs.declared.defect.Defect.TheVariants.{BadSlab, StrayRoot, SharedBlock, TooManyLoose}
use Rattle.pool_layout.specs.Header.{granules_in}
use Rattle.image_tables.specs.Tables.{state_word}
use Rattle.heap_check.specs.Sound.{IsLooseLarge, IsEmptySlab}
use Rattle.image_defects.specs.Least.{IsLeast}
use Rattle.image_defects.proofs.LeastNumbers.{least_once}
use Rattle.image_defects.proofs.Counts.{not_two, count_once}
use Rattle.gc_check.specs.Heap.{gc_tables}
use Rattle.gc_check.specs.Sound.{AreFewGcLoose}
use Rattle.gc_check.specs.Image.{AreNormalSlabs}
use Rattle.gc_check.specs.Defects.{IsBadSlab, IsGcSlabDefect, IsGcStrayRoot, AreGcStanding, IsGcRootDefect, HasGcShared, IsGcSharing, AreGcUnshared, IsGcSharedDefect, IsGcLooseDefect}

-- slabs

pub slab_bad : (words : List ℕ) (d : Defect) → IsGcSlabDefect words d → ¬ (AreNormalSlabs words)
slab_bad words d is normal = is.first.here.bad (normal is.start is.first.here.slab)

pub slab_once : (words : List ℕ) (d e : Defect) → IsGcSlabDefect words d → IsGcSlabDefect words e → d ≡ e
slab_once words d e is also = is.is ∙ ap (λ s. BadSlab s (word_at words (state_word s))) (least_once (IsBadSlab words) is.start also.start is.first also.first) ∙ sym also.is

-- roots

pub root_bad : (words : List ℕ) (d : Defect) → IsGcRootDefect words d → ¬ (AreGcStanding (gc_tables words))
root_bad words d is standing = is.first.here.stray (standing is.root is.first.here.some)

pub root_once : (words : List ℕ) (d e : Defect) → IsGcRootDefect words d → IsGcRootDefect words e → d ≡ e
root_once words d e is also = is.is ∙ ap (λ r. StrayRoot r ((gc_tables words).word r)) (least_once (IsGcStrayRoot (gc_tables words)) is.root also.root is.first also.first) ∙ sym also.is

-- shared blocks

pub shared_bad : (words : List ℕ) (d : Defect) → IsGcSharedDefect words d → ¬ (AreGcUnshared (gc_tables words))
shared_bad words d is apart = apart.none is.pair.first is.first.here

pub shared_once : (words : List ℕ) (d e : Defect) → IsGcSharedDefect words d → IsGcSharedDefect words e → d ≡ e
shared_once words d e is also =
    let t = gc_tables words in
    let first : is.pair.first ≡ also.pair.first = least_once (IsGcSharing t) is.pair.first also.pair.first is.first also.first in
    let second : is.pair.second ≡ also.pair.second = least_once (HasGcShared t is.pair.first) is.pair.second also.pair.second is.second (subst (λ f. IsLeast (HasGcShared t f) also.pair.second) (sym first) also.second) in
    is.is ∙ ap (λ f. SharedBlock f is.pair.second) first ∙ ap (λ s. SharedBlock also.pair.first s) second ∙ sym also.is

-- loose things

pub loose_bad : (words : List ℕ) (d : Defect) → IsGcLooseDefect words d → ¬ (AreFewGcLoose (gc_tables words))
loose_bad words d is few = ⊎_elim
    (λ large. not_two (IsLooseLarge (gc_tables words)) (granules_in words) is.large is.larges large few.large)
    (λ empty. not_two (IsEmptySlab (gc_tables words)) (granules_in words) is.empty is.empties empty few.empty)
    is.many

pub loose_once : (words : List ℕ) (d e : Defect) → IsGcLooseDefect words d → IsGcLooseDefect words e → d ≡ e
loose_once words d e is also =
    let large = count_once _ (granules_in words) is.large also.large is.larges also.larges in
    let empty = count_once _ (granules_in words) is.empty also.empty is.empties also.empties in
    is.is ∙ ap (λ n. TooManyLoose n is.empty 0 0) large ∙ ap (λ n. TooManyLoose also.large n 0 0) empty ∙ sym also.is
