-- Roots, their blocks and loose things: an image without a class of defects has none, and it has one first at most.
use Rattle.std.proofs.Common.{◌≡◌, ℕ, List, sym, ap, subst, ◌∙◌}
use Rattle.pool_layout.specs.declared.defect.Defect.{Defect}
use Rattle.pool_layout.specs.declared.defect.Defect.TheVariants.{StrayRoot, SharedBlock, StrayBit, TooManyLoose}
use Rattle.pool_layout.specs.Header.{granules_in}
use Rattle.image_tables.specs.Tables.{tables_of}
use Rattle.image_defects.specs.Least.{IsLeast}
use Rattle.image_defects.specs.Roots.{IsStrayRoot, AreStanding, IsRootDefect}
use Rattle.image_defects.specs.Blocks.{HasShared, IsSharing, AreUnshared, IsSharedDefect, AreRooted, IsBitDefect}
use Rattle.image_defects.specs.Loose.{IsLooseDefect}
use Rattle.image_defects.proofs.Counts.{not_many, count_once}
use Rattle.image_defects.proofs.LeastNumbers.{least_once}
use Rattle.heap_check.specs.Sound.{AreFewLoose}

-- roots

pub root_bad : (words : List ℕ) (d : Defect) → IsRootDefect words d → ¬ (AreStanding (tables_of words))
root_bad words d is standing = is.first.here.stray (standing is.root is.first.here.some)

pub root_once : (words : List ℕ) (d e : Defect) → IsRootDefect words d → IsRootDefect words e → d ≡ e
root_once words d e is also = is.is ∙ ap (λ r. StrayRoot r ((tables_of words).root r)) (least_once (IsStrayRoot (tables_of words)) is.root also.root is.first also.first) ∙ sym also.is

pub shared_bad : (words : List ℕ) (d : Defect) → IsSharedDefect words d → ¬ (AreUnshared (tables_of words))
shared_bad words d is apart = apart.none is.pair.first is.first.first.here

pub shared_once : (words : List ℕ) (d e : Defect) → IsSharedDefect words d → IsSharedDefect words e → d ≡ e
shared_once words d e is also =
    let t = tables_of words in
    let first : is.pair.first ≡ also.pair.first = least_once (IsSharing t) is.pair.first also.pair.first is.first.first also.first.first in
    let second : is.pair.second ≡ also.pair.second = least_once (HasShared t is.pair.first) is.pair.second also.pair.second is.first.second (subst (λ f. IsLeast (HasShared t f) also.pair.second) (sym first) also.first.second) in
    is.is ∙ ap (λ f. SharedBlock f is.pair.second) first ∙ ap (λ s. SharedBlock also.pair.first s) second ∙ sym also.is

-- blocks

pub bit_bad : (words : List ℕ) (d : Defect) → IsBitDefect words d → ¬ (AreRooted (tables_of words))
bit_bad words d is rooted = let s = is.first.here in s.stray.none (rooted s.start (record { at = is.at; size = s.stray.size }) s.stray.holds)

pub bit_once : (words : List ℕ) (d e : Defect) → IsBitDefect words d → IsBitDefect words e → d ≡ e
bit_once words d e is also = is.is ∙ ap (λ a. StrayBit a) (least_once _ is.at also.at is.first also.first) ∙ sym also.is

-- loose things

pub loose_bad : (words : List ℕ) (d : Defect) → IsLooseDefect words d → ¬ (AreFewLoose (tables_of words))
loose_bad words d is few = not_many (tables_of words) (granules_in words) is.loose is.are few is.many

pub loose_once : (words : List ℕ) (d e : Defect) → IsLooseDefect words d → IsLooseDefect words e → d ≡ e
loose_once words d e is also =
    let n = granules_in words in
    let a = count_once _ n is.loose.large also.loose.large is.are.large also.are.large in
    let b = count_once _ n is.loose.empty also.loose.empty is.are.empty also.are.empty in
    let c = count_once _ n is.loose.morphing also.loose.morphing is.are.morphing also.are.morphing in
    let f = count_once _ n is.loose.done also.loose.done is.are.done also.are.done in
    is.is
    ∙ ap (λ x. TooManyLoose x is.loose.empty is.loose.morphing is.loose.done) a
    ∙ ap (λ x. TooManyLoose also.loose.large x is.loose.morphing is.loose.done) b
    ∙ ap (λ x. TooManyLoose also.loose.large also.loose.empty x is.loose.done) c
    ∙ ap (λ x. TooManyLoose also.loose.large also.loose.empty also.loose.morphing x) f
    ∙ sym also.is
