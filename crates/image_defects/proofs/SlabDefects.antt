-- Headers of slabs: an image without a defect of them has none, and it has one first at most.
use Rattle.std.proofs.Common.{◌≡◌, ◌≢◌, ℕ, ◌<◌, ◌≤◌, true, List, sym, ap, subst, ◌∙◌, arith, ⊎_elim}
use Rattle.std.proofs.lemmas.Bool.{cases_eq, cases_lt}
use Rattle.pmem_lines.specs.Words.{word_at}
use Rattle.pool_layout.specs.declared.defect.Defect.{Defect}
use Rattle.pool_layout.specs.declared.defect.Defect.TheVariants.{BadSlab}
use Rattle.image_tables.specs.Forms.{IsStateWord}
use Rattle.image_tables.specs.Tables.{is_slab, state_word, index_word, tables_of}
use Rattle.heap_check.proofs.StateWords.{IsStateWord-valid}
use Rattle.image_tables.proofs.Tables.{slab_fields}
use Rattle.image_defects.specs.Headers.{IsGoodSlab, AreGoodSlabs, IsBadPlace, IsBadWord, IsSlabDefect}
use Rattle.image_defects.proofs.LeastNumbers.{least_once}

-- the state word of a good slab is one
pub has_state : (words : List ℕ) (start : ℕ) → is_slab words start ≡ true → IsGoodSlab words start → IsStateWord (word_at words (state_word start))
has_state words start slab good = IsStateWord-valid words start slab good.header.state good.slab

pub place_bad : (words : List ℕ) (start place : ℕ) → IsBadPlace words start place → ¬ (IsGoodSlab words start)
place_bad words start place bad good =
    let t = tables_of words in
    ⊎_elim
    (λ form. form (good.header.index place (subst (λ n. place < n) (slab_fields words start).index_count bad.below)))
    (λ rest. ⊎_elim
    (λ past. omega (arith, past, good.slab.small place bad.below))
    (λ twice. omega (arith, twice.1, good.slab.once twice.0 place (omega (arith, twice.1, bad.below)) bad.below twice.2))
    rest)
    bad.bad

pub word_bad : (words : List ℕ) (start value : ℕ) → is_slab words start ≡ true → IsBadWord words start value → ¬ (IsGoodSlab words start)
word_bad words start value slab bad good = ⊎_elim
    (λ state. state.0 (has_state words start slab good))
    (λ place. place_bad words start place.1.place place.1.first.here good)
    bad

pub slab_bad : (words : List ℕ) (d : Defect) → IsSlabDefect words d → ¬ (AreGoodSlabs words)
slab_bad words d is good = let f = is.first in word_bad words is.found.start is.found.value f.slab f.bad (good is.found.start f.slab)

word_once : (words : List ℕ) (start a b : ℕ) → IsBadWord words start a → IsBadWord words start b → a ≡ b
word_once words start a b is also = ⊎_elim
    (λ state. ⊎_elim (λ other. state.1 ∙ sym other.1) (λ place. absurd (state.0 place.0)) also)
    (λ place. ⊎_elim (λ state. absurd (state.0 place.0))
    (λ other. place.1.is ∙ ap (λ p. word_at words (index_word start p)) (least_once (IsBadPlace words start) place.1.place other.1.place place.1.first other.1.first) ∙ sym other.1.is)
    also)
    is

pub slab_once : (words : List ℕ) (d e : Defect) → IsSlabDefect words d → IsSlabDefect words e → d ≡ e
slab_once words d e is also =
    let f = is.first in
    let g = also.first in
    let s = is.found.start in
    let r = also.found.start in
    ⊎_elim
    (λ (less : s < r). absurd (word_bad words s is.found.value f.slab f.bad (g.before s less f.slab)))
    (λ (most : r ≤ s). ⊎_elim
    (λ (same : r ≡ s).
    let value : is.found.value ≡ also.found.value = word_once words s is.found.value also.found.value f.bad (subst (λ n. IsBadWord words n also.found.value) same g.bad) in
    is.is ∙ ap (λ v. BadSlab s v) value ∙ ap (λ n. BadSlab n also.found.value) (sym same) ∙ sym also.is)
    (λ (other : r ≢ s). absurd (word_bad words r also.found.value g.slab g.bad (f.before r (omega arith) g.slab)))
    (cases_eq r s))
    (cases_lt s r)
