-- The header line, the log and its extents: an image without a class of defects has none, and it has one first at most.
use Rattle.std.proofs.Common.{◌≡◌, ◌≢◌, ℕ, ◌<◌, ◌≤◌, List, sym, ap, subst, ◌∙◌, arith, ⊎_elim}
use Rattle.std.proofs.lemmas.Bool.{cases_eq, cases_lt}
use Rattle.pool_layout.specs.declared.header.PoolVariant.{PoolVariant}
use Rattle.pool_layout.specs.declared.defect.Defect.{Defect}
use Rattle.pool_layout.specs.declared.defect.Defect.TheVariants.{BadDirectory, BadEntry, Overlap}
use Rattle.pool_layout.specs.Header.{granules_in, version_in, IsPoolFields, IsHeaderLine, IsLineDefect}
use Rattle.image_tables.specs.Tables.{tables_of}
use Rattle.book_log.specs.Log.{IsChunk, logged}
use Rattle.heap_check.specs.Image.{header_in}
use Rattle.image_defects.specs.Least.{IsLeast}
use Rattle.image_defects.specs.Log.{chunk_in, HasDirectory, IsDirectoryDefect, HasEntries, IsBadLogWord, IsEntryDefect, AreDisjoint, IsOverlap, IsOverlapDefect}
use Rattle.pool_layout.proofs.OneImage.{one_bad_line}
use Rattle.image_defects.proofs.LeastNumbers.{least_once}

-- header

pub header_bad : (variant : PoolVariant) (words : List ℕ) (d : Defect) → IsLineDefect variant words d → ¬ (IsHeaderLine variant words (header_in words))
header_bad variant words d is header = ⊎_elim
    (λ short. omega (arith, short.0, header.whole))
    (λ line. ⊎_elim (λ text. text.0 header.text) (λ fields. fields.1 (header_in words, header.valid, header.word)) line.1)
    is

pub header_once : (variant : PoolVariant) (words : List ℕ) (d e : Defect) → IsLineDefect variant words d → IsLineDefect variant words e → d ≡ e
header_once variant words d e is also = ⊎_elim
    (λ short. ⊎_elim (λ other. short.1 ∙ sym other.1) (λ line. absurd (omega (arith, short.0, line.0))) also)
    (λ line. ⊎_elim (λ short. absurd (omega (arith, short.0, line.0))) (λ other. one_bad_line variant words (IsPoolFields variant) d e line.1 other.1) also)
    is

-- directory

pub directory_bad : (words : List ℕ) (d : Defect) → IsDirectoryDefect words d → ¬ (HasDirectory words)
directory_bad words d is = is.bad.bad

pub directory_once : (words : List ℕ) (d e : Defect) → IsDirectoryDefect words d → IsDirectoryDefect words e → d ≡ e
directory_once words d e is also = is.is ∙ ap BadDirectory (is.bad.is ∙ sym also.bad.is) ∙ sym also.is

-- entries

pub entry_bad : (words : List ℕ) (d : Defect) → IsEntryDefect words d → ¬ (HasEntries words)
entry_bad words d is entries =
    let f = is.first in
    let bad : IsBadLogWord words (chunk_in words f.k) is.place.entry = f.first.here in
    let chunk : IsChunk (version_in words) (granules_in words) words (chunk_in words f.k) = entries f.k 0 f.below in
    ⊎_elim
    (λ none. let found = chunk.entries is.place.entry bad.below bad.some in none found.0 found.1)
    (λ gap. bad.some (chunk.packed gap.0 is.place.entry (omega (arith, gap.1)) bad.below gap.2))
    bad.bad

pub entry_once : (words : List ℕ) (d e : Defect) → IsEntryDefect words d → IsEntryDefect words e → d ≡ e
entry_once words d e is also =
    let f = is.first in
    let g = also.first in
    let named : ℕ → ℕ → Defect = λ c n. BadEntry c n (logged (version_in words) words c n) in
    ⊎_elim
    (λ (less : f.k < g.k). absurd ((g.before f.k less).none is.place.entry f.first.here))
    (λ (most : g.k ≤ f.k). ⊎_elim
    (λ (same : g.k ≡ f.k).
    let first : IsLeast (IsBadLogWord words (chunk_in words f.k)) also.place.entry = subst (λ k. IsLeast (IsBadLogWord words (chunk_in words k)) also.place.entry) same g.first in
    let entry : is.place.entry ≡ also.place.entry = least_once (IsBadLogWord words (chunk_in words f.k)) is.place.entry also.place.entry f.first first in
    let chunk : is.place.chunk ≡ also.place.chunk = f.chunk ∙ sym (ap (chunk_in words) same) ∙ sym g.chunk in
    is.is ∙ ap (BadEntry is.place.chunk is.place.entry) f.is ∙ ap (named is.place.chunk) entry ∙ ap (λ c. named c also.place.entry) chunk ∙ ap (BadEntry also.place.chunk also.place.entry) (sym g.is) ∙ sym also.is)
    (λ (other : g.k ≢ f.k). absurd ((f.before g.k (omega arith)).none also.place.entry g.first.here))
    (cases_eq g.k f.k))
    (cases_lt f.k g.k)

-- extents

pub overlap_bad : (words : List ℕ) (d : Defect) → IsOverlapDefect words d → ¬ (AreDisjoint (tables_of words))
overlap_bad words d is apart =
    let o : IsOverlap (tables_of words) is.pair.first is.pair.second = is.first.overlap in
    omega (arith, o.behind, apart is.pair.first is.pair.second is.pair.second (record { low = omega (arith, o.behind); high = o.shares }) (record { low = omega arith; high = omega (arith, o.live) }))

pub overlap_once : (words : List ℕ) (d e : Defect) → IsOverlapDefect words d → IsOverlapDefect words e → d ≡ e
overlap_once words d e is also =
    let t = tables_of words in
    let first : is.pair.first ≡ also.pair.first = omega (arith, is.first.least also.pair.first also.pair.second also.first.overlap, also.first.least is.pair.first is.pair.second is.first.overlap) in
    let o : IsOverlap t is.pair.first is.pair.second = is.first.overlap in
    let p : IsOverlap t is.pair.first also.pair.second = subst (λ f. IsOverlap t f also.pair.second) (sym first) also.first.overlap in
    let second : is.pair.second ≡ also.pair.second = ⊎_elim
    (λ (less : is.pair.second < also.pair.second). absurd (omega (arith, o.live, p.between is.pair.second o.behind less)))
    (λ (most : also.pair.second ≤ is.pair.second). ⊎_elim
    (λ (same : also.pair.second ≡ is.pair.second). sym same)
    (λ (other : also.pair.second ≢ is.pair.second). absurd (omega (arith, p.live, o.between also.pair.second p.behind (omega arith))))
    (cases_eq also.pair.second is.pair.second))
    (cases_lt is.pair.second also.pair.second) in
    is.is ∙ ap (λ f. Overlap f is.pair.second) first ∙ ap (λ s. Overlap also.pair.first s) second ∙ sym also.is
