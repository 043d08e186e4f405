-- The stale roots of an image: each names a block, and how many they are.
use Rattle.std.proofs.Common.{ℕ, ◌<◌, List, refl, sym, subst, ⊎_elim}
use Rattle.attach_dict.proofs.Common.{bounds_of, IsExactImage, IsCount, none_below, rooted}
use Rattle.attach_dict.specs.Dict.{HasSome}
use Rattle.attach_dict.specs.Roots.{Roots, IsIn, AreRoots}
use Rattle.attach_dict.specs.Stages.{Phase, Idle, Staged, Filled, IsStale, IsStaleCount, LawOfStaleCounts}
use Rattle.attach_dict.specs.View.{AreStaleRoots}
use Rattle.attach_dict.proofs.Counts.{count_none, count_same}

-- a stale root has a block
pub stale_some : (words : List ℕ) (phase : Phase) (root : ℕ) → IsStale words phase root → HasSome words root
stale_some words Idle root so = ⊎_elim (λ s. s.some) (λ s. subst (λ (r : ℕ). HasSome words r) (sym s.0) s.1) so
stale_some words (Staged key count) root so = so.some
stale_some words (Filled key value) root so = so.some

-- and is one of the arena's
pub stale_rooted : (words : List ℕ) (phase : Phase) (root : ℕ) → IsExactImage words → IsStale words phase root → root < (bounds_of words).roots
stale_rooted words phase root exact so = let some = stale_some words phase root so in rooted words root some.range exact some.named

-- how many are stale
pub stale_counted : (words : List ℕ) (phase : Phase) (stale : Roots) → AreStaleRoots words phase stale → AreRoots stale → IsStaleCount words phase stale.count
stale_counted words phase stale were are =
    subst (λ (n : ℕ). IsCount (IsStale words phase) n stale.count) were.below
    (count_same (IsIn stale) (IsStale words phase) stale.below stale.count (λ k low is. were.are k is) (λ k low so. were.each k so) are.count_is)

-- none are exactly where there is none
pub law_of_stale_counts : LawOfStaleCounts
law_of_stale_counts words phase exact = (
  λ count root so. none_below (IsStale words phase) (bounds_of words).roots 0 count refl root (stale_rooted words phase root exact so) so,
  λ none. count_none (IsStale words phase) (bounds_of words).roots (λ root low. none root),
)
