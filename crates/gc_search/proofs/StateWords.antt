-- State words of slabs, one after another.
use Rattle.std.proofs.Common.{◌≡◌, ℕ, ◌/◌, ◌%◌, ◌<◌, ◌≤◌, List, arith, ⊎_elim}
use Rattle.std.proofs.lemmas.Bool.{cases_lt}
use Rattle.image_defects.specs.Least.{IsLeast}
use Rattle.gc_check.specs.Image.{IsNormalWord}
use Rattle.gc_check.specs.Defects.{IsBadSlab}
use Rattle.gc_search.specs.Known.{IsNormalIfSlab}

pub normal_word : (word : ℕ) → word % 256 ≡ 1 → word / 256 < 36 → IsNormalWord word
normal_word word kind class = record { class = word / 256; below = class; is = omega (arith, kind) }

pub normal_kind_of : (word : ℕ) → IsNormalWord word → word % 256 ≡ 1
normal_kind_of word is = omega (arith, is.is)

pub normal_class_of : (word : ℕ) → IsNormalWord word → word / 256 < 36
normal_class_of word is = omega (arith, is.is, is.below)

-- the first slab that is not normal
pub first_bad : (words : List ℕ) (start : ℕ) → IsBadSlab words start → ((k : ℕ) → k < start → IsNormalIfSlab words k) → IsLeast (IsBadSlab words) start
first_bad words start bad before = record {
  here = bad;
  least = λ other b. ⊎_elim (λ (less : other < start). absurd (b.bad ((before other less).normal b.slab))) (λ (most : start ≤ other). most) (cases_lt other start);
}
