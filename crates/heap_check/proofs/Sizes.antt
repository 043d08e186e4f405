-- The numbers of an arena of well-formed words, and where its words lie.
use Rattle.std.proofs.Common.{◌≡◌, ◌+◌, ◌*◌, ◌^◌, ◌<◌, ◌≤◌, ℕ, List, length, arith}
use Rattle.heap_check.proofs.Common.{layout_of, root_word, heap_word, version_in, granules_in}
use Rattle.pool_layout.proofs.Layouts.{layout_rules}
use Rattle.heap_check.specs.Image.{bounds_of, IsFormed}

-- how many roots and granules there are, where the heap begins, and how many words
pub record HasSizes (words : List ℕ) : Type 0 where
  -- the words of the roots lie below the heap, and the heap begins inside
  pub roots : ((layout_of (version_in words)).roots < 2 ^ 16) × (2048 + (layout_of (version_in words)).roots ≤ 2048 * (layout_of (version_in words)).first_granule) × ((layout_of (version_in words)).first_granule < granules_in words)
  pub first : (4 ≤ (layout_of (version_in words)).first_granule) × ((layout_of (version_in words)).first_granule < granules_in words)
  pub least : 16 ≤ granules_in words
  pub most : granules_in words ≤ 4096
  pub size : length words ≡ 2048 * granules_in words

pub sizes_of : (words : List ℕ) → IsFormed words → HasSizes words
sizes_of words formed =
    let rules = layout_rules (version_in words) in
    let valid = formed.header.valid in
    record {
      roots = (rules.few_roots, omega (arith, rules.roots, rules.heap), omega (arith, rules.some_granule, valid.least));
      first = (rules.first, omega (arith, rules.some_granule, valid.least));
      least = omega (arith, rules.least, valid.least);
      most = omega (arith, rules.most, valid.greatest);
      size = formed.size;
    }

-- the heap begins inside
pub heap_inside : (words : List ℕ) → IsFormed words → heap_word (version_in words) ≤ length words
heap_inside words formed = let sizes = sizes_of words formed in omega (arith, sizes.size, sizes.first, sizes.least)

-- the words of the roots lie inside
pub root_inside : (words : List ℕ) (root : ℕ) → IsFormed words → root < (bounds_of words).roots → root_word root < length words
root_inside words root formed below = let sizes = sizes_of words formed in omega (arith, sizes.roots, sizes.least, sizes.size, below)
