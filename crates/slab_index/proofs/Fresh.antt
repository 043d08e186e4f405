-- An index in which no slab begins.
use Rattle.std.proofs.Common.{◌≡◌, ℕ, ◌+◌, ◌*◌, ◌/◌, ◌%◌, ◌<◌, ◌≤◌, ⊎_elim, false, ltb, ◌&&◌, List, Option, None, get_or, replicate, sym, ap, ◌∙◌, arith}
use Rattle.slab_index.proofs.Common.{cases_lt, and_right, false≢true, get_or-replicate, get_or_past, length-replicate, has, has-zeros, get_or-zeros}
use Rattle.slab_index.specs.SlabSet.{class_in, is_available}
use Rattle.slab_index.specs.Kept.{set_of, capacity_or_none, capacity_at, is_class, IsIndex}

-- no slab is in a list of none
pub get_or-nones : (n i : ℕ) → get_or {A = Option ℕ} (replicate n None) i None ≡ None
get_or-nones n i = ⊎_elim
    (λ (within : i < n). get_or-replicate n i None None within)
    (λ (past : n ≤ i). get_or_past (replicate n None) i None (omega (arith, length-replicate {A = Option ℕ} n None)))
    (cases_lt i n)

-- no slab has a block, and no word lacks one
pub IsIndex-fresh : (granules : ℕ) → 16 ≤ granules → granules ≤ 4096 →
    IsIndex granules (replicate granules None) (replicate (64 * granules) 0) (replicate granules 0) (replicate 2304 0) (replicate 36 0)
IsIndex-fresh granules least most =
    let none = get_or-nones granules in
    let empty : (s : ℕ) → capacity_at (replicate granules None) s ≡ 0 = λ s. ap capacity_or_none (none s) in
    record {
      least = least;
      most = most;
      classes_size = length-replicate {A = Option ℕ} granules None;
      blocks_size = length-replicate {A = ℕ} (64 * granules) 0;
      some_size = length-replicate {A = ℕ} granules 0;
      starts_size = length-replicate {A = ℕ} 2304 0;
      some_starts_size = length-replicate {A = ℕ} 36 0;
      summary = record { is = λ i. has-zeros 36 i ∙ sym (ap (ltb 0) (get_or-zeros 2304 i)) };
      known = λ s c is. absurd (let h = none s in cc);
      fits = λ i. omega (arith, get_or-zeros (64 * granules) i);
      few = λ s. omega (arith, empty s);
      below = λ k is. absurd (false≢true (sym (has-zeros (64 * granules) k) ∙ is));
      some_is = λ i. has-zeros granules i ∙ sym (ap (ltb 0) (get_or-zeros (64 * granules) i));
      starts_is = λ k. has-zeros 2304 k ∙ sym (ap (λ slab. is_class slab (k / 4096) && ltb 0 (get_or {A = ℕ} (replicate granules 0) (k % 4096) 0)) (none (k % 4096)));
    }

-- where no slab begins, none is found, and no block is available
pub fresh_classes : (granules : ℕ) (blocks : List ℕ) (s : ℕ) → class_in (set_of granules (replicate granules None) blocks) s ≡ None
unfolding class_in
fresh_classes granules blocks s = get_or-nones granules s

pub fresh_blocks : (granules n : ℕ) (classes : List (Option ℕ)) (s i : ℕ) → is_available (set_of granules classes (replicate n 0)) s i ≡ false
unfolding is_available
fresh_blocks granules n classes s i = and_right (ltb i 4096) (has (replicate n 0) (4096 * s + i)) (has-zeros n (4096 * s + i))
