-- Live old blocks: one is seen at an address exactly where a place of the index table has it there.
use Rattle.std.proofs.Common.{◌≡◌, ◌≢◌, ◌==◌, ◌&&◌, ◌||◌, ℕ, zero, suc, ◌<◌, Bool, true, false, refl, arith, ⊎_elim}
use Rattle.heap_check.proofs.Common.{cases_eq, cases_lt, eqb-true, and_parts, false≢true, class_size, class_size-rises, SlabHeader, any_below, slab_block}
use Rattle.heap_check.specs.Heap.{is_old_of, is_old}

-- a number that passes is found
found_below : (test : ℕ → Bool) (n : ℕ) → any_below test n ≡ true → (k : ℕ) × (k < n) × (test k ≡ true)
found_below test zero is = absurd (false≢true is)
found_below test (suc n) is = by (test n) refl is (found_below test n)
  where
    by : (b : Bool) → test n ≡ b → (b || any_below test n) ≡ true → (any_below test n ≡ true → (k : ℕ) × (k < n) × (test k ≡ true)) → (k : ℕ) × (k < suc n) × (test k ≡ true)
    by true here is rest = (n, omega arith, here)
    by false here is rest = let found = rest is in (found.0, omega (arith, found.1), found.2)

-- a live old block that is seen at an address is one that the slab holds
pub old_seen : (h : SlabHeader) (start at : ℕ) → is_old h start at ≡ true → (place : ℕ) × (place < h.index_count) × (h.live place ≡ true) × ((slab_block start h.old (h.number place)).at ≡ at)
unfolding is_old_of
old_seen h start at is =
    let test : ℕ → Bool = λ place. h.live place && ((slab_block start h.old (h.number place)).at == at) in
    let found = found_below test h.index_count is in
    let parts = and_parts (h.live found.0) ((slab_block start h.old (h.number found.0)).at == at) found.2 in
    (found.0, found.1, parts.0, eqb-true (slab_block start h.old (h.number found.0)).at at parts.1)

-- classes of one size are one
pub one_class : (class other : ℕ) → class < 36 → other < 36 → class_size class ≡ class_size other → class ≡ other
one_class class other below under same = ⊎_elim
    (λ (is : class ≡ other). is)
    (λ (differ : class ≢ other). absurd (⊎_elim
    (λ (lower : class < other). omega (arith, class_size-rises class other lower under, same))
    (λ higher. omega (arith, class_size-rises other class (omega (arith, higher, differ)) below, same))
    (cases_lt class other)))
    (cases_eq class other)
