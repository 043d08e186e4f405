-- The passes that a pool is started with are all of its passes.
use Rattle.std.proofs.Common.{◌≡◌, ◌⊎◌, inl, inr, ℕ, zero, suc, ◌+◌, ◌<◌, ◌≤◌, ◌==◌, ◌||◌, Bool, true, false, List, [], ◌∷◌, map, refl, ap, arith, eq-eqb}
use Rattle.std.proofs.lemmas.Bool.{cases_lt}
use Rattle.arena_lock.specs.Known.{Lock, Known}
use Rattle.shared_pool.specs.Closed.{is_in, HasAll, AllFitLocks}
use Rattle.shared_pool.specs.Passes.{fresh_pass, fresh_passes}

-- each has a seat at each lock
pub fresh_fits : (n : ℕ) (locks : List Lock) → map (λ (l : Lock). l.id) locks ≡ map (λ (z : Known). z.lock) (fresh_pass locks n).parts
fresh_fits n [] = refl
fresh_fits n (l ∷ ls) = ap (λ ts. l.id ∷ ts) (fresh_fits n ls)

pub all_fit : (locks : List Lock) (n count : ℕ) → AllFitLocks (map (λ (l : Lock). l.id) locks) (fresh_passes locks n count)
all_fit locks n zero = tt
all_fit locks n (suc count) = (fresh_fits n locks, all_fit locks (suc n) count)

-- each number is one's
or_right : (b c : Bool) → c ≡ true → b || c ≡ true
or_right true c e = refl
or_right false c e = e

has_one : (n k : ℕ) (more : Bool) → (n < k) ⊎ (k ≤ n) → n ≤ k → (n < k → more ≡ true) → (n == k) || more ≡ true
has_one n k more (inl l) low f = or_right (n == k) more (f l)
has_one n k more (inr l) low f = ap (λ b. b || more) (eq-eqb n k (omega arith))

has_from : (locks : List Lock) (n count k : ℕ) → n ≤ k → k < n + count → is_in k (map (λ p. p.number) (fresh_passes locks n count)) ≡ true
has_from locks n zero k low high = absurd (omega arith)
has_from locks n (suc count) k low high = has_one n k (is_in k (map (λ p. p.number) (fresh_passes locks (suc n) count))) (cases_lt n k) low (λ l. has_from locks (suc n) count k (omega arith) (omega arith))

pub has_fresh : (locks : List Lock) (count : ℕ) → HasAll count (map (λ p. p.number) (fresh_passes locks 0 count))
has_fresh locks count k l = has_from locks 0 count k (omega arith) (omega arith)
