-- The pool of a trace: its numbers, and the one line that says it.
use Rattle.std.proofs.Common.{◌≡◌, ◌⊎◌, ◌≤◌, ℕ, List, ◌∷◌, ◌++◌, get_or, refl, sym, ◌∙◌, ap, inl, inr, arith}
use Rattle.std.specs.Prelude.{decimal}
use Rattle.std.proofs.lemmas.Fmt.{decimal_injective}
use Rattle.pool_layout.specs.Layout.{layout_of, all_granules, pool_granules}
use Rattle.pool_layout.proofs.Layouts.{layout_rules, first_version, version_cases}
use Rattle.trace_text.specs.declared.call.PoolSize.{PoolSize}
use Rattle.trace_text.specs.Grammar.{pool_word, pool_sizes, IsPool, IsPoolLine}
use Rattle.trace_text.specs.Lines.{IsPoolOf}
use Rattle.trace_text.proofs.CallLines.{same_field}

-- numbers

-- a pool has some granules, and not many
pub pool_least : {pool : PoolSize} → IsPool pool → 16 ≤ pool.granules
pool_least {pool} is = omega (arith, is.least, (layout_rules pool.version).least)

pub pool_most : {pool : PoolSize} → IsPool pool → pool.granules ≤ 4096
pool_most {pool} is = omega (arith, is.most, (layout_rules pool.version).most)

-- so many arenas of version 1 have never too many granules together
pub first_together : (arenas granules : ℕ) → arenas ≤ 16 → granules ≤ 1024 → all_granules arenas granules ≤ pool_granules
unfolding all_granules
first_together arenas granules few most = grind arith

-- which pools of version 1 there are
pub is_pool : {pool : PoolSize} → pool.version ≡ 1 → 1 ≤ pool.arenas → pool.arenas ≤ 16 → 16 ≤ pool.granules → pool.granules ≤ 1024 → IsPool pool
unfolding layout_of
is_pool {pool} first some few least most = record {
  version = rw first first_version;
  some = some;
  few = few;
  least = rw first least;
  most = rw first most;
  together = first_together pool.arenas pool.granules few most;
}

-- lines

-- the numbers of a pool are said in one way
pub one_size : (m n : PoolSize) → IsPool m → IsPool n → m.version ≡ n.version → pool_sizes m ≡ pool_sizes n → m ≡ n
one_size m n p q version same =
    let h = same_field (pool_sizes n) m.arenas n.arenas _ _ (omega (arith, p.few)) (omega (arith, q.few)) (sym same) refl in
    let granules : m.granules ≡ n.granules = decimal_injective m.granules n.granules (omega (arith, pool_most p)) (omega (arith, pool_most q)) h.1 in
    λ i. record { version = version i; arenas = h.0 i; granules = granules i }

-- the two words differ
apart : (words others : List ℕ) → pool_word 1 ++ words ≡ pool_word 2 ++ others → ⊥
apart words others same = let letter : ◌≡◌ {A = ℕ} 32 50 = ap (λ s. get_or s 4 0) same in omega (arith, letter)

-- a line says one version
pub one_version : (version : ℕ) (line words : List ℕ) (pool : PoolSize) → (version ≡ 1) ⊎ (version ≡ 2) → line ≡ pool_word version ++ words → IsPoolLine line pool → pool.version ≡ version
one_version version line words pool which is says = by which (version_cases pool.version says.valid.version)
  where
    both : pool_word version ++ words ≡ pool_word pool.version ++ pool_sizes pool
    both = sym is ∙ says.text

    by : (version ≡ 1) ⊎ (version ≡ 2) → (pool.version ≡ 1) ⊎ (pool.version ≡ 2) → pool.version ≡ version
    by (inl one) (inl other) = other ∙ sym one
    by (inl one) (inr other) = absurd (apart words (pool_sizes pool) (ap (λ v. pool_word v ++ words) (sym one) ∙ both ∙ ap (λ v. pool_word v ++ pool_sizes pool) other))
    by (inr one) (inl other) = absurd (apart (pool_sizes pool) words (ap (λ v. pool_word v ++ pool_sizes pool) (sym other) ∙ sym both ∙ ap (λ v. pool_word v ++ words) one))
    by (inr one) (inr other) = other ∙ sym one

-- behind its word, the arenas, and what stands behind them
pub behind_arenas : (words rest : List ℕ) (version arenas : ℕ) (pool : PoolSize) → arenas ≤ 16 → words ≡ decimal arenas ++ 32 ∷ rest → IsPoolOf version words pool → (arenas ≡ pool.arenas) × (rest ≡ decimal pool.granules)
behind_arenas words rest version arenas pool few is says = same_field words arenas pool.arenas rest (decimal pool.granules) (omega (arith, few)) (omega (arith, says.valid.few)) is says.text
