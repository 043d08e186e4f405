-- What every row of the table of versions keeps.
use Rattle.std.proofs.Common.{◌≡◌, ◌⊎◌, ⊎_elim, ◌+◌, ◌*◌, ◌/◌, ◌<◌, ◌≤◌, ℕ, true, false, Bool, cond, eqb, refl, inl, inr, ap, arith, rules}
use Rattle.std.proofs.lemmas.Bool.{cases_lt}
use Rattle.pool_layout.specs.declared.layout.Layout.{Layout}
use Rattle.pool_layout.specs.Layout.{first_layout, second_layout, layout_of, IsVersion, IsLayout}

row_rules : (second : Bool) → IsLayout (cond second second_layout first_layout)
row_rules true = search rules
row_rules false = search rules

pub layout_rules : (version : ℕ) → IsLayout (layout_of version)
unfolding layout_of
layout_rules version = row_rules (eqb version 2)

-- the rows, by number
pub first_row : layout_of 1 ≡ first_layout
unfolding layout_of
first_row = refl

pub second_row : layout_of 2 ≡ second_layout
unfolding layout_of
second_row = refl

-- a version is the one or the other
pub version_cases : (version : ℕ) → IsVersion version → (version ≡ 1) ⊎ (version ≡ 2)
version_cases version is = ⊎_elim (λ (low : version < 2). inl (omega (arith, low, is.some))) (λ (high : 2 ≤ version). inr (omega (arith, high, is.most))) (cases_lt version 2)

pub first_version : IsVersion 1
first_version = record { some = omega arith; most = omega arith }

pub second_version : IsVersion 2
second_version = record { some = omega arith; most = omega arith }

-- the first byte of a chunk, of any row
pub chunk_byte : (layout : Layout) (chunk : ℕ) → IsLayout layout → layout.log_at + layout.chunk_bytes * chunk ≡ 8 * (layout.log_at / 8 + layout.chunk_bytes / 8 * chunk)
chunk_byte layout chunk rules =
    let words : layout.chunk_bytes ≡ 8 * (layout.chunk_bytes / 8) = omega (arith, rules.chunk) in
    let log : layout.log_at ≡ 8 * (layout.log_at / 8) = omega (arith, rules.log) in
    omega (arith, log, ap (λ n. n * chunk) words)
