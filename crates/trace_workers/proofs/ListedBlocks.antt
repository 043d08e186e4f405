-- A heap has no more blocks than there are roots.
use Rattle.std.proofs.Common.{◌≡◌, ℕ, zero, suc, ◌+◌, ◌≤◌, ◌<◌, ◌^◌, List, length, Option, Some, None, ap, arith, length-append}
use Rattle.pool_layout.specs.Header.{version_in}
use Rattle.pool_layout.specs.Layout.{layout_of, IsLayout}
use Rattle.pool_layout.proofs.Layouts.{layout_rules}
use Rattle.trace_workers.proofs.Common.{tables_of, Block, heap}
use Rattle.heap_model.specs.Machine.{Range}
use Rattle.trace_runs.specs.Blocks.{listed, blocks_from, blocks_in}

few_listed : (root : ℕ) (range : Option Range) → length (listed root range) ≤ 1
few_listed root None = omega arith
few_listed root (Some range) = omega arith

few_blocks : (h : ℕ → Option Range) (root n : ℕ) → length (blocks_from h root n) ≤ n
few_blocks h root zero = omega arith
few_blocks h root (suc n) =
    let rest = few_blocks h (root + 1) n in
    let one = few_listed root (h root) in
    let both = length-append (listed root (h root)) (blocks_from h (root + 1) n) in
    omega (arith, rest, one, both)

pub blocks_in-few : (words : List ℕ) (blocks : List Block) → blocks ≡ blocks_in words → length blocks < 2 ^ 32
blocks_in-few words blocks is =
    let version = version_in words in
    let rules : IsLayout (layout_of version) = layout_rules version in
    let many = ap length is in
    let few = few_blocks (heap (tables_of words)) 0 (layout_of version).roots in
    omega (arith, many, few, rules.few_roots)
