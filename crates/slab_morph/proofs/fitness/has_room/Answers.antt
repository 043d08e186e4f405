use Rattle.std.proofs.Common.{◌≡◌, ◌<◌, ◌≤◌, ◌/◌, ⊎_elim, ℕ, refl, subst, arith}
use Rattle.slab_morph.proofs.Common.{cases_lt, words_of, SlabHeader}
use Rattle.slab_morph.specs.SlabHeaders.{header_at}
use Rattle.slab_morph.specs.Fitness.{IsClearOfBits}
use Rattle.slab_morph.proofs.Fitting.{capacity_most, clear_by_none, not_clear}
use Rattle.slab_morph.proofs.fitness.has_room.Given as given
use Rattle.slab_morph.proofs.fitness.has_room.Goals as goal

-- what is read of the slab
abbrev header : (g : given.Over) (c : goal.After-overlaps-from g) → SlabHeader
header g c = header_at (words_of (g.P.Pmem.state c.args.p.now)) (c.args.slab / 16384)

pub has_bit-requires-clause-end : goal.has_bit-requires-clause-end
has_bit-requires-clause-end g c = omega (arith, c.overlaps-from.ensures.high, capacity_most c.args.own c.requires.own)

pub returns-then-not-has_bit-clause-some : goal.returns-then-not-has_bit-clause-some
returns-then-not-has_bit-clause-some g c _ =
    let start = c.args.slab / 16384 in
    (c.loop-j.j, clear_by_none (header_at (words_of (g.P.Pmem.state c.args.p.now)) start) start c.args.own c.args.class c.loop-j.j c.overlaps-from.result.0 c.overlaps-from.result.1 c.overlaps-from.ensures (omega arith) (c.if-not-has_bit.ensures.none refl))

pub loop-j-preserved : goal.loop-j-preserved
loop-j-preserved g c j below =
    let h = header_at (words_of (g.P.Pmem.state c.args.p.now)) (c.args.slab / 16384) in
    let start = c.args.slab / 16384 in
    ⊎_elim
    (λ (less : j < c.loop-j.j). c.loop-j.invariant j less)
    (λ (last : c.loop-j.j ≤ j).
    let here : c.loop-j.j ≡ j = omega (arith, last, below) in
    let found = c.if-not-has_bit.ensures.some refl in
    subst (λ (n : ℕ). ¬ (IsClearOfBits h start c.args.own c.args.class n)) here
    (not_clear h start c.args.own c.args.class c.loop-j.j c.overlaps-from.result.0 c.overlaps-from.result.1 c.overlaps-from.ensures found.0 found.1 found.2 found.3))
    (cases_lt j c.loop-j.j)

pub returns-clause-none : goal.returns-clause-none
returns-clause-none g c _ j clear = c.loop-j.invariant j (omega (arith, clear.within)) clear
