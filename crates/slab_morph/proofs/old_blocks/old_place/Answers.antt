use Rattle.std.proofs.Common.{◌≡◌, ◌<◌, ◌≤◌, ◌/◌, true, true≢false, sym, subst, ◌∙◌, arith, ⊎_elim}
use Rattle.slab_morph.proofs.Common.{cases_lt, words_of, slab_block}
use Rattle.slab_morph.specs.SlabHeaders.{header_at}
use Rattle.slab_morph.proofs.OldBlocks.{old_is, entries_is, small_is, found_old, no_old, no_old_in_normal}
use Rattle.slab_morph.proofs.old_blocks.old_place.Goals as goal

pub loop-place-init : goal.loop-place-init
loop-place-init g c = λ place below. absurd (omega (arith, below))

pub is_old_at-requires-clause-number : goal.is_old_at-requires-clause-number
is_old_at-requires-clause-number g c =
    small_is (words_of (g.P.Pmem.state c.args.p.now)) c.args.slab c.requires.here c.state_at.result c.state_at.ensures.says c.fields_of-state.result.old c.loop-place.place c.fields_of-state.ensures.old
    (subst (λ n. c.loop-place.place < n) c.fields_of-state.ensures.entries c.loop-place-test.true)

pub returns-then-is_normal : goal.returns-then-is_normal
returns-then-is_normal g c = no_old_in_normal (words_of (g.P.Pmem.state c.args.p.now)) c.args.slab c.requires.here c.args.at (c.is_normal.ensures.0 c.if-is_normal.true)

pub returns-then-is_old_at : goal.returns-then-is_old_at
returns-then-is_old_at g c =
    let words = words_of (g.P.Pmem.state c.args.p.now) in
    let says = c.state_at.ensures.says in
    let is = c.is_old_at.ensures.0 c.if-is_old_at.true in
    found_old words c.args.slab c.requires.here c.fields_of-state.result.old c.args.at c.loop-place.place c.fields_of-state.result.entries
    (c.fields_of-state.ensures.old ∙ old_is words c.args.slab c.requires.here c.state_at.result says) (c.fields_of-state.ensures.entries ∙ entries_is words c.args.slab c.requires.here c.state_at.result says)
    c.loop-place-test.true is.0 is.1

pub loop-place-preserved : goal.loop-place-preserved
loop-place-preserved g c =
    let h = header_at (words_of (g.P.Pmem.state c.args.p.now)) (c.args.slab / 16384) in
    λ place below. ⊎_elim
    (λ (lower : place < c.loop-place.place). c.loop-place.invariant place lower)
    (λ (last : c.loop-place.place ≤ place).
    let same : place ≡ c.loop-place.place = omega (arith, last, below) in
    λ both. true≢false (sym (c.is_old_at.ensures.1 (subst (λ k. (h.live k ≡ true) × ((slab_block (c.args.slab / 16384) c.fields_of-state.result.old (h.number k)).at ≡ c.args.at)) same both)) ∙ c.if-is_old_at.false))
    (cases_lt place c.loop-place.place)

pub returns : goal.returns
returns g c =
    let words = words_of (g.P.Pmem.state c.args.p.now) in
    let says = c.state_at.ensures.says in
    no_old words c.args.slab c.requires.here c.fields_of-state.result.old c.args.at c.fields_of-state.result.entries
    (c.fields_of-state.ensures.old ∙ old_is words c.args.slab c.requires.here c.state_at.result says) (c.fields_of-state.ensures.entries ∙ entries_is words c.args.slab c.requires.here c.state_at.result says)
    (λ place below. c.loop-place.invariant place (omega (arith, below, c.loop-place-test.false)))
