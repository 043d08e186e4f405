use Rattle.std.proofs.Common.{refl, sym, ◌∙◌, arith}
use Rattle.recovery_steps.proofs.Common.{false≢true, slab_fields, index_count_few}
use Rattle.recovery_steps.proofs.Arenas.{slab_at}
use Rattle.recovery_steps.proofs.nearly.are_leaving.Goals as goal

pub state_field-place-end-requires-clause-slab : goal.state_field-place-end-requires-clause-slab
state_field-place-end-requires-clause-slab c = slab_at c.args.words.now c.requires.image c.args.start c.requires.slab

pub live_at-requires-clause-slab : goal.live_at-requires-clause-slab
live_at-requires-clause-slab c = slab_at c.args.words.now c.requires.image c.args.start c.requires.slab

pub live_at-requires-clause-place : goal.live_at-requires-clause-place
live_at-requires-clause-place c =
    let few = index_count_few (c.requires.image.sound.slabs c.args.start c.requires.slab) in
    omega (arith, few, c.state_field-place-end.ensures, (slab_fields c.args.words.now c.args.start).index_count)

pub is_leaving-requires-clause-place : goal.is_leaving-requires-clause-place
is_leaving-requires-clause-place c = omega (arith, c.state_field-place-end.ensures, (slab_fields c.args.words.now c.args.start).index_count)

pub returns-then-not-is_leaving : goal.returns-then-not-is_leaving
returns-then-not-is_leaving c = (
  λ e. absurd (false≢true e),
  λ all. c.if-not-is_leaving.ensures.1
      (all c.loop-place.place (omega (arith, c.state_field-place-end.ensures, (slab_fields c.args.words.now c.args.start).index_count)) (sym c.live_at.ensures ∙ c.if-live_at.true)),
)

pub returns : goal.returns
returns c = (λ e. λ place below live. c.loop-place.invariant place (omega (arith, below, c.state_field-place-end.ensures, (slab_fields c.args.words.now c.args.start).index_count)) live, λ all. refl)
