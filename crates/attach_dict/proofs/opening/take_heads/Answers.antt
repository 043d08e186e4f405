use Rattle.attach_dict.proofs.Taken.{rest_same, rest_more, places_still}
use Rattle.attach_dict.proofs.opening.take_heads.Goals as goal

pub loop-place-init : goal.loop-place-init
loop-place-init c = record { taken = c.requires.none; rest = rest_same c.args.index.now }

pub take_head-requires-clause-places : goal.take_head-requires-clause-places
take_head-requires-clause-places c = places_still c.args.heads.now c.args.index.now c.loop-place.index c.loop-place.invariant.rest c.requires.places

pub loop-place-preserved : goal.loop-place-preserved
loop-place-preserved c = record {
  taken = c.take_head.ensures.taken;
  rest = rest_more c.args.index.now c.loop-place.index c.take_head.new.index c.loop-place.invariant.rest c.take_head.ensures.rest;
}
