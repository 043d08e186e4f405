use Rattle.uses.proofs.steps.clear_stage.Goals as goal

pub release_block-requires : goal.release_block-requires
release_block-requires g c = rw c.stage-in-Some.ensures (record { range = record { at = c.in-Some.field-0.at; size = c.in-Some.field-0.size }; named = rw c.stage.ensures at c.in-Some.ensures.1 })
