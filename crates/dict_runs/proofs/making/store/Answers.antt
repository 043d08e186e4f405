use Rattle.dict_runs.proofs.making.store.Goals as goal

pub show-requires : goal.show-requires
show-requires g c = let filled = c.fill.ensures.filled c.requires.key c.requires.is in record { key = c.requires.key; value = c.args.value.now; is = filled.keeps.phase_is }
