use Rattle.pool_layout.proofs.defect.Defect.append_text.Goals as goal

pub returns-in-SharedBlock-clause-done : goal.returns-in-SharedBlock-clause-done
returns-in-SharedBlock-clause-done c =
    rw (c.in-SharedBlock.is, ← c.from-in-SharedBlock.ensures, ← c.from-in-SharedBlock-2.ensures) c.append-in-SharedBlock.ensures.done
