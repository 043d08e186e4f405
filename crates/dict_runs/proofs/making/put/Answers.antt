use Rattle.dict_runs.proofs.making.put.Goals as goal

pub returns-in_ok-store-clause-put : goal.returns-in_ok-store-clause-put
returns-in_ok-store-clause-put g c =
    let taken = rw c.in-Stored.is at c.in_ok-reply.ensures.taken in
    rw c.in-Stored.is (record { staged = c.take.new.dict; mid = c.take.new.look; took = taken.0; seen = taken.1; filled = c.in_ok-store.ensures.filled })
