use Rattle.std.proofs.Common.{arith}
use Rattle.arena_core.proofs.Common.{words_of}
use Rattle.arena_core.proofs.PlannedCalls.{supplied_found}
use Rattle.arena_core.proofs.volatile.Volatile.place_for.Goals as goal

pub returns-in-None-clause-supplied : goal.returns-in-None-clause-supplied
returns-in-None-clause-supplied g c = λ root asked.
    let found = c.large_place.ensures (words_of (g.P.Pmem.state c.args.device.now)) c.requires.arena.current.exact c.requires.arena.current.index root c.args.size asked (grind arith) c.granules.ensures in
    supplied_found _ _ root c.args.size c.args.self.now.supply c.args.seat c.large_place.result (grind arith) found
