use Rattle.std.proofs.Common.{ap, sym, subst, arith}
use Rattle.pmem_lines.specs.Pmem.{PmemState, words_of}
use Rattle.recover.specs.Recovered.{IsRecovered}
use Rattle.recover.proofs.Recoveries.{room_of_any}
use Rattle.image_runs.specs.Repairs.{IsRepaired}
use Rattle.image_runs.proofs.Repairs.{repaired_words}
use Rattle.nvpool.proofs.variant.LogVariant.repaired.Goals as goal

pub recover-requires-clause-room : goal.recover-requires-clause-room
recover-requires-clause-room c = room_of_any c.args.device (omega (arith, ap (λ (s : PmemState). s.room) c.requires))

pub returns-in-Ok-clause-repaired : goal.returns-in-Ok-clause-repaired
returns-in-Ok-clause-repaired c =
    let words = words_of c.args.device in
    let device = c.in-Ok.arena.device in
    subst (λ (s : PmemState). IsRepaired words (words_of s)) (sym c.into_pmem.ensures.device)
    (repaired_words words 4096 device c.in-Ok.ensures.sound (subst (λ (s : PmemState). IsRecovered s device) c.requires c.in-Ok.ensures.recovered))
