use Rattle.std.proofs.Common.{◌≡◌}
use Rattle.pmem_lines.specs.Pmem.{words_of}
use Rattle.attach_dict.specs.Stages.{Idle, AreNoneStale}
use Rattle.store_times.proofs.keys.put_new.Given as goal

abbrev pub invariant-loop-before : goal.invariant-loop-before
invariant-loop-before l = record { idle : l.dict.phase ≡ Idle; tidy : AreNoneStale (words_of l.dict.arena.device) Idle }
