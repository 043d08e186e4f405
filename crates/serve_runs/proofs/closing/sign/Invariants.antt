use Rattle.std.proofs.Common.{◌≡◌, take}
use Rattle.serve_runs.specs.Signed.{signed}
use Rattle.serve_runs.proofs.closing.sign.Given as goal

abbrev pub invariant-loop-k : goal.invariant-loop-k
invariant-loop-k l = l.journal ≡ signed (take l.k l.senders) l.fn.journal
