use Rattle.std.proofs.Common.{◌≡◌, arith}
use Rattle.dict_text.specs.Calls.{calls_of}
use Rattle.dict_runs.proofs.Searches.{idle_crash}
use Rattle.dict_runs.proofs.crashing.crash_script.Goals as goal

pub returns-in_ok-left_idle-in-Past-2-clause-crashed : goal.returns-in_ok-left_idle-in-Past-2-clause-crashed
returns-in_ok-left_idle-in-Past-2-clause-crashed c =
    let script = c.args.script.now in
    let past = rw c.in-Past-2.is at c.in_ok-crashed.ensures in
    let left = c.in_ok-left_idle-in-Past-2.ensures in
    let same : c.in-Past.left ≡ c.in-Past-2.left = cc (c.in-Past.is, c.in-Past-2.is) in
    let none : c.in-Past-2.left ≡ 0 = omega (arith, c.if-left-gt0.false, same) in
    idle_crash script.granules (calls_of script) c.args.event c.args.seed c.in-Past-2.left c.in_ok-left_idle-in-Past-2.field-0 past none left.idle left.image left.steady
