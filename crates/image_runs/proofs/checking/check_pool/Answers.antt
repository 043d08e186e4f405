use Rattle.std.proofs.Common.{inr}
use Rattle.image_runs.specs.Checks.{HasUnsoundFrom, IsPoolDefect}
use Rattle.image_runs.proofs.Faults.{image_of, wider}
use Rattle.image_runs.proofs.checking.check_pool.Goals as goal

pub returns-in-Ok-clause-checked : goal.returns-in-Ok-clause-checked
returns-in-Ok-clause-checked c image are = record {
  words = c.args.words.now;
  image = image_of image c.args.words.now c.args.bytes c.in_ok-header.header are c.in_ok-header.ensures.whole c.in_ok-header.ensures.pool;
  lines = c.in-Ok.ensures.lines;
}

pub returns-in-Err-clause-defect : goal.returns-in-Err-clause-defect
returns-in-Err-clause-defect c image are =
    wider c.in-Err.fault (HasUnsoundFrom c.args.words.now c.in_ok-header.header 0) (IsPoolDefect image)
    (λ arena defect unsound. inr (record {
      words = c.args.words.now;
      image = image_of image c.args.words.now c.args.bytes c.in_ok-header.header are c.in_ok-header.ensures.whole c.in_ok-header.ensures.pool;
      unsound = unsound;
    }))
    c.in-Err.ensures.unsound
