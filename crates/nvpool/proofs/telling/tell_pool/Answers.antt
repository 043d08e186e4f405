use Rattle.std.proofs.Common.{List, ℕ, sym, inr, subst}
use Rattle.image_runs.proofs.Faults.{wider}
use Rattle.nvpool.specs.Telling.{IsToldBy, HasUnsound, IsPoolDefect}
use Rattle.nvpool.proofs.Told.{told_all}
use Rattle.nvpool.proofs.telling.tell_pool.Goals as goal

pub returns-in-Ok-write_back-clause-told : goal.returns-in-Ok-write_back-clause-told
returns-in-Ok-write_back-clause-told g c image are =
    let maps = g.V.Variant.rules.maps in
    let header = c.in_ok-header.header in
    record {
      words = c.args.words.now;
      header = header;
      image = c.in_ok-header.ensures.image image are;
      told = subst (IsToldBy maps c.args.form c.args.words.now header) (sym {A = List ℕ} c.in-Ok-write_back.ensures) (told_all maps c.args.form c.args.words.now header c.in-Ok.text.items c.in-Ok.ensures.told);
    }

pub returns-in-Err-clause-defect : goal.returns-in-Err-clause-defect
returns-in-Err-clause-defect g c image are =
    let rules = g.V.Variant.rules in
    let header = c.in_ok-header.header in
    wider c.in-Err.fault (HasUnsound rules c.args.words.now header) (IsPoolDefect rules image)
    (λ arena defect unsound. inr (record { words = c.args.words.now; header = header; image = c.in_ok-header.ensures.image image are; unsound = unsound }))
    c.in-Err.ensures.unsound
