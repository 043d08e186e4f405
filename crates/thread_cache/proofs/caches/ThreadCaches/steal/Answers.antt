use Rattle.std.proofs.Common.{◌%◌, refl}
use Rattle.thread_cache.proofs.Tables.{none_by_word, steals}
use Rattle.thread_cache.proofs.caches.ThreadCaches.steal.Goals as goal

pub returns-in_err-number-clause-first : goal.returns-in_err-number-clause-first
returns-in_err-number-clause-first c =
    rw c.from_residual.ensures (record {
      empty = none_by_word c.self.view_is c.self.invariant c.args.class c.requires (rw c.deref.ensures.value at c.in_err-number.ensures);
      same = refl;
    })

pub returns-clause-first : goal.returns-clause-first
returns-clause-first c =
    steals c.self.view_is c.self.invariant c.args.class c.in_ok-number.number (c.in_ok-number.number % 64) c.requires refl (rw c.deref.ensures.value at c.in_ok-number.ensures) c.pop.result c.pop.new.self c.pop.ensures.top
