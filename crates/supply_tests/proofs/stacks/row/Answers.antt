use Rattle.std.proofs.Common.{◌≡◌, ℕ, ◌+◌, ◌*◌, ⊎_elim, List, sym, subst, arith}
use Rattle.heap_model.specs.Placement.{Has, AreRising}
use Rattle.thread_cache.proofs.Lists.{Has_joined, AreRising-last}
use Rattle.supply_tests.proofs.stacks.row.Goals as goal

pub loop-i-preserved : goal.loop-i-preserved
loop-i-preserved c =
    let at = c.args.first + c.args.step * c.loop-i.i in
    let items = c.loop-i.addresses.items in
    let pushed = c.push.ensures.items in
    record {
      rising = subst AreRising (sym pushed) (AreRising-last items at c.loop-i.invariant.rising c.loop-i.invariant.below);
      below = λ other has. ⊎_elim
          (λ (before : Has items other). omega (arith, c.loop-i.invariant.below other before, c.requires.apart))
          (λ (is : other ≡ at). omega (arith, is, c.requires.apart))
          (Has_joined items at other (subst (λ (xs : List ℕ). Has xs other) pushed has));
      few = omega (arith, c.push.ensures.len, c.loop-i.invariant.few);
    }
