use Rattle.std.proofs.Common.{rules, ◌≡◌, ◌∙◌, ◌+◌, ◌∷◌, [], ap, sym, subst, length, arith, length-append}
use Rattle.trace_runs.specs.Each.{EachFrom}
use Rattle.trace_runs.proofs.Each.{EachFrom-more}
use Rattle.trace_workers.specs.Lengths.{IsCounted}
use Rattle.trace_workers.proofs.PublishedLengths.{all_asked_then, all_asked_same, order_asked, counted_asked, length_asked}
use Rattle.trace_workers.proofs.lengths.lengths_of.Goals as goal

pub ask_own-requires-clause-some : goal.ask_own-requires-clause-some
ask_own-requires-clause-some g c =
    let same = length_asked c.args.passes.now c.loop-arena.passes c.loop-arena.invariant.asked in
    let some = c.requires.some in
    omega (arith, same, some)

pub loop-arena-init : goal.loop-arena-init
loop-arena-init g c = record {
  of = c.requires.of;
  order = c.requires.order;
  asked = all_asked_same c.args.passes.now;
  counted = subst (EachFrom (IsCounted c.args.passes.now) 0) (sym c.new-counts.ensures.items) tt;
  all = search rules;
}

pub loop-arena-preserved : goal.loop-arena-preserved
loop-arena-preserved g c =
    let before = c.loop-arena.passes in
    let after = c.ask_own.new.passes in
    let counts = c.loop-arena.counts.items in
    let count = c.ask_own.result in
    let pushed = c.in_ok-push.ensures.items in
    let asked = c.ask_own.ensures.asked in
    let here : c.loop-arena.arena ≡ 0 + length counts = let all = c.loop-arena.invariant.all in omega (arith, all) in
    let many = ap length pushed ∙ length-append counts (count ∷ []) in
    record {
      of = c.ask_own.ensures.of;
      order = order_asked 0 before after asked c.loop-arena.invariant.order;
      asked = all_asked_then c.args.passes.now before after c.loop-arena.invariant.asked asked;
      counted = subst (EachFrom (IsCounted after) 0) (sym pushed) (EachFrom-more (IsCounted after) 0 counts count (counted_asked 0 counts before after asked c.loop-arena.invariant.counted) (subst (λ a. IsCounted after a count) here c.ask_own.ensures.counted));
      all = let all = c.loop-arena.invariant.all in omega (arith, many, all);
    }

pub returns-in_err-push-clause-asked : goal.returns-in_err-push-clause-asked
returns-in_err-push-clause-asked g c = all_asked_then c.args.passes.now c.loop-arena.passes c.ask_own.new.passes c.loop-arena.invariant.asked c.ask_own.ensures.asked
