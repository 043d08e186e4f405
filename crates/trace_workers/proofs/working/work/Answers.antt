use Rattle.std.proofs.Common.{rules, arith, ◌≡◌, ◌<◌, ◌≤◌, ◌+◌, ◌++◌, [], ◌∷◌, ◌∙◌, ap, sym, subst, length, List, take, get_or}
use Rattle.trace_workers.proofs.Common.{PassState, IsPassOf, Malloc, TraceCall}
use Rattle.trace_runs.specs.Answers.{calls_in}
use Rattle.trace_workers.specs.Workers.{HasMadeOwn, HasTurns}
use Rattle.trace_runs.proofs.ThreadNumbers.{take_next, in_at}
use Rattle.trace_workers.proofs.Calls.{has_part, done_other, done_more, turns_left, turns_other, turns_more}
use Rattle.trace_workers.proofs.working.work.Goals as goal
use Rattle.trace_workers.proofs.working.work.Goals.{then-call-number+in_ok-call, else-call-number}

pub call-requires : goal.call-requires
call-requires g c =
    let room : c.loop-k.k < length c.args.calls.now = search rules in
    let arena = in_at (length c.args.pool.now.locks) c.args.calls.now c.loop-k.k (record { thread = 0; arena = 0; call = Malloc 0 0 }) room c.requires.arenas in
    record {
      of_pool = c.loop-k.invariant.0;
      there = arena;
      left = turns_left c.loop-k.k (length c.args.calls.now) c.loop-k.pass _ (has_part c.args.pool.now c.loop-k.pass _ c.loop-k.invariant.0 arena) room c.requires.few c.loop-k.invariant.4;
    }

pub after-requires : goal.after-requires
after-requires g c =
    let room : c.loop-k.k < length c.args.calls.now = search rules in
    let arena = in_at (length c.args.pool.now.locks) c.args.calls.now c.loop-k.k (record { thread = 0; arena = 0; call = Malloc 0 0 }) room c.requires.arenas in
    let part = has_part c.args.pool.now c.call.new.pass _ c.call.ensures.pass arena in
    omega (arith, part)

pub loop-k-init : goal.loop-k-init
loop-k-init g c = (c.requires.pass, search rules, search rules, (λ a. ap calls_in (c.requires.fresh.none a)), c.requires.fresh.turns)

pub loop-k-preserved : goal.loop-k-preserved
loop-k-preserved g c =
    let d : TraceCall = record { thread = 0; arena = 0; call = Malloc 0 0 } in
    let calls = c.args.calls.now in
    let k = c.loop-k.k in
    let call : TraceCall = get_or calls k d in
    let p = c.loop-k.pass in
    let inv = c.loop-k.invariant in
    let room : k < length calls = search rules in
    let number : p.number ≡ c.args.pass.now.number = inv.1 in
    let next : take k calls ++ call ∷ [] ≡ take (k + 1) calls = take_next calls k d room in
    let part : call.arena < length p.parts = has_part c.args.pool.now p call.arena inv.0 (in_at (length c.args.pool.now.locks) calls k d room c.requires.arenas) in
    elim c.if-call-number.branch [
      | then-call-number+in_ok-call w ↦
          let q = w.call.new.pass in
          let same : q.number ≡ p.number = w.call.ensures.number in
          let mine : call.thread ≡ p.number = w.if-call-number.true ∙ (c.number-number.ensures ∙ sym number) in
          let done : HasMadeOwn (take k calls ++ call ∷ []) q = done_more (take k calls) call p q w.in_ok-call.field-0 part mine w.in_ok-call.ensures.called inv.3 in
          let turns : HasTurns (k + 1) q = turns_more k call.arena call.call p q w.in_ok-call.field-0 part w.in_ok-call.ensures.called inv.4 in
          let made : c.if-call-number.made ≤ k + 1 = search rules in
          subst (λ (z : PassState). IsPassOf c.args.pool.now z × (z.number ≡ c.args.pass.now.number) × (c.if-call-number.made ≤ k + 1) × HasMadeOwn (take (k + 1) calls) z × HasTurns (k + 1) z) (sym w.pass-is)
          (w.call.ensures.pass, same ∙ number, made, subst (λ (l : List TraceCall). HasMadeOwn l q) next done, turns)
      | else-call-number w ↦
          let done : HasMadeOwn (take k calls ++ call ∷ []) p = done_other (take k calls) call p (λ e. w.if-call-number.false (e ∙ (number ∙ sym c.number-number.ensures))) inv.3 in
          let made : c.if-call-number.made ≤ k + 1 = search rules in
          subst (λ (z : PassState). IsPassOf c.args.pool.now z × (z.number ≡ c.args.pass.now.number) × (c.if-call-number.made ≤ k + 1) × HasMadeOwn (take (k + 1) calls) z × HasTurns (k + 1) z) (sym w.pass-is)
          (inv.0, number, made, subst (λ (l : List TraceCall). HasMadeOwn l p) next done, turns_other k p inv.4)
    ]
