use Rattle.std.proofs.Common.{◌≡◌, ◌+◌, ◌<◌, ◌≤◌, Result, Err, refl, sym, ap, ◌∙◌, subst, arith}
use Rattle.std.proofs.lemmas.Result.{err_from_is_err_and}
use Rattle.uses.specs.Stack.{stage, StackState}
use Rattle.uses.specs.Calls.{HasPushed, IsPushedBy}
use Rattle.uses.specs.declared.refusal.PushRefusal.{PushRefusal}
use Rattle.uses.proofs.Pushing.{state_of, refused_by, full_count, block_full, none_full, pushed, kept_pushed}
use Rattle.uses.proofs.stack.RecordStack.push.Goals as goal

pub returns-then-self-stage-clause-pushed : goal.returns-then-self-stage-clause-pushed
returns-then-self-stage-clause-pushed g c =
    let from : stage ≤ c.self.inside.depth = omega (arith, c.if-self-stage.true, c.stage.ensures) in
    (rw (← c.self.view_is) (full_count c.self.inside.arena c.self.inside.depth c.self.invariant from), refl)

pub returns-in_err-take_block-clause-pushed : goal.returns-in_err-take_block-clause-pushed
returns-in_err-take_block-clause-pushed g c =
    let low : c.self.inside.depth < stage = omega (arith, c.if-self-stage.false, c.stage.ensures) in
    let p = err_from_is_err_and c.from_residual.result c.from_residual.ensures.1 in
    let is : c.from_residual.result ≡ Err c.in_err-take_block.field-0.0 = p.1 ∙ ap Err p.2 in
    subst (λ (s : StackState). IsPushedBy s (state_of c.take_block.new.arena c.self.inside.depth) c.args.words.now c.from_residual.result) c.self.view_is
    (subst (λ (r : Result (Unit {0}) PushRefusal). IsPushedBy (state_of c.self.inside.arena c.self.inside.depth) (state_of c.take_block.new.arena c.self.inside.depth) c.args.words.now r) (sym is)
    (refused_by c.self.inside.arena c.self.inside.depth c.self.invariant c.take_block.new.arena c.args.words.now c.in_err-take_block.field-0.0 low c.in_err-take_block.ensures))

pub show_block-requires-clause-block : goal.show_block-requires-clause-block
show_block-requires-clause-block g c =
    let low : c.self.inside.depth < stage = omega (arith, c.if-self-stage.false, c.stage.ensures) in
    block_full c.self.inside.arena c.self.inside.depth c.self.invariant c.take_block.new.arena c.fill_block.new.arena c.args.words.now c.told-words low c.in_ok-take_block.ensures c.fill_block.ensures

pub show_block-requires-clause-none : goal.show_block-requires-clause-none
show_block-requires-clause-none g c =
    let low : c.self.inside.depth < stage = omega (arith, c.if-self-stage.false, c.stage.ensures) in
    none_full c.self.inside.arena c.self.inside.depth c.self.invariant c.take_block.new.arena c.fill_block.new.arena c.args.words.now c.told-words low c.in_ok-take_block.ensures c.fill_block.ensures

pub invariant_of-self-2 : goal.invariant_of-self-2
invariant_of-self-2 g c =
    let low : c.self.inside.depth < stage = omega (arith, c.if-self-stage.false, c.stage.ensures) in
    kept_pushed c.self.inside.arena c.self.inside.depth c.self.invariant c.take_block.new.arena c.fill_block.new.arena c.args.words.now c.told-words low c.in_ok-take_block.ensures c.fill_block.ensures c.show_block.new.arena c.show_block.ensures

pub returns-clause-pushed : goal.returns-clause-pushed
returns-clause-pushed g c =
    let low : c.self.inside.depth < stage = omega (arith, c.if-self-stage.false, c.stage.ensures) in
    subst (λ (s : StackState). HasPushed s (state_of c.show_block.new.arena (c.self.inside.depth + 1)) c.args.words.now) c.self.view_is
    (pushed c.self.inside.arena c.self.inside.depth c.self.invariant c.take_block.new.arena c.fill_block.new.arena c.args.words.now c.told-words low c.in_ok-take_block.ensures c.fill_block.ensures c.show_block.new.arena c.show_block.ensures)

pub returns-clause-kept : goal.returns-clause-kept
returns-clause-kept g c =
    let low : c.self.inside.depth < stage = omega (arith, c.if-self-stage.false, c.stage.ensures) in
    kept_pushed c.self.inside.arena c.self.inside.depth c.self.invariant c.take_block.new.arena c.fill_block.new.arena c.args.words.now c.told-words low c.in_ok-take_block.ensures c.fill_block.ensures c.show_block.new.arena c.show_block.ensures
