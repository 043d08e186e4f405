use Rattle.std.proofs.Common.{◌≡◌, ◌∙◌, true, false, sym}
use Rattle.pmem_lines.specs.Pmem.{words_of}
use Rattle.uses.proofs.Counted.{counted_stack, none_else}
use Rattle.uses.proofs.Removing.{opened_tidied, kept_tidied}
use Rattle.uses.proofs.stack.RecordStack.over.Goals as goal

pub returns-then-not-are_none-clause-no_stack : goal.returns-then-not-are_none-clause-no_stack
returns-then-not-are_none-clause-no_stack g c = λ holds.
    let some : c.are_none.result ≡ true = c.are_none.ensures.1 (none_else (words_of c.args.arena.device) c.leading_blocks-depth.result c.leading_blocks-depth.ensures holds) in
    let none : c.are_none.result ≡ false = c.if-not-are_none.true in
    let apart : true ≡ false = sym some ∙ none in absurd (cc apart)

pub invariant_of-result : goal.invariant_of-result
invariant_of-result g c =
    kept_tidied c.args.arena c.clear_stage.new.arena c.leading_blocks-depth.result c.leading_blocks-depth.ensures (c.are_none.ensures.0 c.if-not-are_none.false) c.clear_stage.ensures

pub returns-clause-stack : goal.returns-clause-stack
returns-clause-stack g c = record {
  records = _;
  stack = counted_stack (words_of c.args.arena.device) c.leading_blocks-depth.result c.leading_blocks-depth.ensures (c.are_none.ensures.0 c.if-not-are_none.false);
}

pub returns-clause-opened : goal.returns-clause-opened
returns-clause-opened g c =
    opened_tidied c.args.arena c.clear_stage.new.arena c.leading_blocks-depth.result c.leading_blocks-depth.ensures (c.are_none.ensures.0 c.if-not-are_none.false) c.clear_stage.ensures

pub returns-clause-kept : goal.returns-clause-kept
returns-clause-kept g c =
    kept_tidied c.args.arena c.clear_stage.new.arena c.leading_blocks-depth.result c.leading_blocks-depth.ensures (c.are_none.ensures.0 c.if-not-are_none.false) c.clear_stage.ensures
