use Rattle.std.proofs.Common.{sym, ◌∙◌}
use Rattle.recovery_steps.proofs.Common.{false≢true, slab_table, slab_fields}
use Rattle.recovery_steps.proofs.Arenas.{slab_at}
use Rattle.recovery_steps.proofs.nearly.is_nearly_done.Goals as goal

pub returns-then-not-is_slab : goal.returns-then-not-is_slab
returns-then-not-is_slab c = (
  λ e. absurd (false≢true e),
  λ near. sym c.if-not-is_slab.true ∙ c.is_slab.ensures c.args.words.now c.requires.book.reads ∙ sym (slab_table c.args.words.now c.args.start) ∙ near.slab,
)

pub state_field-requires-clause-slab : goal.state_field-requires-clause-slab
state_field-requires-clause-slab c =
    slab_at c.args.words.now c.requires.image c.args.start
    (slab_table c.args.words.now c.args.start ∙ sym (c.is_slab.ensures c.args.words.now c.requires.book.reads) ∙ c.if-not-is_slab.false)

pub returns-then-state_field-eq-NORMAL : goal.returns-then-state_field-eq-NORMAL
returns-then-state_field-eq-NORMAL c = (
  λ e. absurd (false≢true e),
  λ near. absurd (near.kind ((slab_fields c.args.words.now c.args.start).kind ∙ sym c.state_field.ensures ∙ c.if-state_field-eq-NORMAL.true)),
)

pub are_leaving-requires-clause-slab : goal.are_leaving-requires-clause-slab
are_leaving-requires-clause-slab c = slab_table c.args.words.now c.args.start ∙ sym (c.is_slab.ensures c.args.words.now c.requires.book.reads) ∙ c.if-not-is_slab.false

pub returns : goal.returns
returns c = (
  λ e. record {
    slab = slab_table c.args.words.now c.args.start ∙ sym (c.is_slab.ensures c.args.words.now c.requires.book.reads) ∙ c.if-not-is_slab.false;
    kind = λ normal. c.if-state_field-eq-NORMAL.false (c.state_field.ensures ∙ sym (slab_fields c.args.words.now c.args.start).kind ∙ normal);
    none = c.are_leaving.ensures.0 e;
  },
  λ near. c.are_leaving.ensures.1 near.none,
)
