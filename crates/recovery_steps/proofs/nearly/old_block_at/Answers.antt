use Rattle.std.proofs.Common.{◌≡◌, ◌<◌, sym, subst, ◌∙◌, arith}
use Rattle.size_classes.specs.Classes.{class_capacity}
use Rattle.recovery_steps.proofs.Common.{tables_of, slab_fields, slab_block}
use Rattle.recovery_steps.proofs.Arenas.{slab_at}
use Rattle.recovery_steps.proofs.nearly.old_block_at.Goals as goal

pub state_field-old-requires-clause-slab : goal.state_field-old-requires-clause-slab
state_field-old-requires-clause-slab c = slab_at c.args.words.now c.requires.image c.args.start c.requires.slab

pub number_at-requires-clause-slab : goal.number_at-requires-clause-slab
number_at-requires-clause-slab c = slab_at c.args.words.now c.requires.image c.args.start c.requires.slab

pub block_at-requires-clause-class : goal.block_at-requires-clause-class
block_at-requires-clause-class c =
    let valid = c.requires.image.sound.slabs c.args.start c.requires.slab in
    omega (arith, valid.state.is_old_class, c.state_field-old.ensures, (slab_fields c.args.words.now c.args.start).old)

pub block_at-requires-clause-block : goal.block_at-requires-clause-block
block_at-requires-clause-block c =
    let words = c.args.words.now in
    let valid = c.requires.image.sound.slabs c.args.start c.requires.slab in
    let old : ((tables_of words).header c.args.start).old ≡ c.state_field-old.result = (slab_fields words c.args.start).old ∙ sym c.state_field-old.ensures in
    subst (λ n. n < class_capacity c.state_field-old.result) (sym c.number_at.ensures)
    (subst (λ o. ((tables_of words).header c.args.start).number c.args.place < class_capacity o) old (valid.small c.args.place c.requires.place))

pub returns : goal.returns
returns c =
    let words = c.args.words.now in
    let old : c.state_field-old.result ≡ ((tables_of words).header c.args.start).old = c.state_field-old.ensures ∙ sym (slab_fields words c.args.start).old in
    c.block_at.ensures ∙ (λ i. (slab_block c.args.start (old i) (c.number_at.ensures i)).at)
