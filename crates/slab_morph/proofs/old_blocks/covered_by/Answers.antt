use Rattle.std.proofs.Common.{◌/◌, ◌<◌, ◌∙◌, subst, sym}
use Rattle.slab_morph.proofs.Common.{words_of, class_capacity, tables_of}
use Rattle.slab_morph.specs.Overlaps.{IsOverlapRange}
use Rattle.slab_morph.proofs.OldBlocks.{number_is, class_is, old_is, entries_is, small_is}
use Rattle.slab_morph.proofs.old_blocks.covered_by.Goals as goal

pub overlaps-requires-clause-number : goal.overlaps-requires-clause-number
overlaps-requires-clause-number g c =
    let words = words_of (g.P.Pmem.state c.args.p.now) in
    let says = c.state_at.ensures.says in
    let below = subst (λ n. c.args.place < n) (sym (entries_is words c.args.slab c.requires.here c.state_at.result says)) c.requires.place in
    subst (λ n. n < class_capacity c.fields_of-state.result.old) (sym c.number_at.ensures) (small_is words c.args.slab c.requires.here c.state_at.result says c.fields_of-state.result.old c.args.place c.fields_of-state.ensures.old below)

pub returns : goal.returns
returns g c =
    let words = words_of (g.P.Pmem.state c.args.p.now) in
    let says = c.state_at.ensures.says in
    let old = c.fields_of-state.ensures.old ∙ old_is words c.args.slab c.requires.here c.state_at.result says in
    let class = c.fields_of-state.ensures.class ∙ class_is words c.args.slab c.requires.here c.state_at.result says in
    let number = c.number_at.ensures ∙ number_is words c.args.slab c.requires.here c.args.place in
    subst (λ o. IsOverlapRange o (((tables_of words).header (c.args.slab / 16384)).number c.args.place) ((tables_of words).header (c.args.slab / 16384)).class c.overlaps.result.0 c.overlaps.result.1) old
    (subst (λ n. IsOverlapRange c.fields_of-state.result.old n ((tables_of words).header (c.args.slab / 16384)).class c.overlaps.result.0 c.overlaps.result.1) number
    (subst (λ k. IsOverlapRange c.fields_of-state.result.old c.number_at.result k c.overlaps.result.0 c.overlaps.result.1) class c.overlaps.ensures))
