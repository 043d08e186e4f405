use Rattle.std.proofs.Common.{◌≡◌, ◌<◌, ◌∙◌, ap, sym, subst, arith}
use Rattle.defect_search.proofs.Common.{eqb-true, eq-eqb, slab_block, tables_of, slab_table}
use Rattle.defect_search.proofs.open_words.has_old_place.Goals as goal

pub returns : goal.returns
returns c =
    let t = tables_of c.args.words.now in
    let start = c.args.slab.start in
    let of = c.requires.slab.of in
    let old : (t.header start).old ≡ c.args.old = of.old ∙ c.requires.old in
    let entries : (t.header start).index_count ≡ c.args.entries = of.entries ∙ c.requires.entries in
    let here : c.block_at.result ≡ (slab_block start (t.header start).old ((t.header start).number c.args.place)).at =
    c.block_at.ensures ∙ ap (λ n. (slab_block start c.args.old n).at) c.number_at.ensures ∙ ap (λ o. (slab_block start o ((t.header start).number c.args.place)).at) (sym old) in (
      λ e. record {
        slab = slab_table c.args.words.now start ∙ c.requires.slab.at.slab;
        kind = of.kind ∙ c.requires.kind;
        below = subst (λ n. c.args.place < n) (sym entries) (omega arith);
        is = eqb-true c.args.at c.block_at.result e ∙ here;
      },
      λ block. eq-eqb c.args.at c.block_at.result (block.is ∙ sym here),
    )
