use Rattle.std.proofs.Common.{rules, ◌≡◌, ℕ, ◌<◌, ◌++◌, ◌∙◌, ap, sym, subst, length, List}
use Rattle.shared_pool.proofs.Common.{Known, AllAt, Covers, AllFit, TableId, Entry, Opening, AllBelow, IsBehind, ArenaState}
use Rattle.shared_pool.specs.Closed.{AllAgree}
use Rattle.shared_pool.specs.Rows.{heads, AllLong, HeadsBelong}
use Rattle.shared_pool.proofs.Closings.{long_of, at_heads, some_heads, covers_heads, agree_heads, below_since}
use Rattle.shared_pool.proofs.FreshPasses.{no_items}
use Rattle.shared_pool.proofs.closing.close_first.Goals as goal

pub column-requires-clause-long : goal.column-requires-clause-long
column-requires-clause-long g c = subst AllLong (sym c.as_mut_slice.ensures.value) (long_of _ c.requires.fits.0 c.args.passes.now.items c.requires.fits.1)

pub close-requires-clause-some : goal.close-requires-clause-some
close-requires-clause-some g c =
    let empty : length c.args.row.items ≡ 0 = search rules in
    let row : c.column.new.seats.items ≡ heads c.args.passes.now.items = c.column.ensures.seats ∙ (ap (λ l. l ++ heads c.as_mut_slice.result.now) (sym (no_items c.args.row.items empty)) ∙ ap heads c.as_mut_slice.ensures.value) in
    subst (λ (l : List Known). 0 < length l) (sym row) (some_heads _ c.requires.fits.0 c.args.passes.now.items c.requires.some c.requires.fits.1)

pub close-requires-clause-lock : goal.close-requires-clause-lock
close-requires-clause-lock g c =
    let empty : length c.args.row.items ≡ 0 = search rules in
    let row : c.column.new.seats.items ≡ heads c.args.passes.now.items = c.column.ensures.seats ∙ (ap (λ l. l ++ heads c.as_mut_slice.result.now) (sym (no_items c.args.row.items empty)) ∙ ap heads c.as_mut_slice.ensures.value) in
    subst (λ (z : TableId × List Known). AllAt z.0 z.1) (λ i. (ap (λ l. l.id) (sym c.into_inner-lock.ensures) i, sym row i)) (at_heads _ c.requires.fits.0 c.args.passes.now.items c.requires.fits.1)

pub close-requires-clause-all : goal.close-requires-clause-all
close-requires-clause-all g c =
    let empty : length c.args.row.items ≡ 0 = search rules in
    let row : c.column.new.seats.items ≡ heads c.args.passes.now.items = c.column.ensures.seats ∙ (ap (λ l. l ++ heads c.as_mut_slice.result.now) (sym (no_items c.args.row.items empty)) ∙ ap heads c.as_mut_slice.ensures.value) in
    subst (λ (z : ℕ × List Known). Covers z.0 z.1) (λ i. ((sym c.requires.new.1 ∙ ap (λ l. l.seats) (sym c.into_inner-lock.ensures)) i, sym row i))
    (covers_heads _ c.requires.fits.0 c.args.seats c.args.passes.now.items c.requires.fits.1 (subst HeadsBelong c.as_mut_slice.ensures.value c.column.ensures.belong) c.requires.all)

pub returns-clause-closed : goal.returns-clause-closed
returns-clause-closed g c =
    let P = c.args.passes.now.items in
    let empty : length c.args.row.items ≡ 0 = search rules in
    let row : c.column.new.seats.items ≡ heads P = c.column.ensures.seats ∙ (ap (λ l. l ++ heads c.as_mut_slice.result.now) (sym (no_items c.args.row.items empty)) ∙ ap heads c.as_mut_slice.ensures.value) in
    let opening = c.close.ensures.opening ∙ ap (λ l. l.opening) c.into_inner-lock.ensures in
    let journal = c.into_parts-arena.ensures.journal in
    let start = ap (λ l. l.start) c.into_inner-lock.ensures ∙ c.requires.new.0 in
    let count = ap (λ l. l.seats) c.into_inner-lock.ensures ∙ c.requires.new.1 in record {
      held = subst (λ (z : Opening × List Entry × ArenaState). IsBehind z.0 z.1 z.2) (λ i. (opening i, sym journal i, sym c.into_parts-arena.ensures.arena i)) c.into_parts-arena.ensures.held;
      below = subst (λ (z : ℕ × List Entry). AllBelow z.0 z.1) (λ i. (count i, sym journal i)) (below_since _ _ _ start c.close.ensures.since);
      agree = subst (λ (l : List Entry). AllAgree 0 P l) (sym journal)
          (agree_heads _ c.requires.fits.0 P c.close.result.journal c.requires.fits.1 (subst HeadsBelong c.as_mut_slice.ensures.value c.column.ensures.belong) (subst (λ l. AllFit c.close.result.journal l) row c.close.ensures.seats));
    }
