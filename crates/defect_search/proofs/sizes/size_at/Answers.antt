use Rattle.std.proofs.Common.{◌≡◌, ◌<◌, ◌≤◌, ◌/◌, ◌∙◌, true≢false, sym, ap, ⊎_elim}
use Rattle.defect_search.proofs.Common.{cases_lt, tables_of, size_by, entry_at, entry_old, large_far}
use Rattle.defect_search.proofs.BlockSizes.{size_at-large, size_at-entry, size_at-other}
use Rattle.defect_search.proofs.sizes.size_at.Goals as goal

pub large_size-requires : goal.large_size-requires
large_size-requires c = ⊎_elim
    (λ (near : c.args.at / 16384 < 65536). near)
    (λ (far : 65536 ≤ c.args.at / 16384). absurd (true≢false (sym c.if-is_large.true ∙ c.is_large.ensures ∙ sym (large_far c.args.words.now c.args.at c.requires.extents far))))
    (cases_lt (c.args.at / 16384) 65536)

pub returns-then-is_large : goal.returns-then-is_large
returns-then-is_large c =
    c.large_size.ensures c.args.words.now c.requires.reads ∙ sym (size_at-large (tables_of c.args.words.now) c.args.root c.args.at (sym c.is_large.ensures ∙ c.if-is_large.true))

pub returns-then-open_at-at : goal.returns-then-open_at-at
returns-then-open_at-at c =
    let t = tables_of c.args.words.now in
    let none = sym c.is_large.ensures ∙ c.if-is_large.false in
    let named : entry_at t.open_entry c.args.root ≡ c.args.at = ap (λ e. entry_at e c.args.root) c.requires.entry ∙ sym c.open_at.ensures ∙ c.if-open_at-at.true in
    let old = c.is_open_old.ensures ∙ ap entry_old (sym c.requires.entry) in
    c.size_by.ensures ∙ ap (size_by t c.args.at) old ∙ sym (size_at-entry t c.args.root c.args.at none named c.requires.some)

pub returns : goal.returns
returns c =
    let t = tables_of c.args.words.now in
    let none = sym c.is_large.ensures ∙ c.if-is_large.false in
    let other = λ (named : entry_at t.open_entry c.args.root ≡ c.args.at). c.if-open_at-at.false (c.open_at.ensures ∙ sym (ap (λ e. entry_at e c.args.root) c.requires.entry) ∙ named) in
    c.size_by-2.ensures ∙ ap (size_by t c.args.at) c.is_old_at.ensures ∙ sym (size_at-other t c.args.root c.args.at none other)
