use Rattle.std.proofs.Common.{sym, ap, subst, ◌∙◌, Some}
use Rattle.recovery_steps.proofs.Common.{WalEntry, tables_of, LiesInSlab}
use Rattle.recovery_steps.proofs.OpenEntries.{lies_with}
use Rattle.recovery_steps.proofs.open_entry.slab_with.Goals as goal

pub returns-in-Place : goal.returns-in-Place
returns-in-Place c = λ words image reads opens.
    let p = c.in-Place in
    subst (LiesInSlab (tables_of words) c.slab_of.result) (sym p.is)
    (lies_with words p.root p.at p.place p.old c.slab_of.result image (opens ∙ ap (λ (e : WalEntry). Some e) p.is) (c.slab_of.ensures words reads))
