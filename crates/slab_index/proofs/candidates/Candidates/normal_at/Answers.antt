use Rattle.std.proofs.Common.{◌≡◌, ◌<◌, Option, Some, None, refl, sym, ap, ◌∙◌, arith}
use Rattle.slab_index.proofs.Common.{IfSome, get_or_read, get_or_past}
use Rattle.slab_index.specs.declared.candidates.NormalSlab.{NormalSlab}
use Rattle.slab_index.specs.Candidates.{normal_in}
use Rattle.slab_index.proofs.candidates.Candidates.normal_at.Goals as goal

pub returns-then-at-len-clause-slab : goal.returns-then-at-len-clause-slab
unfolding normal_in
returns-then-at-len-clause-slab c =
    get_or_read c.self.inside.normal.items c.args.start c.index.result.now (omega (arith, c.if-at-len.true, c.len.ensures)) c.index.ensures None ∙ ap (λ set. normal_in set c.args.start) c.self.view_is

pub returns-then-at-len-clause-known : goal.returns-then-at-len-clause-known
returns-then-at-len-clause-known c =
    known c.index.result.now (λ slab is. c.self.invariant.known c.args.start slab (sym (get_or_read c.self.inside.normal.items c.args.start c.index.result.now (omega (arith, c.if-at-len.true, c.len.ensures)) c.index.ensures None) ∙ is))
  where
    known : (slab : Option NormalSlab) → ((s : NormalSlab) → slab ≡ Some s → s.class < 36) → IfSome slab (λ s. s.class < 36)
    known None all = tt
    known (Some s) all = all s refl

pub returns-else-at-len-clause-slab : goal.returns-else-at-len-clause-slab
unfolding normal_in
returns-else-at-len-clause-slab c =
    sym (ap (λ set. normal_in set c.args.start) (sym c.self.view_is) ∙ get_or_past c.self.inside.normal.items c.args.start None (omega (arith, c.if-at-len.false, c.len.ensures)))
