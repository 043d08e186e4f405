use Rattle.std.proofs.Common.{◌/◌, ℕ, not, sym, subst, arith}
use Rattle.thread_cache.specs.Stacks.{stacks_of}
use Rattle.heap_model.specs.Placement.{AreDistinct}
use Rattle.heap_model.specs.Slabs.{is_within}
use Rattle.heap_model.proofs.Distinct.{AreDistinct-keeping}
use Rattle.thread_cache.proofs.Tables.{distinct_of}
use Rattle.thread_cache.proofs.Purges.{purged_no_class, purged_class, purged_all}
use Rattle.thread_cache.proofs.caches.ThreadCaches.purge_slab.Goals as goal

pub loop-class-init : goal.loop-class-init
loop-class-init c = purged_no_class (c.args.slab / 16384) (stacks_of c.args.self.now)

pub loop-class-preserved : goal.loop-class-preserved
loop-class-preserved c = purged_class c.loop-class.class c.loop-class.invariant c.purge_class.ensures

pub returns-clause-stacks : goal.returns-clause-stacks
returns-clause-stacks c = purged_all c.args.self.now c.loop-class.class (omega arith) c.loop-class.invariant

pub returns-clause-distinct : goal.returns-clause-distinct
returns-clause-distinct c =
    subst AreDistinct (sym (purged_all c.args.self.now c.loop-class.class (omega arith) c.loop-class.invariant))
    (AreDistinct-keeping (distinct_of c.self.view_is c.self.invariant) (λ (at : ℕ). not (is_within (c.args.slab / 16384) at)))
