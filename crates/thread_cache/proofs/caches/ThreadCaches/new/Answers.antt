use Rattle.std.proofs.Common.{◌*◌, sym, ap, ◌∙◌, subst, arith, List, ℕ}
use Rattle.thread_cache.specs.Stacks.{stacks_of}
use Rattle.heap_model.specs.Placement.{AreDistinct}
use Rattle.heap_model.proofs.Distinct.{AreDistinct-none}
use Rattle.thread_cache.specs.Kept.{table_of}
use Rattle.thread_cache.proofs.Tables.{stacks-empty, IsKept-empty}
use Rattle.thread_cache.proofs.caches.ThreadCaches.new.Goals as goal

pub invariant_of-result : goal.invariant_of-result
invariant_of-result c =
    IsKept-empty (64 * c.from.result) 36 c.in_ok-stacks.stacks.items c.in_ok-seats.seats.items c.in_ok-stacks.ensures (c.in_ok-seats.ensures.items_if_clones_equal (λ y h. h)) (omega (arith, c.from.ensures)) (omega arith)

pub returns-clause-stacks : goal.returns-clause-stacks
returns-clause-stacks c = ap (λ (lists : List (List ℕ)). stacks_of (table_of lists)) c.in_ok-stacks.ensures ∙ stacks-empty (64 * c.from.result)

pub returns-clause-distinct : goal.returns-clause-distinct
returns-clause-distinct c =
    subst AreDistinct (sym (ap (λ (lists : List (List ℕ)). stacks_of (table_of lists)) c.in_ok-stacks.ensures ∙ stacks-empty (64 * c.from.result))) AreDistinct-none
