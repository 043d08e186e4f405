use Rattle.std.proofs.Common.{◌≡◌, sym, ◌∙◌, arith}
use Rattle.arena_core.proofs.Common.{words_of, tables_of}
use Rattle.arena_core.proofs.Tidying.{endable, tidied_none, tidied_dropped, done_here, class_left, tidied_ended}
use Rattle.arena_core.proofs.volatile.Volatile.tidy.Given as given
use Rattle.arena_core.proofs.volatile.Volatile.tidy.Goals as goal

pub end_transition-requires-clause-endable : goal.end_transition-requires-clause-endable
end_transition-requires-clause-endable g c = endable _ c.args.self.now c.args.start c.requires.untidy ((done_here (tables_of (words_of (g.P.Pmem.state c.args.device.now))) c.granule_at.ensures c.is_done.ensures).0 c.if-is_done.true)

pub returns-then-at-eq0-clause-tidied : goal.returns-then-at-eq0-clause-tidied
returns-then-at-eq0-clause-tidied g c =
    let drop = c.drop_slab.ensures in
    tidied_dropped _ c.args.self.now c.args.start c.requires.untidy (sym c.at.ensures ∙ c.if-at-eq0.true) _ drop.dropped drop.step drop.book c.give.ensures.granules c.give.ensures.free c.remove.ensures c.drop_normal.ensures.counts c.drop_normal.ensures.normal c.drop_normal.ensures.unfit

-- the slab's class, as it was read behind the end of its transition
left : (g : given.Over) (c : goal.After-class_at g) → c.class_at.result ≡ ((tables_of (words_of (g.P.Pmem.state c.args.device.now))).header c.args.start).class
left g c =
    let done = (done_here (tables_of (words_of (g.P.Pmem.state c.args.device.now))) c.granule_at.ensures c.is_done.ensures).0 c.if-is_done.true in
    class_left _ c.args.self.now c.args.start c.requires.untidy (λ zero. c.if-at-eq0.false (c.at.ensures ∙ zero)) done _ c.end_transition.ensures.step c.end_transition.ensures.ended c.granule_at-then-is_done.ensures c.class_at.ensures

pub put_normal-requires-clause-class : goal.put_normal-requires-clause-class
put_normal-requires-clause-class g c = grind (arith, left)

pub returns-then-is_done-clause-tidied : goal.returns-then-is_done-clause-tidied
returns-then-is_done-clause-tidied g c =
    let done = (done_here (tables_of (words_of (g.P.Pmem.state c.args.device.now))) c.granule_at.ensures c.is_done.ensures).0 c.if-is_done.true in
    tidied_ended _ c.args.self.now c.args.start c.requires.untidy (λ zero. c.if-at-eq0.false (c.at.ensures ∙ zero)) done _ c.end_transition.ensures.step c.end_transition.ensures.ended c.put_normal.new.self c.put_normal.ensures.counts c.put_normal.ensures.normal c.put_normal.ensures.unfit (left g c.before)

pub returns-else-is_done-clause-tidied : goal.returns-else-is_done-clause-tidied
returns-else-is_done-clause-tidied g c = tidied_none _ c.args.self.now c.args.start c.requires.untidy (λ zero. c.if-at-eq0.false (c.at.ensures ∙ zero)) ((done_here (tables_of (words_of (g.P.Pmem.state c.args.device.now))) c.granule_at.ensures c.is_done.ensures).1 c.if-is_done.false)
