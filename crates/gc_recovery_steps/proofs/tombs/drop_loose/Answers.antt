use Rattle.std.proofs.Common.{List, ℕ, subst}
use Rattle.pmem_lines.specs.Pmem.{words_of}
use Rattle.log_room.specs.Room.{most_events}
use Rattle.image_defects.specs.Least.{HasNone}
use Rattle.gc_check.specs.Heap.{gc_tables}
use Rattle.gc_recovery_steps.specs.Kinds.{IsLooseOf}
use Rattle.gc_recovery_steps.proofs.Kept.{droppable, rid_of, rid_self}
use Rattle.gc_recovery_steps.proofs.Parts.{part_none, part_one}
use Rattle.gc_recovery_steps.proofs.tombs.drop_loose.Goals as goal

pub drop_extent-requires-clause-droppable : goal.drop_extent-requires-clause-droppable
drop_extent-requires-clause-droppable g c =
    let here = subst (λ (ws : List ℕ). IsLooseOf c.args.kind (gc_tables ws) c.in-Some.start) c.all_words.ensures c.in-Some.ensures in
    droppable (words_of (g.P.Pmem.state c.args.p.now)) c.in-Some.start c.args.kind c.requires.image here

pub returns-in-Some-clause-part : goal.returns-in-Some-clause-part
returns-in-Some-clause-part g c =
    let here = subst (λ (ws : List ℕ). IsLooseOf c.args.kind (gc_tables ws) c.in-Some.start) c.all_words.ensures c.in-Some.ensures in
    let done = c.drop_extent.ensures in
    part_one c.args.kind (most_events (words_of (g.P.Pmem.state c.args.p.now))) c.in-Some.start here done.dropped.heap done.step done.most

pub returns-in-Some-clause-rid : goal.returns-in-Some-clause-rid
returns-in-Some-clause-rid g c =
    let here = subst (λ (ws : List ℕ). IsLooseOf c.args.kind (gc_tables ws) c.in-Some.start) c.all_words.ensures c.in-Some.ensures in
    rid_of (words_of (g.P.Pmem.state c.args.p.now)) (words_of (g.P.Pmem.state c.drop_extent.new.p)) c.in-Some.start c.args.kind c.requires.image here c.drop_extent.ensures.dropped

pub returns-in_default-clause-part : goal.returns-in_default-clause-part
returns-in_default-clause-part g c =
    let words = words_of (g.P.Pmem.state c.args.p.now) in
    let none = subst (λ (ws : List ℕ). HasNone (IsLooseOf c.args.kind (gc_tables ws))) c.all_words.ensures c.in_default.ensures in
    part_none c.args.kind (most_events words) c.requires.quiet c.requires.image none

pub returns-in_default-clause-rid : goal.returns-in_default-clause-rid
returns-in_default-clause-rid g c =
    let words = words_of (g.P.Pmem.state c.args.p.now) in
    rid_self words c.args.kind (subst (λ (ws : List ℕ). HasNone (IsLooseOf c.args.kind (gc_tables ws))) c.all_words.ensures c.in_default.ensures)
