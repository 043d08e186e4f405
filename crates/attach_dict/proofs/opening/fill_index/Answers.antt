use Rattle.std.proofs.Common.{sym, ◌∙◌}
use Rattle.pmem_lines.specs.Pmem.{words_of}
use Rattle.attach_dict.proofs.Common.{bounds_of}
use Rattle.attach_dict.proofs.Openings.{scanned_of, or_some, fault_is, read_all, places_of, stage_low, stage_free, read_indexed}
use Rattle.attach_dict.proofs.Scans.{scanned_none}
use Rattle.attach_dict.proofs.Taken.{taken_none}
use Rattle.attach_dict.proofs.opening.fill_index.Goals as goal

pub read_heads-requires : goal.read_heads-requires
read_heads-requires g c =
    scanned_none (words_of c.args.arena.now.device) c.args.heads.now.items c.args.index.now c.requires.none c.requires.blank

pub sort-requires : goal.sort-requires
sort-requires g c = (scanned_of (words_of c.args.arena.now.device) c.read_heads.new.heads.items c.read_heads.new.index c.in_ok-unfit.unfit c.in_ok-unfit.ensures).apart

pub returns-in-Some-clause-fault : goal.returns-in-Some-clause-fault
returns-in-Some-clause-fault g c =
    fault_is (words_of c.args.arena.now.device) c.read_heads.new.heads.items c.sort.new.heads.items c.read_heads.new.index c.in_ok-unfit.unfit c.first_twice.result c.in-Some.root c.in_ok-unfit.ensures c.sort.ensures.same
    (rw c.deref.ensures.value at c.first_twice.ensures)
    (or_some c.first_twice.result c.in_ok-unfit.unfit c.in-Some.root (sym c.or.ensures ∙ c.in-Some.is))

pub take_heads-requires-clause-places : goal.take_heads-requires-clause-places
take_heads-requires-clause-places g c =
    let words = words_of c.args.arena.now.device in
    let heads = c.read_heads.new.heads.items in
    let sorted = c.sort.new.heads.items in
    let read = read_all words heads sorted c.read_heads.new.index c.in_ok-unfit.unfit c.first_twice.result c.in_ok-unfit.ensures (rw c.deref.ensures.value at c.first_twice.ensures) (sym c.or.ensures ∙ c.in_default.is) in
    rw c.deref-2.ensures.value (places_of words heads sorted c.read_heads.new.index c.sort.ensures.same read.0)

pub take_heads-requires-clause-none : goal.take_heads-requires-clause-none
take_heads-requires-clause-none g c =
    let words = words_of c.args.arena.now.device in
    let heads = c.read_heads.new.heads.items in
    let sorted = c.sort.new.heads.items in
    let read = read_all words heads sorted c.read_heads.new.index c.in_ok-unfit.unfit c.first_twice.result c.in_ok-unfit.ensures (rw c.deref.ensures.value at c.first_twice.ensures) (sym c.or.ensures ∙ c.in_default.is) in
    taken_none c.deref-2.result.now c.read_heads.new.index (bounds_of words).roots (bounds_of words).roots read.0.keys read.0.stale

pub take_stage-requires-clause-low : goal.take_stage-requires-clause-low
take_stage-requires-clause-low g c =
    let words = words_of c.args.arena.now.device in
    let heads = c.read_heads.new.heads.items in
    let sorted = c.sort.new.heads.items in
    let read = read_all words heads sorted c.read_heads.new.index c.in_ok-unfit.unfit c.first_twice.result c.in_ok-unfit.ensures (rw c.deref.ensures.value at c.first_twice.ensures) (sym c.or.ensures ∙ c.in_default.is) in
    let taken = rw c.deref-2.ensures.value at c.take_heads.ensures.taken in
    stage_low words c.requires.exact heads sorted c.read_heads.new.index c.take_heads.new.index c.sort.ensures.same c.sort.ensures.order read.0 read.1 taken c.take_heads.ensures.rest

pub take_stage-requires-clause-out : goal.take_stage-requires-clause-out
take_stage-requires-clause-out g c =
    let words = words_of c.args.arena.now.device in
    let heads = c.read_heads.new.heads.items in
    let sorted = c.sort.new.heads.items in
    let read = read_all words heads sorted c.read_heads.new.index c.in_ok-unfit.unfit c.first_twice.result c.in_ok-unfit.ensures (rw c.deref.ensures.value at c.first_twice.ensures) (sym c.or.ensures ∙ c.in_default.is) in
    let taken = rw c.deref-2.ensures.value at c.take_heads.ensures.taken in
    stage_free words c.requires.exact heads sorted c.read_heads.new.index c.take_heads.new.index c.sort.ensures.same c.sort.ensures.order read.0 read.1 taken c.take_heads.ensures.rest

pub returns-clause-indexed : goal.returns-clause-indexed
returns-clause-indexed g c =
    let words = words_of c.args.arena.now.device in
    let heads = c.read_heads.new.heads.items in
    let sorted = c.sort.new.heads.items in
    let read = read_all words heads sorted c.read_heads.new.index c.in_ok-unfit.unfit c.first_twice.result c.in_ok-unfit.ensures (rw c.deref.ensures.value at c.first_twice.ensures) (sym c.or.ensures ∙ c.in_default.is) in
    let taken = rw c.deref-2.ensures.value at c.take_heads.ensures.taken in
    read_indexed words c.requires.exact heads sorted c.read_heads.new.index c.take_heads.new.index c.sort.ensures.same c.sort.ensures.order read.0 read.1 taken c.take_heads.ensures.rest c.take_stage.new.index c.take_stage.ensures
