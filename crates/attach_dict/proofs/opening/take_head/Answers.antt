use Rattle.std.proofs.Common.{get_or}
use Rattle.std.proofs.lemmas.List.Elements.{Contains-get_or}
use Rattle.attach_dict.specs.declared.heads.Head.{Head}
use Rattle.attach_dict.proofs.Taken.{head_at, keys_above, root_fresh, root_out, taken_last, taken_passed}
use Rattle.attach_dict.proofs.opening.take_head.Goals as goal

abbrev any : Head
any = record { key = 0; number = 0; root = 0 }

pub push-requires-clause-above : goal.push-requires-clause-above
push-requires-clause-above c =
    let heads = c.args.heads.now in
    let at = head_at heads c.args.place any c.requires.inside in
    keys_above heads c.requires.order c.args.place (get_or heads c.args.place any) at c.args.index.now c.requires.taken (c.if-ends_key.ensures (get_or heads c.args.place any) at)

pub push-requires-clause-root : goal.push-requires-clause-root
push-requires-clause-root c = c.requires.places.keys (get_or c.args.heads.now c.args.place any) (Contains-get_or c.args.heads.now c.args.place any c.requires.inside)

pub push-requires-clause-fresh : goal.push-requires-clause-fresh
push-requires-clause-fresh c =
    let heads = c.args.heads.now in
    root_fresh heads c.requires.order c.args.place (get_or heads c.args.place any) (head_at heads c.args.place any c.requires.inside) c.args.index.now c.requires.taken

pub add-requires-clause-low : goal.add-requires-clause-low
add-requires-clause-low c = c.requires.places.stale (get_or c.args.heads.now c.args.place any) (Contains-get_or c.args.heads.now c.args.place any c.requires.inside)

pub add-requires-clause-out : goal.add-requires-clause-out
add-requires-clause-out c =
    let heads = c.args.heads.now in
    root_out heads c.requires.order c.args.place (get_or heads c.args.place any) (head_at heads c.args.place any c.requires.inside) c.args.index.now c.requires.taken

pub returns-then-ends_key-clause-taken : goal.returns-then-ends_key-clause-taken
returns-then-ends_key-clause-taken c =
    let heads = c.args.heads.now in
    let at = head_at heads c.args.place any c.requires.inside in
    taken_last heads c.requires.order c.args.place (get_or heads c.args.place any) at c.args.index.now c.requires.taken c.push.new.self (c.if-ends_key.ensures (get_or heads c.args.place any) at) c.push.ensures

pub returns-else-ends_key-clause-taken : goal.returns-else-ends_key-clause-taken
returns-else-ends_key-clause-taken c =
    let heads = c.args.heads.now in
    let at = head_at heads c.args.place any c.requires.inside in
    taken_passed heads c.requires.order c.args.place (get_or heads c.args.place any) at c.args.index.now c.requires.taken c.add.new.self (c.if-ends_key.ensures (get_or heads c.args.place any) at) c.add.ensures
