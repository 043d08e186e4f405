use Rattle.std.proofs.Common.{◌≡◌, ◌+◌, List, length, take, get_or, ap, sym, subst, ◌∙◌, arith}
use Rattle.dict_runs.proofs.Common.{take_all, length-map, bounds_for, DictCall, call_of, calls_of}
use Rattle.dict_text.specs.declared.script.ScriptCall.TheVariants as said
use Rattle.dict_runs.specs.Making.{came_to}
use Rattle.dict_runs.specs.Scripts.{header_of}
use Rattle.dict_runs.specs.Turns.{HasMade}
use Rattle.dict_runs.specs.Watching.{IsWatched, ChangesNothing}
use Rattle.dict_runs.proofs.Runs.{next_call, same_call, ready_at}
use Rattle.dict_runs.proofs.Searches.{IsSeeking, seeking_none, seeking_more, seeking_taken, none_of, found_next, past_all}
use Rattle.dict_runs.proofs.crashing.seek_in.Goals as goal

pub loop-i-init : goal.loop-i-init
loop-i-init c = seeking_none c.args.script.now.granules c.args.dict.now c.args.watch c.requires.new c.requires.image

pub make_call-requires-clause-ready : goal.make_call-requires-clause-ready
make_call-requires-clause-ready c =
    let so_far = c.loop-i.invariant.so_far in
    ready_at (bounds_for (header_of c.args.script.now.granules)) so_far.to c.loop-i.i c.loop-i.dict (omega (arith, c.loop-i-test.true, c.deref-call-items.ensures.len)) so_far.at

pub returns-in-Some : goal.returns-in-Some
returns-in-Some c =
    let script = c.args.script.now in
    let i = c.loop-i.i in
    let seeking = c.loop-i.invariant in
    let reply = came_to c.make_call.new.dict.pairs c.in_ok-make_call.field-0 in
    let looked = same_call script.values.items c.deref.result.now script.calls.items c.deref-call-items.result.now i (said.Put 0 0 0) c.deref.ensures.value c.deref-call-items.ensures.value in
    let call = same_call script.values.items c.deref-in-loop-i.result.now script.calls.items c.deref-call-items.result.now i (said.Put 0 0 0) c.deref-in-loop-i.ensures.value c.deref-call-items.ensures.value in
    found_next script.granules c.args.watch.left c.args.watch.seed script i c.loop-i.dict c.make_call.new.dict c.loop-i.watch c.make_call.new.look reply c.changes_nothing-same.result c.in-Some.image
    (let same = ap length c.deref-call-items.ensures.value in omega (arith, c.loop-i-test.true, same)) seeking
    (subst (λ (asked : DictCall). HasMade IsWatched (bounds_for (header_of script.granules)) seeking.so_far.to i asked c.loop-i.dict c.loop-i.watch c.make_call.new.dict c.make_call.new.look reply) call
    (c.in_ok-make_call.ensures.made (bounds_for (header_of script.granules)) seeking.so_far.to i seeking.so_far.at))
    (sym c.take.ensures.value ∙ c.in-Some.is)
    (λ same. subst (ChangesNothing c.loop-i.dict.pairs) looked (c.changes_nothing-same.ensures.0 same))
    (λ changes. c.changes_nothing-same.ensures.1 (subst (ChangesNothing c.loop-i.dict.pairs) (sym looked) changes))

pub loop-i-preserved : goal.loop-i-preserved
loop-i-preserved c =
    let script = c.args.script.now in
    let i = c.loop-i.i in
    let seeking = c.loop-i.invariant in
    let reply = came_to c.make_call.new.dict.pairs c.in_ok-make_call.field-0 in
    let asked = call_of script.values.items (get_or script.calls.items i (said.Put 0 0 0)) in
    let call = same_call script.values.items c.deref-in-loop-i.result.now script.calls.items c.deref-call-items.result.now i (said.Put 0 0 0) c.deref-in-loop-i.ensures.value c.deref-call-items.ensures.value in
    seeking_taken script.granules c.args.watch.left c.args.watch.seed (take (i + 1) (calls_of script)) c.make_call.new.dict (i + 1) c.make_call.new.look c.take.new.self c.take.ensures.after
    (subst (λ (cs : List DictCall). IsSeeking script.granules c.args.watch.left c.args.watch.seed cs c.make_call.new.dict (i + 1) c.make_call.new.look)
    (sym (next_call (call_of script.values.items) script.calls.items i (said.Put 0 0 0) (let same = ap length c.deref-call-items.ensures.value in omega (arith, c.loop-i-test.true, same))))
    (seeking_more script.granules c.args.watch.left c.args.watch.seed (take i (calls_of script)) asked c.loop-i.dict c.make_call.new.dict c.loop-i.watch c.make_call.new.look reply i seeking
    (subst (λ (asked : DictCall). HasMade IsWatched (bounds_for (header_of script.granules)) seeking.so_far.to i asked c.loop-i.dict c.loop-i.watch c.make_call.new.dict c.make_call.new.look reply) call
    (c.in_ok-make_call.ensures.made (bounds_for (header_of script.granules)) seeking.so_far.to i seeking.so_far.at))
    (sym c.take.ensures.value ∙ none_of c.take.result c.in_default.not-Some)))

pub returns : goal.returns
returns c =
    let script = c.args.script.now in
    let many = length-map script.calls.items (call_of script.values.items) in
    let all : take c.loop-i.i (calls_of script) ≡ calls_of script = take_all c.loop-i.i (calls_of script) (let same = ap length c.deref-call-items.ensures.value in omega (arith, c.loop-i-test.false, many, same)) in
    past_all script.granules c.args.watch.left c.args.watch.seed (calls_of script) c.loop-i.dict c.loop-i.i c.loop-i.watch
    (subst (λ (cs : List DictCall). IsSeeking script.granules c.args.watch.left c.args.watch.seed cs c.loop-i.dict c.loop-i.i c.loop-i.watch) all c.loop-i.invariant)
