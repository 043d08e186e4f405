use Rattle.std.proofs.Common.{◌≡◌, ◌+◌, List, length, take, get_or, ap, sym, subst, arith}
use Rattle.dict_runs.proofs.Common.{⊤, take_all, length-map, bounds_for, DictCall, call_of, calls_of}
use Rattle.dict_text.specs.declared.script.ScriptCall.TheVariants as said
use Rattle.dict_runs.specs.Making.{came_to}
use Rattle.dict_runs.specs.Scripts.{header_of}
use Rattle.dict_runs.specs.Turns.{HasMade}
use Rattle.dict_runs.proofs.Runs.{IsWrittenSoFar, written_none, written_more, next_call, same_call, ready_at}
use Rattle.dict_runs.proofs.Reports.{reported}
use Rattle.dict_runs.proofs.running.report.Goals as goal

pub loop-call-init : goal.loop-call-init
loop-call-init g c = written_none c.args.script.now.granules c.args.dict.now c.args.out.now.items c.requires.new

pub make_call-requires-clause-ready : goal.make_call-requires-clause-ready
make_call-requires-clause-ready g c =
    let so_far = c.loop-call.invariant.so_far in
    ready_at (bounds_for (header_of c.args.script.now.granules)) so_far.to c.loop-call.call-index c.loop-call.dict (omega (arith, c.loop-call-test.true, c.deref-call-items.ensures.len)) so_far.at

pub loop-call-preserved : goal.loop-call-preserved
loop-call-preserved g c =
    let script = c.args.script.now in
    let i = c.loop-call.call-index in
    let so_far = c.loop-call.invariant.so_far in
    let reply = came_to c.make_call.new.dict.pairs c.in_ok-came.came in
    let asked = call_of script.values.items (get_or script.calls.items i (said.Put 0 0 0)) in
    let call = same_call script.values.items c.deref.result.now script.calls.items c.deref-call-items.result.now i (said.Put 0 0 0) c.deref.ensures.value c.deref-call-items.ensures.value in
    subst (λ (cs : List DictCall). IsWrittenSoFar script.granules cs c.make_call.new.dict (i + 1) c.args.out.now.items c.write_came.new.out.items)
    (sym (next_call (call_of script.values.items) script.calls.items i (said.Put 0 0 0) (let same = ap length c.deref-call-items.ensures.value in omega (arith, c.loop-call-test.true, same))))
    (written_more (λ _ _ _. ⊤) script.granules (take i (calls_of script)) asked c.loop-call.dict (record {}) c.make_call.new.dict c.make_call.new.look reply i c.args.out.now.items c.loop-call.out.items c.write_came.new.out.items c.loop-call.invariant
    (subst (λ (asked : DictCall). HasMade (λ _ _ _. ⊤) (bounds_for (header_of script.granules)) so_far.to i asked c.loop-call.dict (record {}) c.make_call.new.dict c.make_call.new.look reply) call
    (c.in_ok-came.ensures.made (bounds_for (header_of script.granules)) so_far.to i so_far.at))
    c.in_ok-write_came.ensures)

pub returns : goal.returns
returns g c =
    let script = c.args.script.now in
    let many = length-map script.calls.items (call_of script.values.items) in
    let all : take c.loop-call.call-index (calls_of script) ≡ calls_of script = take_all c.loop-call.call-index (calls_of script) (let same = ap length c.deref-call-items.ensures.value in omega (arith, c.loop-call-test.false, many, same)) in
    reported c.write_map.result script.granules (calls_of script) c.loop-call.dict c.loop-call.call-index c.args.out.now.items c.loop-call.out.items c.write_map.new.out.items
    (subst (λ (cs : List DictCall). IsWrittenSoFar script.granules cs c.loop-call.dict c.loop-call.call-index c.args.out.now.items c.loop-call.out.items) all c.loop-call.invariant) c.write_map.ensures
