use Rattle.std.proofs.Common.{arith, take}
use Rattle.std.proofs.lemmas.List.{length-take, length-drop}
use Rattle.program_io.proofs.Bytes.{Takes-further, Takes-no_more, TakesFront-take}
use Rattle.program_io.proofs.output.write_all.Goals as goal

pub returns-in_default-clause-front : goal.returns-in_default-clause-front
returns-in_default-clause-front g c =
    let taken = g.K.Sink.taken in
    TakesFront-take (taken c.args.sink.now) (taken c.write.new.self) c.args.text.now c.loop-done.done
    (Takes-no_more (taken c.args.sink.now) (taken c.loop-done.sink) (taken c.write.new.self) (take c.loop-done.done c.args.text.now) c.loop-done.invariant.taken c.in_default.ensures.err)

pub loop-done-preserved : goal.loop-done-preserved
loop-done-preserved g c =
    let taken = g.K.Sink.taken in
    record {
      within = grind (arith, length-take, length-drop, c.in-Ok.ensures.count);
      taken = Takes-further (taken c.args.sink.now) (taken c.loop-done.sink) (taken c.write.new.self) c.args.text.now c.loop-done.done c.in-Ok.n c.loop-done.invariant.taken c.in-Ok.ensures.bytes;
      later = omega (arith, c.loop-done.invariant.later, c.in-Ok.ensures.later);
    }
