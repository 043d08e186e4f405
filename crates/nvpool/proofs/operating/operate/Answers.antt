use Rattle.std.proofs.Common.{map}
use Rattle.std.specs.String.{string_bytes}
use Rattle.program_io.specs.Streams.{Rose}
use Rattle.nvpool.specs.Ends.{told_by}
use Rattle.nvpool.proofs.Completeness.{completes}
use Rattle.nvpool.proofs.operating.operate.Goals as goal

pub returns-in-Some-clause-complete : goal.returns-in-Some-clause-complete
returns-in-Some-clause-complete g c =
    let told = told_by g.S.Source.left g.K.Sink.taken in
    completes (map string_bytes c.args.words.now) c.in-Some.command (told c.args.source.now c.args.sink.now) (told c.carry_out.new.source c.carry_out.new.sink) c.carry_out.result
    (Rose (g.S.Source.faults c.args.source.now) (g.S.Source.faults c.carry_out.new.source)) (Rose (g.K.Sink.faults c.args.sink.now) (g.K.Sink.faults c.carry_out.new.sink))
    c.in-Some.ensures c.carry_out.ensures.ends c.carry_out.ensures.read_fault c.carry_out.ensures.write_fault
