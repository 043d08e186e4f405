use Rattle.std.proofs.Common.{Some, subst}
use Rattle.program_io.specs.Inputs.{HasRead, limit_of}
use Rattle.program_io.specs.declared.input.Kind.{Kind}
use Rattle.nvpool.specs.Command.{meaning_of}
use Rattle.nvpool.specs.Ends.{told_by}
use Rattle.nvpool.proofs.Endings.{ends_written}
use Rattle.nvpool.proofs.operating.carry_out.Goals as goal

pub returns-in-Ok-answer_to-clause-ends : goal.returns-in-Ok-answer_to-clause-ends
returns-in-Ok-answer_to-clause-ends g c =
    let told = told_by g.S.Source.left g.K.Sink.taken in
    let read = c.in-Ok.ensures.read in
    let all : HasRead (limit_of (Some (meaning_of c.args.command).reads)) (g.S.Source.left c.args.source.now) (g.S.Source.left c.read_input.new.source) read.bytes =
    subst (λ (kind : Kind). HasRead (limit_of (Some kind)) (g.S.Source.left c.args.source.now) (g.S.Source.left c.read_input.new.source) read.bytes) c.reads.ensures read.read in
    ends_written (meaning_of c.args.command) (told c.args.source.now c.args.sink.now) (told c.read_input.new.source c.write_answer.new.sink) read.bytes c.in-Ok-answer_to.answer c.write_answer.result all (c.in-Ok-answer_to.ensures read.bytes read.has) c.write_answer.ensures.written
