use Rattle.std.proofs.Common.{Result, subst}
use Rattle.attach_dict.proofs.Common.{BlockRefusal, IsWriteAnswered, write_ok}
use Rattle.attach_dict.specs.Dict.{stage}
use Rattle.attach_dict.proofs.Answered.{is_wrote, done_is}
use Rattle.attach_dict.proofs.steps.fill_block.Goals as goal

pub unwrap-requires : goal.unwrap-requires
unwrap-requires g c = write_ok c.write.result (is_wrote c.requires.room c.write.ensures)

pub returns : goal.returns
returns g c = subst (λ (r : Result (Unit {0}) BlockRefusal). IsWriteAnswered c.args.arena.now c.write.new.self stage 0 c.args.words.now r) (done_is c.write.result (write_ok c.write.result (is_wrote c.requires.room c.write.ensures))) c.write.ensures
