use Rattle.std.proofs.Common.{arith}
use Rattle.attach_dict.proofs.Layouts.{laid_out}
use Rattle.attach_dict.proofs.layout.lay_out.Goals as goal

pub returns : goal.returns
returns c = laid_out c.args.block.now c.args.value.now _ c.copy_from_slice.new.self c.args.key c.args.number (omega (arith, c.requires.wide)) c.copy_from_slice.ensures.after
