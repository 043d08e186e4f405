use Rattle.unit_map.proofs.BlockRows.{none_held, first_is_held}
use Rattle.unit_map.proofs.block_row.first_held.Goals as goal

pub returns-in_err-held : goal.returns-in_err-held
returns-in_err-held c = rw c.from_residual.ensures (none_held c.args.words.now c.args.row c.requires.some c.args.from c.in_err-held.ensures)

pub returns : goal.returns
returns c = first_is_held c.args.words.now c.args.row c.requires.some c.args.from c.in_ok-held.held c.in_ok-held.ensures
