use Rattle.std.proofs.Common.{arith}
use Rattle.log_room.proofs.census.needless_among.Goals as goal

pub blank_slots-slots-requires : goal.blank_slots-slots-requires
blank_slots-slots-requires g c = omega (arith, c.requires.small)

pub whole_as_slice-first_noted : goal.whole_as_slice-first_noted
whole_as_slice-first_noted g c = omega (arith, c.requires.small)
