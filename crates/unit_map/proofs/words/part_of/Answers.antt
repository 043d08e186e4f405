use Rattle.std.proofs.Common.{sym, subst}
use Rattle.unit_map.proofs.Masks.{AreChosen, chosen_on, chosen_off, part_is}
use Rattle.unit_map.proofs.words.part_of.Goals as goal
use Rattle.unit_map.proofs.words.part_of.Goals.{then-on, else-on}

pub returns : goal.returns
returns c =
    let are : AreChosen c.args.word c.args.on c.if-on.chosen = elim c.if-on.branch [
      | then-on w ↦ subst (AreChosen c.args.word c.args.on) (sym w.chosen-is) (chosen_on c.args.word c.args.on w.if-on.true)
      | else-on w ↦ subst (AreChosen c.args.word c.args.on) (sym w.chosen-is) (chosen_off c.args.word c.args.on c.ranges.word.fits w.if-on.false)
    ] in
    part_is c.args.word c.args.at c.args.from c.args.end c.if-on.chosen c.mask_of.result c.args.on are c.mask_of.ensures
