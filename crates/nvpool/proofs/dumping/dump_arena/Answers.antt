use Rattle.std.proofs.Common.{refl}
use Rattle.nvpool.specs.declared.cause.Cause.TheVariants.{Image, NoBlock}
use Rattle.nvpool.specs.Dumping.{HasNoBlock}
use Rattle.nvpool.proofs.Dumps.{dumped, not_dumped}
use Rattle.nvpool.proofs.dumping.dump_arena.Goals as goal

pub returns-in-Ok-Some : goal.returns-in-Ok-Some
returns-in-Ok-Some g c = dumped g.V.Variant.rules c.args.words.now c.args.arena c.args.root c.dump_block.result c.dump_block.ensures

pub returns-in-Ok-None : goal.returns-in-Ok-None
returns-in-Ok-None g c =
    let none : HasNoBlock g.V.Variant.rules.maps c.args.words.now c.args.root = record { sound = c.in-Ok-None.ensures.sound; none = rw c.in-Ok-None.field-0-is at c.in-Ok-None.ensures.block } in
    not_dumped g.V.Variant.rules c.args.words.now c.args.arena c.args.root (NoBlock c.args.arena c.args.root) c.fault_line.result (refl, refl, none) c.fault_line.ensures

pub returns-in-Err-Defect : goal.returns-in-Err-Defect
returns-in-Err-Defect g c =
    not_dumped g.V.Variant.rules c.args.words.now c.args.arena c.args.root (Image c.args.arena c.in-Err-Defect.defect) c.fault_line-in-Err-Defect.result (refl, rw c.in-Err-Defect.field-0-is at c.in-Err-Defect.ensures.defect) c.fault_line-in-Err-Defect.ensures

pub dump_block-requires-clause-block : goal.dump_block-requires-clause-block
dump_block-requires-clause-block g c = rw c.in-Ok-Some.field-0-is at c.in-Ok-Some.ensures.block
