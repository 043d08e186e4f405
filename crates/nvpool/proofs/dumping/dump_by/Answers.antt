use Rattle.std.proofs.Common.{refl, inl}
use Rattle.nvpool.specs.declared.cause.Cause.TheVariants.{Image, NoArena}
use Rattle.nvpool.specs.Dumping.{dumping_by}
use Rattle.nvpool.proofs.Answering.{refused_image}
use Rattle.nvpool.proofs.Dumps.{arena_answer}
use Rattle.nvpool.proofs.dumping.dump_by.Goals as goal

pub returns-in-Err : goal.returns-in-Err
returns-in-Err g c =
    refused_image (dumping_by g.V.Variant.rules c.args.arena c.args.root) c.args.words.now c.args.bytes (Image c.in-Err.found.arena c.in-Err.found.defect) c.fault_line.result (λ image are. inl (c.in-Err.ensures.defect image are)) c.fault_line.ensures

pub returns-then-arena-header : goal.returns-then-arena-header
returns-then-arena-header g c =
    let header = c.in-Ok.header in
    refused_image (dumping_by g.V.Variant.rules c.args.arena c.args.root) c.args.words.now c.args.bytes (NoArena c.args.arena header.arenas) c.fault_line-then-arena-header.result
    (λ image are. (refl, record { words = c.args.words.now; header = header; image = c.in-Ok.ensures.image image are; all = refl; outside = c.if-arena-header.true }))
    c.fault_line-then-arena-header.ensures

pub returns : goal.returns
returns g c =
    arena_answer g.V.Variant.rules c.args.words.now c.parts.result.now c.args.arena c.args.root c.in-Ok.header c.if-arena-header.false c.parts.ensures c.args.bytes c.dump_arena.result c.requires.lines c.in-Ok.ensures.image c.dump_arena.ensures
