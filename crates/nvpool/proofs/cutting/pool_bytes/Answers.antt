use Rattle.std.proofs.Common.{◌≡◌, ◌∙◌, ◌++◌, ap, sym, length, drop, arith, length-append}
use Rattle.std.proofs.lemmas.List.{length-take-le}
use Rattle.trace_text.specs.Grammar.{pool_of}
use Rattle.nvpool.proofs.Cuts.{parts_more}
use Rattle.nvpool.proofs.cutting.pool_bytes.Goals as goal

pub loop-arena-preserved : goal.loop-arena-preserved
loop-arena-preserved c =
    let used = c.add_part.new.piece in
    let kept = c.add_part.ensures.piece in
    let full : c.loop-arena.piece.len ≡ 4096 = sym c.deref_mut.ensures.len ∙ ap length c.deref_mut.ensures.value ∙ c.loop-arena.invariant.piece in
    record {
      parts = parts_more (pool_of c.args.trace.now) c.args.trace.now.calls.items c.args.cut c.args.image.now c.loop-arena.arena c.loop-arena.bytes.items c.add_part.new.bytes.items c.loop-arena.invariant.parts c.in_ok-add_part.ensures.part;
      piece = length-take-le c.loop-arena.piece.len (used ++ drop (length used) c.loop-arena.piece.items) (omega (arith, length-append used (drop (length used) c.loop-arena.piece.items), kept, full)) ∙ full;
    }
