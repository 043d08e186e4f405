use Rattle.std.proofs.Common.{◌∷◌, ◌++◌, [], ap, sym, subst, length, ◌∙◌, drop, map, arith, length-append, ◌≡◌}
use Rattle.nvheap.proofs.Common.{length-take-le, pool_of}
use Rattle.nvheap.specs.Imaging.{AreRunThrough, images_of}
use Rattle.nvheap.proofs.Devices.{AreRunThrough-pushed, images_of-more}
use Rattle.nvheap.proofs.imaging.run_arenas.Goals as goal

pub loop-arena-preserved : goal.loop-arena-preserved
loop-arena-preserved g c =
    let state = g.H.Device.Pmem.state in
    let pool = pool_of c.args.trace.now in
    let calls = c.args.trace.now.calls.items in
    let devices = c.loop-arena.devices.items in
    let last = c.in_ok-device.device in
    let pushed = c.in_ok-push.ensures.items in
    let many = ap length pushed ∙ length-append devices (last ∷ []) in
    let used = c.run_arena.new.piece in
    let kept = c.in_ok-device.ensures.piece in
    let full : c.loop-arena.piece.len ≡ 4096 = sym c.deref_mut.ensures.len ∙ ap length c.deref_mut.ensures.value ∙ c.loop-arena.invariant.piece in
    record {
      all = let all = c.loop-arena.invariant.all in omega (arith, many, all);
      runs = subst (λ ds. AreRunThrough pool calls 0 (map state ds)) (sym pushed) (AreRunThrough-pushed state pool calls devices last c.loop-arena.arena c.loop-arena.invariant.all c.loop-arena.invariant.runs c.in_ok-device.ensures.run);
      bytes = subst (λ ds. c.run_arena.new.bytes.items ≡ images_of (map state ds)) (sym pushed) (images_of-more state devices last c.loop-arena.bytes.items c.run_arena.new.bytes.items c.loop-arena.invariant.bytes c.in_ok-device.ensures.bytes);
      piece = length-take-le c.loop-arena.piece.len (used ++ drop (length used) c.loop-arena.piece.items) (omega (arith, length-append used (drop (length used) c.loop-arena.piece.items), kept, full)) ∙ full;
      places = c.in_ok-device.ensures.places ∙ c.loop-arena.invariant.places;
      images = c.in_ok-device.ensures.images ∙ c.loop-arena.invariant.images;
    }
