use Rattle.std.proofs.Common.{◌≡◌, ◌∙◌, ◌+◌, ◌∷◌, [], ap, sym, subst, length, List, arith, length-append}
use Rattle.arena_core.specs.Arena.{ArenaState}
use Rattle.nvheap.proofs.Common.{pool_of, header_for, IsNewArena, AreNew, EachFrom-more}
use Rattle.nvheap.proofs.reporting.take_arenas.Goals as goal

pub loop-number-preserved : goal.loop-number-preserved
loop-number-preserved g c =
    let pool = pool_of c.args.trace.now in
    let arenas : List ArenaState = c.loop-number.arenas.items in
    let last : ArenaState = c.in_ok-new_arena.field-0 in
    let here : c.loop-number.number ≡ 0 + length arenas = let all = c.loop-number.invariant.all in omega (arith, all) in
    let many = ap length c.in_ok-push.ensures.items ∙ length-append arenas (last ∷ []) in
    record {
      all = let all = c.loop-number.invariant.all in omega (arith, many, all);
      new = subst (AreNew pool 0) (sym c.in_ok-push.ensures.items) (EachFrom-more (λ n a. IsNewArena (header_for pool n) a) 0 arenas last c.loop-number.invariant.new (subst (λ n. IsNewArena (header_for pool n) last) here c.in_ok-new_arena.ensures));
      places = c.in_ok-device.ensures.places ∙ c.loop-number.invariant.places;
      images = c.in_ok-device.ensures.images ∙ c.loop-number.invariant.images;
    }
