use Rattle.std.proofs.Common.{◌≡◌, ◌∙◌, ◌*◌, ◌++◌, List, ℕ, length, drop, ap, arith, subst, sym, length-append}
use Rattle.std.proofs.lemmas.List.{length-take-le}
use Rattle.pool_layout.specs.Image.{part_of}
use Rattle.pool_layout.proofs.Images.{length-part_of}
use Rattle.image_runs.specs.Repairs.{AddsPart}
use Rattle.image_runs.proofs.Faults.{wider}
use Rattle.image_runs.proofs.Repairs.{HasParts, no_parts, parts_more}
use Rattle.nvpool.specs.Telling.{HasUnsound, IsOwnDefect}
use Rattle.nvpool.proofs.Repairs.{parts_repaired}
use Rattle.nvpool.proofs.repairing.repair_arenas.Goals as goal

pub loop-arena-init : goal.loop-arena-init
loop-arena-init g c =
    let Is = g.V.Variant.rules.IsRepaired in
    record {
      done = subst (HasParts Is c.args.words.now c.args.header.now.granules 0) (sym c.in-Ok.ensures.bytes) (no_parts Is c.args.words.now c.args.header.now.granules);
      piece = c.in-Ok.ensures.piece;
    }

pub add_repair-requires-clause-whole : goal.add_repair-requires-clause-whole
add_repair-requires-clause-whole g c =
    let header = c.args.header.now in
    let size : length c.parts-own.result.now ≡ 2048 * header.granules = ap length c.parts-own.ensures ∙ length-part_of c.args.words.now header.granules header.arenas c.loop-arena.arena c.requires.size c.loop-arena-test.true in
    omega (arith, size)

pub add_repair-requires-clause-some : goal.add_repair-requires-clause-some
add_repair-requires-clause-some g c =
    let header = c.args.header.now in
    let size : length c.parts-own.result.now ≡ 2048 * header.granules = ap length c.parts-own.ensures ∙ length-part_of c.args.words.now header.granules header.arenas c.loop-arena.arena c.requires.size c.loop-arena-test.true in
    omega (arith, size, c.requires.some)

pub add_repair-requires-clause-few : goal.add_repair-requires-clause-few
add_repair-requires-clause-few g c =
    let header = c.args.header.now in
    let size : length c.parts-own.result.now ≡ 2048 * header.granules = ap length c.parts-own.ensures ∙ length-part_of c.args.words.now header.granules header.arenas c.loop-arena.arena c.requires.size c.loop-arena-test.true in
    omega (arith, size, c.requires.granules)

pub returns-in-Err-add_repair-clause-unsound : goal.returns-in-Err-add_repair-clause-unsound
returns-in-Err-add_repair-clause-unsound g c =
    let rules = g.V.Variant.rules in
    let words = c.args.words.now in
    let header = c.args.header.now in
    let k = c.loop-arena.arena in
    wider c.in-Err-add_repair.fault (IsOwnDefect rules c.parts-own.result.now k) (HasUnsound rules words header)
    (λ arena defect own. record {
      inside = omega (arith, own.same, c.loop-arena-test.true);
      before = λ earlier below. g.met.V.Variant.was_sound (part_of words header.granules earlier) (part_of c.loop-arena.invariant.done.new header.granules earlier) (c.loop-arena.invariant.done.each earlier (omega (arith, below, own.same)));
      first = subst (λ (ws : List ℕ). rules.IsFirst ws defect) (c.parts-own.ensures ∙ ap (λ n. part_of words header.granules n) (sym own.same)) own.first;
    })
    c.in-Err-add_repair.ensures.defect

pub loop-arena-preserved : goal.loop-arena-preserved
loop-arena-preserved g c =
    let Is = g.V.Variant.rules.IsRepaired in
    let words = c.args.words.now in
    let header = c.args.header.now in
    let k = c.loop-arena.arena in
    let used = c.add_repair.new.piece in
    let kept = c.in-Ok-add_repair.ensures.piece in
    let full : c.loop-arena.piece.len ≡ 4096 = sym c.deref_mut.ensures.len ∙ ap length c.deref_mut.ensures.value ∙ c.loop-arena.invariant.piece in
    record {
      done = parts_more Is g.met.V.Variant.same_size words header.granules (length-part_of words header.granules header.arenas k c.requires.size c.loop-arena-test.true) c.loop-arena.invariant.done
          (subst (λ (ws : List ℕ). AddsPart Is ws c.loop-arena.bytes.items c.add_repair.new.bytes.items) c.parts-own.ensures c.in-Ok-add_repair.ensures.added);
      piece = length-take-le c.loop-arena.piece.len (used ++ drop (length used) c.loop-arena.piece.items) (omega (arith, length-append used (drop (length used) c.loop-arena.piece.items), kept, full)) ∙ full;
    }

pub returns-clause-repaired : goal.returns-clause-repaired
returns-clause-repaired g c =
    let header = c.args.header.now in
    let bytes = c.loop-arena.bytes.items in
    let all : c.loop-arena.arena ≡ header.arenas = omega (arith, c.loop-arena-test.false, c.loop-arena.auto.arena-end) in
    parts_repaired g.V.Variant.rules c.args.words.now header bytes c.requires.size (subst (λ n. HasParts g.V.Variant.rules.IsRepaired c.args.words.now header.granules n bytes) all c.loop-arena.invariant.done)
