use Rattle.std.proofs.Common.{ℕ, ◌≡◌, ◌≢◌, List, sym, ap, subst, ◌∙◌, arith, ⊎_elim}
use Rattle.std.proofs.lemmas.Bool.{cases_eq}
use Rattle.pool_layout.specs.Image.{part_of}
use Rattle.image_runs.proofs.Faults.{wider}
use Rattle.map_text.specs.Pieces.{Adds}
use Rattle.nvpool.specs.Telling.{AreTold, IsToldAs, HasUnsound, IsOwnDefect, front_of}
use Rattle.nvpool.proofs.Told.{told_none, told_more}
use Rattle.nvpool.proofs.telling.tell_arenas.Goals as goal

pub loop-arena-init : goal.loop-arena-init
loop-arena-init g c =
    let maps = g.V.Variant.rules.maps in
    record {
      told = subst (Adds (AreTold maps c.args.form c.args.words.now c.args.header.now 0) (front_of c.args.form c.args.header.now)) (sym c.in-Ok.ensures) (told_none maps c.args.form c.args.words.now c.args.header.now (front_of c.args.form c.args.header.now));
      sound = λ k below. absurd (omega arith);
    }

pub returns-in-Err-tell_one-clause-unsound : goal.returns-in-Err-tell_one-clause-unsound
returns-in-Err-tell_one-clause-unsound g c =
    let rules = g.V.Variant.rules in
    let words = c.args.words.now in
    let header = c.args.header.now in
    let k = c.loop-arena.arena in
    wider c.in-Err-tell_one.fault (IsOwnDefect rules c.parts-own.result.now k) (HasUnsound rules words header)
    (λ arena defect own. record {
      inside = omega (arith, own.same, c.loop-arena-test.true);
      before = λ earlier below. c.loop-arena.invariant.sound earlier (omega (arith, below, own.same));
      first = subst (λ (ws : List ℕ). rules.IsFirst ws defect) (c.parts-own.ensures ∙ ap (λ n. part_of words header.granules n) (sym own.same)) own.first;
    })
    c.in-Err-tell_one.ensures.defect

pub loop-arena-preserved : goal.loop-arena-preserved
loop-arena-preserved g c =
    let maps = g.V.Variant.rules.maps in
    let words = c.args.words.now in
    let header = c.args.header.now in
    let n = c.loop-arena.arena in
    record {
      told = told_more maps c.args.form words header n (front_of c.args.form header) c.loop-arena.text.items c.tell_one.new.text.items c.loop-arena.invariant.told
          (subst (λ (ws : List ℕ). Adds (IsToldAs maps c.args.form header ws n) c.loop-arena.text.items c.tell_one.new.text.items) c.parts-own.ensures c.in-Ok-tell_one.ensures.told);
      sound = λ k below. ⊎_elim
          (λ (same : k ≡ n). subst maps.IsSound (c.parts-own.ensures ∙ ap (λ m. part_of words header.granules m) (sym same)) c.in-Ok-tell_one.ensures.sound)
          (λ (other : k ≢ n). c.loop-arena.invariant.sound k (omega (arith, below, other)))
          (cases_eq k n);
    }
