use Rattle.std.proofs.Common.{◌≡◌, ◌≤◌, ◌+◌, ◌-◌, ◌∙◌, List, ℕ, length, take, drop, sym, arith, subst}
use Rattle.std.proofs.lemmas.List.{length-take-le, length-drop}
use borrow.Rule.Slice.PartMut.{put_mid}
use Rattle.program_io.specs.Streams.{Gives}
use Rattle.program_io.proofs.Bytes.{Gives-then}
use Rattle.program_io.proofs.Reading.{two_reads, length-put_mid}
use Rattle.program_io.proofs.input.fill.Goals as goal

pub loop-done-preserved : goal.loop-done-preserved
loop-done-preserved g c =
    let left = g.S.Source.left in
    let piece = c.loop-done.piece in
    let done = c.loop-done.done in
    let rest = c.args.most - done in
    let into = c.read.new.into in
    let n = c.in_ok-n.n in
    let within = c.loop-done.invariant.within in
    let buffer = c.loop-done.invariant.size in
    let inside : done + rest ≤ length piece = omega (arith, within, buffer, c.requires) in
    let size : length into ≡ rest = c.read.auto.into ∙ length-take-le rest (drop done piece) (omega (arith, length-drop done piece, inside)) in
    let few : n ≤ rest = let count = c.in_ok-n.ensures.count in omega (arith, count, c.read.auto.into, size) in
    let same : length (put_mid done rest piece into) ≡ length piece = length-put_mid done rest piece into inside size in
    record {
      within = omega (arith, few, within);
      size = same ∙ buffer;
      gives = subst (λ (bytes : List ℕ). Gives (left c.args.source.now) (left c.read.new.self) bytes) (sym (two_reads piece into done rest n inside size few))
          (Gives-then (left c.args.source.now) (left c.loop-done.source) (left c.read.new.self) (take done piece) (take n into) c.loop-done.invariant.gives c.in_ok-n.ensures.bytes);
      still = c.in_ok-n.ensures.still ∙ c.loop-done.invariant.still;
    }
