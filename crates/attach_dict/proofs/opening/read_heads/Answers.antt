use Rattle.std.proofs.Common.{◌≡◌, ◌<◌, ℕ, List, ◌∷◌, ◌++◌, [], sym, subst, arith, ◌+◌}
use Rattle.pmem_lines.specs.Pmem.{words_of}
use Rattle.attach_dict.proofs.Common.{bounds_of}
use Rattle.attach_dict.specs.Dict.{stage}
use Rattle.attach_dict.specs.declared.heads.Head.{Head}
use Rattle.attach_dict.specs.Reading.{IsScanned}
use Rattle.attach_dict.proofs.Answered.{stage_rooted}
use Rattle.attach_dict.proofs.Scans.{scanned_empty, scanned_pair}
use Rattle.attach_dict.proofs.opening.read_heads.Goals.{in-Empty, in-Pair+in_ok-push-in-Pair}
use Rattle.attach_dict.proofs.opening.read_heads.Goals as goal

pub loop-root-preserved : goal.loop-root-preserved
loop-root-preserved g c =
    let words = words_of c.args.arena.now.device in
    let root = c.loop-root.root in
    let low : stage < root = omega (arith, c.loop-root.auto.root) in
    let high : root < (bounds_of words).roots = omega (arith, c.loop-root-test.true, c.roots_of-root-end.ensures.roots) in
    elim c.match-pair_at.branch [
      | in-Empty w ↦ rw (w.index-is, w.heads-is) (scanned_empty words root c.loop-root.heads.items c.loop-root.index c.loop-root.invariant low w.add.new.self w.in-Empty.ensures.reading w.add.ensures)
      | in-Pair+in_ok-push-in-Pair w ↦
          rw (w.index-is, w.heads-is)
          (subst (λ (hs : List Head). IsScanned words (root + 1) hs (record { keys = c.loop-root.index.keys; numbers = w.set.new.self; free = c.loop-root.index.free; stale = c.loop-root.index.stale; block = c.loop-root.index.block })) (sym w.in_ok-push-in-Pair.ensures.items)
          (subst (λ (ns : List ℕ). IsScanned words (root + 1) (c.loop-root.heads.items ++ w.in-Pair.head ∷ []) (record { keys = c.loop-root.index.keys; numbers = ns; free = c.loop-root.index.free; stale = c.loop-root.index.stale; block = c.loop-root.index.block })) (sym w.set.ensures)
          (scanned_pair words root c.loop-root.heads.items c.loop-root.index c.loop-root.invariant low w.in-Pair.head w.in-Pair.ensures.reading.0 w.in-Pair.ensures.reading.1 high)))
    ]

pub returns : goal.returns
returns g c =
    let words = words_of c.args.arena.now.device in
    let some : 0 < (bounds_of words).roots = stage_rooted words in
    let last : c.loop-root.root ≡ (bounds_of words).roots = omega (arith, some, c.loop-root-test.false, c.loop-root.auto.root-end, c.roots_of-root-end.ensures.roots) in
    subst (λ (n : ℕ). IsScanned words n c.loop-root.heads.items c.loop-root.index) last c.loop-root.invariant
