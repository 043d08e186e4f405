use Rattle.std.proofs.Common.{◌∙◌, arith}
use Rattle.log_room.proofs.Listing.{spare_none, spare_more, spare_same, spare_full, spare_all}
use Rattle.log_room.proofs.chunks.spare_chunks.Goals as goal
use Rattle.log_room.proofs.chunks.spare_chunks.Goals.{then-len-count+then-not-contains, else-len-count, else-len-count-via-then-len-count+else-not-contains, else-len-count-via-else-len-count}
use Rattle.std.proofs.Common.{sym}

pub loop-chunk-init : goal.loop-chunk-init
loop-chunk-init c = c.new-spare.ensures ∙ spare_none c.args.active.now c.args.count

pub loop-chunk-preserved : goal.loop-chunk-preserved
loop-chunk-preserved c =
    let active = c.args.active.now in
    let count = c.args.count in
    let chunk = c.loop-chunk.chunk-counter in
    let spare = c.loop-chunk.spare.items in
    elim c.if-len-count.branch [
      | then-len-count+then-not-contains w ↦
          rw w.spare-is (w.push.ensures.items ∙ spare_more active count chunk spare c.loop-chunk.invariant (omega (arith, w.if-len-count.true, c.len.ensures.value)) (sym w.contains.ensures.value ∙ w.if-not-contains.true))
      | else-len-count w ↦ elim w.else-len-count.branch [
        | else-len-count-via-then-len-count+else-not-contains v ↦ rw w.spare-is (spare_same active count chunk spare c.loop-chunk.invariant (sym v.contains.ensures.value ∙ v.if-not-contains.false))
        | else-len-count-via-else-len-count v ↦ rw w.spare-is (spare_full active count chunk spare c.loop-chunk.invariant (omega (arith, v.if-len-count.false, c.len.ensures.value)))
      ]
    ]

pub returns : goal.returns
returns c = spare_all c.args.active.now c.args.count c.loop-chunk.chunk-counter c.loop-chunk.spare.items c.loop-chunk.invariant (omega arith) (omega arith)
