use Rattle.std.proofs.Common.{◌∙◌, sym, arith}
use Rattle.std.proofs.lemmas.Bool.{eqb-true, eq-eqb}
use Rattle.defect_search.proofs.DirectoryBytes.{same-first, same-more, same-none, same-last}
use Rattle.defect_search.proofs.directory.is_whole.Goals as goal

pub loop-byte-init : goal.loop-byte-init
loop-byte-init c = same-first c.args.directory

pub loop-byte-preserved : goal.loop-byte-preserved
loop-byte-preserved c = same-more c.args.directory c.loop-byte._byte c.loop-byte.rest (omega arith) (sym c.names_chunk.ensures ∙ c.if-not-names_chunk.false) c.loop-byte.invariant

pub returns-then-not-names_chunk : goal.returns-then-not-names_chunk
returns-then-not-names_chunk c =
    let rest = c.loop-byte.rest in
    let same = same-none c.args.directory c.loop-byte._byte rest (omega arith) (sym c.names_chunk.ensures ∙ c.if-not-names_chunk.true) c.loop-byte.invariant in
    (λ zero. same.0 (eqb-true rest 0 zero), λ whole. eq-eqb rest 0 (same.1 whole))

pub returns : goal.returns
returns c =
    let rest = c.loop-byte.rest in
    let same = same-last c.args.directory c.loop-byte._byte rest (omega arith) c.loop-byte.invariant in
    (λ zero. same.0 (eqb-true rest 0 zero), λ whole. eq-eqb rest 0 (same.1 whole))
