use Rattle.std.proofs.Common.{◌-◌, ◌++◌, ◌∷◌, [], ◌%◌, ◌/◌, ◌+◌, sym, ap, ◌∙◌, arith, append_assoc, append-nil}
use Rattle.book_log.proofs.Common.{common_steps, most_chunks, chunks_named}
use Rattle.book_log.proofs.Directories.{named_first, named_last, named_more}
use Rattle.book_log.proofs.directory.active_chunks.Goals as goal

pub loop-byte-init : goal.loop-byte-init
loop-byte-init c =
    record {
      count = grind (arith, common_steps);
      whole = ap (λ xs. xs ++ chunks_named (most_chunks - 0) c.args.directory) c.new-chunks.ensures ∙ named_first c.args.directory;
    }

pub loop-byte-preserved : goal.loop-byte-preserved
loop-byte-preserved c =
    let l = c.loop-byte in
    let byte = l.rest % 256 in
    let rest = chunks_named (most_chunks - (l._byte + 1)) (l.rest / 256) in
    record {
      count = omega (arith, c.push.ensures.len, l.invariant.count);
      whole =
          ap (λ xs. xs ++ rest) c.push.ensures.items
          ∙ append_assoc l.chunks.items ((byte - 1) ∷ []) rest
          ∙ ap (λ xs. l.chunks.items ++ xs) (sym (named_more l._byte l.rest (omega arith) (omega arith) (omega arith)))
          ∙ l.invariant.whole;
    }

pub returns : goal.returns
returns c =
    let l = c.loop-byte in
    sym (append-nil l.chunks.items) ∙ ap (λ xs. l.chunks.items ++ xs) (sym (named_last l._byte l.rest (omega arith))) ∙ l.invariant.whole
