use Rattle.std.proofs.Common.{ℕ, List, ◌∙◌, ap, get_or, set}
use Rattle.heap_model.specs.declared.call.Reply.TheVariants.{Placed}
use Rattle.serve_runs.proofs.Common.{Malloc, Entry}
use Rattle.serve_runs.proofs.Signing.{sign_more}
use Rattle.serve_runs.proofs.closing.sign.Goals as goal

pub loop-k-preserved : goal.loop-k-preserved
loop-k-preserved c =
    let d : Entry = record { seat = 0; call = Malloc 0 0; reply = Placed 0 0 } in
    let k = c.loop-k.k in
    let senders = c.args.senders.now in
    ap (λ (es : List Entry). set es k (record (get_or es k d) { seat = get_or senders k 0 })) c.loop-k.invariant ∙ sign_more k senders c.args.journal.now d c.loop-k-test.true c.requires
