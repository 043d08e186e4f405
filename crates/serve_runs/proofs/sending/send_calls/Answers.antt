use Rattle.std.proofs.Common.{rules, ◌≡◌, ◌<◌, ◌≤◌, ◌+◌, ◌++◌, [], ◌∷◌, ◌∙◌, ap, sym, subst, length, List, take, get_or}
use Rattle.serve_runs.proofs.Common.{Malloc, TraceCall, SenderState, IsSenderOf}
use Rattle.trace_runs.proofs.ThreadNumbers.{take_next, in_at}
use Rattle.serve_runs.specs.Sent.{HasSentAll}
use Rattle.serve_runs.proofs.Sends.{sender_more, has_line, sent_other, sent_more}
use Rattle.serve_runs.proofs.sending.send_calls.Goals as goal
use Rattle.serve_runs.proofs.sending.send_calls.Goals.{then-call-number, else-call-number}

pub send-requires-clause-arena : goal.send-requires-clause-arena
send-requires-clause-arena g c =
    let room : c.loop-k.k < length c.args.calls.now = search rules in
    in_at (length c.args.server.now.queues) c.args.calls.now c.loop-k.k (record { thread = 0; arena = 0; call = Malloc 0 0 }) room c.requires.arenas

pub loop-k-init : goal.loop-k-init
loop-k-init g c = (c.requires.sender, search rules, search rules, c.requires.none)

pub loop-k-preserved : goal.loop-k-preserved
loop-k-preserved g c =
    let d : TraceCall = record { thread = 0; arena = 0; call = Malloc 0 0 } in
    let calls = c.args.calls.now in
    let k = c.loop-k.k in
    let call : TraceCall = get_or calls k d in
    let s = c.loop-k.sender in
    let server = c.args.server.now in
    let inv = c.loop-k.invariant in
    let room : k < length calls = search rules in
    let number : s.number ≡ c.args.sender.now.number = inv.1 in
    let next : take k calls ++ call ∷ [] ≡ take (k + 1) calls = take_next calls k d room in
    elim c.if-call-number.branch [
      | then-call-number w ↦
          let q = w.send.new.sender in
          let mine : call.thread ≡ s.number = w.if-call-number.true ∙ (c.number-number.ensures ∙ sym number) in
          let line = has_line server s call.arena inv.0 (in_at (length server.queues) calls k d room c.requires.arenas) in
          let done : HasSentAll (take k calls ++ call ∷ []) q = subst (HasSentAll (take k calls ++ call ∷ [])) (sym w.send.ensures) (sent_more (take k calls) call s line mine inv.3) in
          let of : IsSenderOf server q = subst (IsSenderOf server) (sym w.send.ensures) (sender_more server s call.arena _ inv.0) in
          let same : q.number ≡ s.number = ap (λ (z : SenderState). z.number) w.send.ensures in
          let made : c.if-call-number.sent ≤ k + 1 = search rules in
          subst (λ (z : SenderState). IsSenderOf server z × (z.number ≡ c.args.sender.now.number) × (c.if-call-number.sent ≤ k + 1) × HasSentAll (take (k + 1) calls) z) (sym w.sender-is)
          (of, same ∙ number, made, subst (λ (l : List TraceCall). HasSentAll l q) next done)
      | else-call-number w ↦
          let done : HasSentAll (take k calls ++ call ∷ []) s = sent_other (take k calls) call s (λ e. w.if-call-number.false (e ∙ (number ∙ sym c.number-number.ensures))) inv.3 in
          let made : c.if-call-number.sent ≤ k + 1 = search rules in
          subst (λ (z : SenderState). IsSenderOf server z × (z.number ≡ c.args.sender.now.number) × (c.if-call-number.sent ≤ k + 1) × HasSentAll (take (k + 1) calls) z) (sym w.sender-is)
          (inv.0, number, made, subst (λ (l : List TraceCall). HasSentAll l s) next done)
    ]
